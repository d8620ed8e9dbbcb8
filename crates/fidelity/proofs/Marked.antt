-- Verdicts that are clean or point at a touched guard bit mute no block and take few marks, whichever octet of the four frames is damaged.
use Rattle.std.proofs.Common.{◌≡◌, ℕ, ◌+◌, ◌-◌, ◌<◌, ◌≤◌, Bool, true, false, cond, not, ◌&&◌, eqb, ltb, leb, ◌⊎◌, ℤ, sym, refl, ap, ◌∙◌, subst, inl, inr, arith}
use Rattle.std.proofs.lemmas.Bool.{and_parts, leb-true, cond-false, ne_eqb}
use Rattle.std.proofs.lemmas.Bool.Decides.{nat_tests}
use Rattle.guards.specs.Counts.{same_at, below, each}
use Rattle.frames.specs.Places.{IsSample, lies}
use Rattle.damage.specs.Damage.{guard_at, touched}
use Rattle.decoder.specs.declared.follower.Follower.TheVariants.{Concealed, Sound}
use Rattle.decoder.specs.Findings.{Finding, clean, mutes, conceals}
use Rattle.decoder.specs.Verdicts.{hurt_at}
use Rattle.decoder.specs.Samples.{Received, odd_level, follower_of}
use Rattle.decoder.specs.Marks.{is_sound, sound, marks_of}
use Rattle.fidelity.specs.Kept.{unmarked}
use Rattle.fidelity.proofs.Faithful.{Found}

none_mutes : (k : ℕ) → 1 ≤ k → k < 1 + 29 → mutes (hurt_at k) ≡ false
none_mutes = same_at (λ k. mutes (hurt_at k)) (λ _. false) 1 29 refl

pub heard_by : (k : ℕ) (found : Finding) → Found k found → mutes found ≡ false
heard_by k found (inl is) = ap mutes is
heard_by k found (inr (from, upto, is)) = ap mutes is ∙ none_mutes k from (omega arith)

-- a follower that is heard is sound unless it is concealed
follower_sound : (b : Received) → mutes b.found ≡ false → is_sound (follower_of b) ≡ not (conceals b.found 1)
follower_sound b m = ap is_sound (cond-false _ _ _ m) ∙ by (conceals b.found 1) (odd_level b 1)
  where
    by : (c : Bool) (l : ℤ) → is_sound (cond c (Concealed l) (Sound l)) ≡ not c
    by true l = refl
    by false l = refl

-- beside a clean block, a clean block has all its marks
is_clean : (found : Finding) → Found 0 found → found ≡ clean
is_clean found (inl is) = is
is_clean found (inr (from, upto, is)) = absurd (omega arith)

clean_is_sound : (n : ℕ) → 1 ≤ n → n < 1 + 32 → sound clean true n ≡ true
clean_is_sound = same_at (sound clean true) (λ _. true) 1 32 refl

pub clean_beside : (b b' : Received) → Found 0 b.found → Found 0 b'.found → (n : ℕ) → IsSample n → sound b.found (is_sound (follower_of b')) n ≡ true
clean_beside b b' f f' n is =
    let next : is_sound (follower_of b') ≡ true = follower_sound b' (heard_by 0 b'.found f') ∙ ap (λ found. not (conceals found 1)) (is_clean b'.found f') in
    ap (λ found. sound found (is_sound (follower_of b')) n) (is_clean b.found f) ∙ ap (λ t. sound clean t n) next ∙ clean_is_sound n is.from (omega (arith, is.upto))

-- how many samples lack the mark, by what is found of the block and of the next one
abbrev lacking : Finding → Finding → ℕ
lacking found next = unmarked (marks_of found (not (conceals next 1)))

abbrev found_by : ℕ → Finding
found_by k = cond (eqb k 0) clean (hurt_at k)

-- guard bit k or none in the block, k' or none in the next
abbrev few : ℕ → ℕ → Bool
few k k' =
    leb (lacking clean clean) 3 && (leb (lacking clean (found_by k')) 3 && (leb (lacking (found_by k) clean) 3 && leb (lacking (found_by k) (found_by k')) 3))

abbrev few_at : ℕ → ℕ → Bool
few_at e octet = few (touched 1 0 e octet) (touched 2 0 e octet) && few (touched 2 0 e octet) (touched 1 1 e octet)

all_few : below (λ e. below (few_at e) 80) 4 ≡ true
unfolding guard_at lies marks_of
all_few = refl

either : (k : ℕ) (found : Finding) → Found k found → (found ≡ clean) ⊎ (found ≡ found_by k)
either k found (inl is) = inl is
either k found (inr (from, upto, is)) = inr (is ∙ sym (cond-false _ _ _ (ne_eqb k 0 (λ z. omega arith))))

few_tells : (k k' : ℕ) → few k k' ≡ true → (b b' : Received) → Found k b.found → Found k' b'.found → unmarked (marks_of b.found (is_sound (follower_of b'))) ≤ 3
few_tells k k' t b b' f f' =
    let one = and_parts (leb (lacking clean clean) 3) _ t in
    let two = and_parts (leb (lacking clean (found_by k')) 3) _ one.1 in
    let three = and_parts (leb (lacking (found_by k) clean) 3) _ two.1 in
    subst (λ (t : Bool). unmarked (marks_of b.found t) ≤ 3) (sym (follower_sound b' (heard_by k' b'.found f')))
    (by one.0 two.0 three.0 three.1 (either k b.found f) (either k' b'.found f'))
  where
    at : (x y : Finding) → leb (lacking x y) 3 ≡ true → b.found ≡ x → b'.found ≡ y → lacking b.found b'.found ≤ 3
    at x y t p q = leb-true _ _ (ap (λ f. leb (lacking f b'.found) 3) p ∙ ap (λ g. leb (lacking x g) 3) q ∙ t)

    by : leb (lacking clean clean) 3 ≡ true → leb (lacking clean (found_by k')) 3 ≡ true → leb (lacking (found_by k) clean) 3 ≡ true → leb (lacking (found_by k) (found_by k')) 3 ≡ true
        → (b.found ≡ clean) ⊎ (b.found ≡ found_by k) → (b'.found ≡ clean) ⊎ (b'.found ≡ found_by k') → lacking b.found b'.found ≤ 3
    by none y x both (inl p) (inl q) = at clean clean none p q
    by none y x both (inl p) (inr q) = at clean (found_by k') y p q
    by none y x both (inr p) (inl q) = at (found_by k) clean x p q
    by none y x both (inr p) (inr q) = at (found_by k) (found_by k') both p q

-- only how far the frame is from the pair counts
moved : (N M frame d e block octet : ℕ) → M ≡ N + d → frame ≡ N + e → touched block M frame octet ≡ touched block d e octet
moved N M frame d e block octet p q =
    let a : frame - M ≡ e - d = omega arith in
    let b : ltb frame M ≡ ltb e d = grind (arith, nat_tests) in
    ap (λ x. cond (ltb frame M) 0 (guard_at block x octet)) a ∙ ap (λ t. cond t 0 (guard_at block (e - d) octet)) b

module _ (N frame octet : ℕ) (from : N ≤ frame) (upto : frame < N + 4) (inside : octet < 80) where
  tests : few_at (frame - N) octet ≡ true
  tests = each (few_at (frame - N)) 80 (each (λ e. below (few_at e) 80) 4 all_few (frame - N) (omega arith)) octet inside

  own : (block : ℕ) → touched block N frame octet ≡ touched block 0 (frame - N) octet
  own block = moved N N frame 0 (frame - N) block octet (omega arith) (omega arith)

  next : touched 1 (N + 1) frame octet ≡ touched 1 1 (frame - N) octet
  next = moved N (N + 1) frame 1 (frame - N) 1 octet (omega arith) (omega arith)

  -- of block b before block b'
  pub few_of_first : (b b' : Received) → Found (touched 1 N frame octet) b.found → Found (touched 2 N frame octet) b'.found
      → unmarked (marks_of b.found (is_sound (follower_of b'))) ≤ 3
  few_of_first = few_tells (touched 1 N frame octet) (touched 2 N frame octet)
      (ap (λ k. few k (touched 2 N frame octet)) (own 1) ∙ ap (few (touched 1 0 (frame - N) octet)) (own 2) ∙ (and_parts _ _ tests).0)

  pub few_of_second : (b b' : Received) → Found (touched 2 N frame octet) b.found → Found (touched 1 (N + 1) frame octet) b'.found
      → unmarked (marks_of b.found (is_sound (follower_of b'))) ≤ 3
  few_of_second = few_tells (touched 2 N frame octet) (touched 1 (N + 1) frame octet)
      (ap (λ k. few k (touched 1 (N + 1) frame octet)) (own 2) ∙ ap (few (touched 2 0 (frame - N) octet)) next ∙ (and_parts _ _ tests).1)
