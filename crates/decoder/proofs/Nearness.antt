-- Where a sample is sound, its level is made of codes that count, so it is as near as they are.
use Rattle.std.proofs.Common.{◌≡◌, ℕ, ◌+◌, ◌-◌, ◌*◌, ◌%◌, ◌^◌, ◌≤◌, Bool, true, false, cond, not, eqb, ℤ, pos, ◌+ℤ◌, sym, refl, ap, ◌∙◌, subst, ⊎_elim, mul-add, arith}
use Rattle.std.proofs.lemmas.Int.{ints}
use Rattle.std.proofs.lemmas.Bool.Decides.{nat_tests}
use Rattle.std.proofs.lemmas.List.FromFn.{get_or-map-range_with_len}
use Rattle.std.proofs.lemmas.Bool.{cond-true, cond-false, cases_eq, eq-eqb, ne_eqb, false≢true}
use Rattle.decoder.specs.declared.follower.Follower.{Follower}
use Rattle.decoder.specs.declared.follower.Follower.TheVariants.{Muted, Concealed, Sound}
use Rattle.decoder.specs.Findings.{Finding, mutes, conceals}
use Rattle.decoder.specs.Levels.{level, mean}
use Rattle.decoder.specs.Samples.{Received, code_at, odd_level, after, side, level_at, sample_at, samples_of, follower_of}
use Rattle.decoder.specs.Marks.{is_sound, sound}
use Rattle.decoder.specs.Closeness.{distance, side_sent, level_sent, reach, Arrived, StaysNear}
use Rattle.decoder.proofs.Middles.{middle, middle_near, mean_of_levels}

-- a level moves by four widths for each code, a mean of two levels by two widths of each
level_near : (r : ℕ) (c d : ℤ) (e : ℕ) → distance c d ≤ e → distance (level r c) (level r d) ≤ e * (4 * 2 ^ r)
level_near r c d e h =
    let twice : 2 * e * (2 * 2 ^ r) ≡ e * (4 * 2 ^ r) = omega arith in
    subst (λ (b : ℕ). distance (level r c) (level r d) ≤ b) twice (middle_near c d e (2 * 2 ^ r) h)

three_near : (x x' y y' z z' : ℤ) (b c d : ℕ) → distance x x' ≤ b → distance y y' ≤ c → distance z z' ≤ d
    → distance (x +ℤ (y +ℤ z)) (x' +ℤ (y' +ℤ z')) ≤ b + c + d
three_near x x' y y' z z' b c d p q t = omega (arith, ints)

even_near : (r a s : ℕ) (c c' d d' h h' : ℤ) (e : ℕ) → distance c c' ≤ e → distance d d' ≤ e → distance h h' ≤ e
    → distance (level (r + a) c +ℤ mean (level r d) (level s h)) (level (r + a) c' +ℤ mean (level r d') (level s h'))
    ≤ e * (4 * 2 ^ (r + a) + 2 * 2 ^ r + 2 * 2 ^ s)
even_near r a s c c' d d' h h' e cn dn hn =
    let n = three_near (level (r + a) c) (level (r + a) c') (middle (2 ^ r) d) (middle (2 ^ r) d') (middle (2 ^ s) h) (middle (2 ^ s) h')
    (e * (4 * 2 ^ (r + a))) (2 * e * 2 ^ r) (2 * e * 2 ^ s)
    (level_near (r + a) c c' e cn) (middle_near d d' e (2 ^ r) dn) (middle_near h h' e (2 ^ s) hn) in
    let b : e * (4 * 2 ^ (r + a)) + 2 * e * 2 ^ r + 2 * e * 2 ^ s ≡ e * (4 * 2 ^ (r + a) + 2 * 2 ^ r + 2 * 2 ^ s) =
    omega (arith, mul-add e (4 * 2 ^ (r + a) + 2 * 2 ^ r) (2 * 2 ^ s), mul-add e (4 * 2 ^ (r + a)) (2 * 2 ^ r)) in
    rw (mean_of_levels r s d h, mean_of_levels r s d' h') (rw b at n)

moved : (x x' y y' : ℤ) (b b' : ℕ) → x ≡ x' → y ≡ y' → b ≡ b' → distance x' y' ≤ b' → distance x y ≤ b
moved x x' y y' b b' p q t h =
    subst (λ (z : ℤ). distance z y ≤ b) (sym p) (subst (λ (z : ℤ). distance x' z ≤ b) (sym q) (subst (λ (z : ℕ). distance x' y' ≤ z) (sym t) h))

-- what soundness says of a sample and of its neighbours
sound_itself : (found : Finding) (follower : Bool) (n : ℕ) → sound found follower n ≡ true → (mutes found ≡ false) × (conceals found n ≡ false)
sound_itself found follower n t = (grind (arith, nat_tests), grind (arith, nat_tests))

sound_beside : (found : Finding) (follower : Bool) (n : ℕ) → n % 2 ≡ 0 → sound found follower n ≡ true
    → (conceals found (n - 1) ≡ false) × (cond (eqb n 32) follower (not (conceals found (n + 1))) ≡ true)
sound_beside found follower n even t = (grind (arith, nat_tests), grind (arith, nat_tests))

sounds : (next : Follower) → is_sound next ≡ true → (l : ℤ) × (next ≡ Sound l)
sounds Muted t = absurd (false≢true t)
sounds (Concealed l) t = absurd (false≢true t)
sounds (Sound l) t = (l, refl)

last_follows : (n : ℕ) → eqb (n + 1) 33 ≡ eqb n 32
last_follows n = grind (arith, nat_tests)

module _ (e s : ℕ) (code : ℕ → ℤ) (b : Received) (next : Follower) (w : Arrived e s code b next) where
  abbrev r : ℕ
  r = b.basic

  abbrev a : ℕ
  a = b.additional

  -- a level that counts, of an odd sample or of the follower, is that of a code near the one sent
  pub record Counts (n : ℕ) : Type 0 where
    pub heard : ℤ
    pub is : side b next n ≡ level (cond (eqb n 33) s r) heard
    pub near : distance heard (code n) ≤ e

  own_counts : (n : ℕ) → 1 ≤ n → n ≤ 32 → conceals b.found n ≡ false → Counts n
  own_counts n from upto kept =
      let other : eqb n 33 ≡ false = ne_eqb n 33 (λ q. omega arith) in
      record {
        heard = code_at b n;
        is = cond-false _ _ _ other ∙ cond-false _ _ _ kept ∙ ap (λ m. level m (code_at b n)) (sym (cond-false _ s r other));
        near = w.codes n from upto kept;
      }

  follower_counts : is_sound next ≡ true → Counts 33
  follower_counts t =
      let f = sounds next t in
      let g = w.follower f.0 f.1 in
      record { heard = g.0; is = ap (λ x. after x (odd_level b 31)) f.1 ∙ g.1; near = g.2 }

  next_counts : (n : ℕ) → n ≤ 32 → cond (eqb n 32) (is_sound next) (not (conceals b.found (n + 1))) ≡ true → Counts (n + 1)
  next_counts n upto t = ⊎_elim
      (λ (last : n ≡ 32). let m : 33 ≡ n + 1 = omega arith in subst Counts m (follower_counts (grind (arith, nat_tests))))
      (λ (inner : n ≡ 32 → ⊥). own_counts (n + 1) (omega arith) (omega arith) (grind (arith, nat_tests)))
      (cases_eq n 32)

  odd_stays : (n : ℕ) → 1 ≤ n → n ≤ 32 → n % 2 ≡ 1 → conceals b.found n ≡ false → distance (level_at b next n) (level_sent r a s code n) ≤ e * reach r a s n
  odd_stays n from upto odd kept =
      let t = eq-eqb (n % 2) 1 odd in
      moved _ (level r (code_at b n)) _ (level r (code n)) _ (e * (4 * 2 ^ r))
      (cond-true _ _ _ t ∙ cond-false _ _ _ kept) (cond-true _ _ _ t) (ap (λ x. e * x) (cond-true _ _ _ t))
      (level_near r (code_at b n) (code n) e (w.codes n from upto kept))

  even_stays : (n : ℕ) → 1 ≤ n → n ≤ 32 → n % 2 ≡ 0 → sound b.found (is_sound next) n ≡ true → distance (level_at b next n) (level_sent r a s code n) ≤ e * reach r a s n
  even_stays n from upto even t =
      let odd : eqb (n % 2) 1 ≡ false = ne_eqb (n % 2) 1 (λ q. omega arith) in
      let kept = (sound_itself b.found (is_sound next) n t).1 in
      let beside = sound_beside b.found (is_sound next) n even t in
      let before = own_counts (n - 1) (omega arith) (omega arith) beside.0 in
      let after = next_counts n upto beside.1 in
      let first : cond (eqb (n - 1) 33) s r ≡ r = cond-false _ _ _ (ne_eqb (n - 1) 33 (λ q. omega arith)) in
      let second : cond (eqb (n + 1) 33) s r ≡ cond (eqb n 32) s r = ap (λ q. cond q s r) (last_follows n) in
      let z = cond (eqb n 32) s r in
      let own = level (r + a) (code_at b n) in
      let sent = level (r + a) (code n) in
      moved _ (own +ℤ mean (level r before.heard) (level z after.heard)) _ (sent +ℤ mean (level r (code (n - 1))) (level z (code (n + 1)))) _
      (e * (4 * 2 ^ (r + a) + 2 * 2 ^ r + 2 * 2 ^ z))
      (cond-false _ _ _ odd
      ∙ ap (λ x. x +ℤ mean (side b next (n - 1)) (side b next (n + 1))) (cond-false _ _ _ kept)
      ∙ ap (λ x. own +ℤ mean x (side b next (n + 1))) (before.is ∙ ap (λ m. level m before.heard) first)
      ∙ ap (λ x. own +ℤ mean (level r before.heard) x) (after.is ∙ ap (λ m. level m after.heard) second))
      (cond-false _ _ _ odd
      ∙ ap (λ m. sent +ℤ mean (level m (code (n - 1))) (side_sent r s code (n + 1))) first
      ∙ ap (λ m. sent +ℤ mean (level r (code (n - 1))) (level m (code (n + 1)))) second)
      (ap (λ x. e * x) (cond-false _ _ _ odd))
      (even_near r a z (code_at b n) (code n) before.heard (code (n - 1)) after.heard (code (n + 1)) e (w.codes n from upto kept) before.near after.near)

pub stays_near : (b : Received) (next : Follower) → StaysNear b next (samples_of b next)
unfolding samples_of
stays_near b next e s code w n from upto t =
    let m = sound_itself b.found (is_sound next) n t in
    let place : n - 1 + 1 ≡ n = omega arith in
    record {
      gives = get_or-map-range_with_len (λ i. sample_at b next (i + 1)) 0 32 (n - 1) (n - 1) (pos 0) (omega arith) (omega arith)
          ∙ ap (sample_at b next) place ∙ cond-false _ _ _ m.0;
      near = ⊎_elim
          (λ (odd : n % 2 ≡ 1). odd_stays e s code b next w n from upto odd m.1)
          (λ (even : n % 2 ≡ 1 → ⊥). even_stays e s code b next w n from upto (omega arith) t)
          (cases_eq (n % 2) 1);
    }

-- a follower that is sound has the level of its block's own first code
pub record SoundFirst (b : Received) (l : ℤ) : Type 0 where
  pub heard : mutes b.found ≡ false
  pub kept : conceals b.found 1 ≡ false
  pub is : l ≡ level b.basic (code_at b 1)

one_of_three : (m c : Bool) (x y l : ℤ) → cond m Muted (cond c (Concealed x) (Sound y)) ≡ Sound l → (m ≡ false) × (c ≡ false) × (l ≡ y)
one_of_three true c x y l e = absurd cc
one_of_three false true x y l e = absurd cc
one_of_three false false x y l e = (refl, refl, cc)

pub sound_first : (b : Received) (l : ℤ) → follower_of b ≡ Sound l → SoundFirst b l
sound_first b l e =
    let p = one_of_three (mutes b.found) (conceals b.found 1) (odd_level b 1) (odd_level b 1) l e in
    record { heard = p.0; kept = p.1; is = p.2 ∙ cond-false _ _ _ p.1 }
