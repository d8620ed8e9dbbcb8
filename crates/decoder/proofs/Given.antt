-- The samples of a block that is heard, place by place, are those of its definition.
use Rattle.std.proofs.Common.{◌≡◌, ◌^◌, ℕ, ◌+◌, ◌-◌, ◌*◌, ◌%◌, ◌<◌, Bool, true, false, cond, eqb, List, [], ◌∷◌, ◌++◌, map, length, get_or, replicate, ℤ, pos, ◌+ℤ◌, sym, refl, ap, ◌∙◌, subst, ⊎_elim, arith}
use lib.Signed.{mag}
use Rattle.std.specs.List.{range_with_len, flat_map}
use Rattle.std.proofs.lemmas.Int.{ints, clamps}
use Rattle.std.proofs.Math.ListN.{get_or-eq_default}
use Rattle.std.proofs.lemmas.List.FromFn.{fill_by_all, get_or-map-range_with_len}
use Rattle.std.proofs.lemmas.Bool.Decides.{nat_tests}
use Rattle.std.proofs.lemmas.Grind.{common_steps}
use Rattle.std.proofs.lemmas.Bool.{cases_lt}
use Rattle.decoder.specs.declared.follower.Follower.{Follower}
use Rattle.decoder.specs.Findings.{mutes}
use Rattle.decoder.specs.Levels.{mean, sample}
use Rattle.decoder.specs.Samples.{Received, odd_level, share, side, level_at, pair_of, sample_at, samples_of}

-- silence
pub muted_samples : (b : Received) (next : Follower) → mutes b.found ≡ true → replicate 32 (pos 0) ≡ samples_of b next
unfolding samples_of
muted_samples b next m = sym (ap (λ t. map (λ i. cond t (pos 0) (sample (level_at b next (i + 1)))) (range_with_len 0 32)) m)

module _ (b : Received) (next : Follower) (heard : mutes b.found ≡ false) (k : ℕ) where
  pub odd_sample : sample_at b next (2 * k + 1) ≡ sample (odd_level b (2 * k + 1))
  odd_sample = grind (arith, nat_tests)

  pub even_sample : sample_at b next (2 * k + 2) ≡ sample (share b (2 * k + 2) +ℤ mean (side b next (2 * k + 1)) (side b next (2 * (k + 1) + 1)))
  even_sample =
      let odd : eqb ((2 * k + 2) % 2) 1 ≡ false = grind (arith, nat_tests) in
      let before : 2 * k + 2 - 1 ≡ 2 * k + 1 = omega arith in
      let after : 2 * k + 2 + 1 ≡ 2 * (k + 1) + 1 = omega arith in
      rw (heard, odd, before, after) refl

-- the side of an odd sample is its level
pub inner_side : (b : Received) (next : Follower) (k : ℕ) → k < 16 → side b next (2 * k + 1) ≡ odd_level b (2 * k + 1)
inner_side b next k h = grind (arith, nat_tests)

-- the follower's level after sixteen
pub one_more : (f : ℕ → ℤ) (xs : List ℤ) (y z : ℤ) → length xs ≡ 16 → ((k : ℕ) → k < 16 → get_or xs k (pos 0) ≡ f (2 * k + 1)) → y ≡ z
    → (k : ℕ) → k < 17 → get_or (xs ++ y ∷ []) k (pos 0) ≡ cond (eqb (2 * k + 1) 33) z (f (2 * k + 1))
one_more f xs y z len all is k h = let at = all k in grind (arith, common_steps, nat_tests)

module _ (b : Received) (next : Follower) (sides shares : List ℤ) (heard : mutes b.found ≡ false)
    (at_side : (k : ℕ) → k < 17 → get_or sides k (pos 0) ≡ side b next (2 * k + 1))
    (at_share : (k : ℕ) → k < 16 → get_or shares k (pos 0) ≡ share b (2 * k + 2)) where
  pair : ℕ → List ℤ
  pair k = sample_at b next (2 * k + 1) ∷ sample_at b next (2 * k + 2) ∷ []

  pair_is : (k : ℕ) → k < 16 → pair_of sides shares k ≡ pair k
  unfolding pair
  pair_is k h =
      let own : sample (get_or sides k (pos 0)) ≡ sample_at b next (2 * k + 1) =
      ap sample (at_side k (omega arith) ∙ inner_side b next k h) ∙ sym (odd_sample b next heard k) in
      let even = at_side k (omega arith) in
      let after = at_side (k + 1) (omega arith) in
      rw (own, at_share k h, even, after, ← even_sample b next heard k) refl

  pub heard_samples : (pairs : List (List ℤ)) → length pairs ≡ 16 → ((k : ℕ) → k < 16 → get_or pairs k [] ≡ pair_of sides shares k) → flat_map (λ x. x) pairs ≡ samples_of b next
  unfolding samples_of pair
  heard_samples pairs len each = ap (flat_map (λ x. x)) (fill_by_all pair pairs 16 [] len (λ k h. each k h ∙ pair_is k h))

-- a sample is held
sample_small : (l : ℤ) → mag (sample l) < 2 ^ 13
sample_small l = grind (arith, ints, clamps)

given_small : (muted : Bool) (l : ℤ) → mag (cond muted (pos 0) (sample l)) < 2 ^ 13
given_small true l = omega arith
given_small false l = sample_small l

pub samples_small : (b : Received) (next : Follower) (k : ℕ) → mag (get_or (samples_of b next) k (pos 0)) < 2 ^ 13
unfolding samples_of
samples_small b next k =
    let all = λ (i : ℕ). sample_at b next (i + 1) in
    ⊎_elim
    (λ lt. subst (λ (z : ℤ). mag z < 2 ^ 13) (sym (get_or-map-range_with_len all 0 32 k k (pos 0) lt (omega arith))) (given_small (mutes b.found) (level_at b next (k + 1))))
    (λ ge. subst (λ (z : ℤ). mag z < 2 ^ 13) (sym (get_or-eq_default (map all (range_with_len 0 32)) (pos 0) {n = k} ge)) (omega arith))
    (cases_lt k 32)
