-- What a range holds has words under its law, and the smallest ranges are the ranges as numbers.
use Rattle.std.proofs.Common.{◌≡◌, ℕ, zero, suc, ◌+◌, ◌*◌, ◌^◌, ◌<◌, ◌≤◌, true, false, ltb, List, length, get_or, ℤ, pos, negsuc, Decides, sym, refl, ap, ◌∙◌, subst, ⊎_elim, mul_assoc, arith}
use lib.Signed.{mag}
use Rattle.std.specs.List.{All}
use Rattle.std.proofs.lemmas.Int.{ints}
use Rattle.std.proofs.lemmas.Nat.{pow-add}
use Rattle.std.proofs.lemmas.List.Elements.{All-get_or}
use Rattle.std.proofs.lemmas.List.FromFn.{get_or-map-range_with_len, length-map-range_with_len}
use Rattle.std.proofs.lemmas.Bool.Decides.{Decides-by_and, Decides-ltb}
use Rattle.std.proofs.lemmas.Bool.{cond-true, cond-false, cases_lt}
use Rattle.words.specs.Meaning.{Inside}
use Rattle.words.specs.Signed.{signed, basic, additional}
use Rattle.blocks.specs.Ranges.{Holds, Smallest, Ranged, all_below, first_range, basic_range, additional_range, differences, difference_at}
use Rattle.blocks.specs.Coding.{odd_samples}

inside_signed : (bits half width : ℕ) (v : ℤ) → mag v < half * width → Inside (signed bits half width) v
inside_signed bits half width (pos a) h = record { above = omega (arith, ints); below = omega (arith, ints) }
inside_signed bits half width (negsuc a) h = record { above = omega (arith, ints); below = omega (arith, ints) }

module _ (samples : List ℤ) (n : length samples ≡ 33) (r : ℕ) where
  pub odd_inside : Holds 512 r samples → (k : ℕ) → k < 16 → Inside (basic r) (get_or (odd_samples samples) k (pos 0))
  unfolding odd_samples
  odd_inside all k h =
      inside_signed 10 512 (2 ^ r) _
      (subst (λ (v : ℤ). mag v < 512 * 2 ^ r) (sym (get_or-map-range_with_len (λ k. get_or samples (2 * k) (pos 0)) 0 16 k k (pos 0) h (omega arith)))
      (All-get_or (λ v. mag v < 512 * 2 ^ r) samples (2 * k) (pos 0) (omega arith) all))

  -- 256 codes, 2^(r+a+1) wide, are 512 * 2^r * 2^a values
  pub wide : (a : ℕ) → 256 * 2 ^ (r + a + 1) ≡ 512 * 2 ^ r * 2 ^ a
  wide a =
      let p : 2 ^ (r + a + 1) ≡ 2 ^ (r + a) * 2 = pow-add 2 (r + a) 1 in
      let q : 2 ^ (r + a) ≡ 2 ^ r * 2 ^ a = pow-add 2 r a in
      omega (arith, p, q, mul_assoc 512 (2 ^ r) (2 ^ a))

  pub even_inside : (a : ℕ) → Holds (512 * 2 ^ r) a (differences samples) → (k : ℕ) → k < 16 → Inside (additional r a) (get_or (differences samples) k (pos 0))
  unfolding differences
  even_inside a all k h =
      inside_signed 9 256 (2 ^ (r + a + 1)) _
      (subst (λ (limit : ℕ). mag (get_or (differences samples) k (pos 0)) < limit) (sym (wide a))
      (All-get_or (λ v. mag v < 512 * 2 ^ r * 2 ^ a) (differences samples) k (pos 0) (omega (arith, length-map-range_with_len (difference_at samples) 0 16)) all))

-- the test of a range
pub held_test : (limit : ℕ) (values : List ℤ) → Decides (all_below limit values) (All (λ v. mag v < limit) values)
held_test limit values = Decides-by_and (λ v. ltb (mag v) limit) (λ v. mag v < limit) (all_below limit) (λ v. Decides-ltb (mag v) limit) refl (λ _ _. refl) values

module _ (half : ℕ) (values : List ℤ) (r : ℕ) (s : Smallest half r values) where
  first_from : (n i : ℕ) → i ≤ r → r ≤ i + n → first_range half values i n ≡ r
  first_from zero i l u = omega arith
  first_from (suc n) i l u =
      let d = held_test (half * 2 ^ i) values in
      ⊎_elim
      (λ (lt : i < r).
      let no : all_below (half * 2 ^ i) values ≡ false = failed i lt in
      cond-false _ _ _ no ∙ first_from n (i + 1) (omega arith) (omega arith))
      (λ (ge : r ≤ i).
      let e : i ≡ r = omega arith in
      let yes : all_below (half * 2 ^ i) values ≡ true = d.1 (subst (λ (k : ℕ). Holds half k values) (sym e) s.holds) in
      cond-true _ _ _ yes ∙ e)
      (cases_lt i r)
    where
      failed : (k : ℕ) → k < r → all_below (half * 2 ^ k) values ≡ false
      failed k lt = elim (all_below (half * 2 ^ k) values) as (λ b. Decides b (Holds half k values) → b ≡ false) [
        | true ↦ λ d. absurd (s.least k lt (d.0 refl))
        | false ↦ λ d. refl
      ] (held_test (half * 2 ^ k) values)

  pub first_is : (top : ℕ) → r ≤ top → first_range half values 0 top ≡ r
  first_is top h = first_from top 0 (omega arith) (omega arith)

module _ (samples : List ℤ) (r a : ℕ) (ranged : Ranged samples r a) where
  pub basic_is : basic_range samples ≡ r
  unfolding basic_range
  basic_is = first_is 512 samples r ranged.basic 4 ranged.basic_bound

  pub additional_is : additional_range samples ≡ a
  unfolding additional_range
  additional_is =
      ap (λ (q : ℕ). first_range (512 * 2 ^ q) (differences samples) 0 2) basic_is
      ∙ first_is (512 * 2 ^ r) (differences samples) a ranged.additional 2 ranged.additional_bound
