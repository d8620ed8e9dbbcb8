-- The smallest range of some values by their greatest magnitude, and the bound on a block's differences.
use Rattle.std.proofs.Common.{◌≡◌, ℕ, ◌+◌, ◌*◌, ◌^◌, ◌<◌, ◌≤◌, List, map, length, get_or, ℤ, pos, negsuc, ◌<ℤ◌, ⊎_elim, arith}
use lib.Signed.{mag}
use Rattle.std.specs.List.{range_with_len}
use Rattle.std.proofs.lemmas.Int.{ints}
use Rattle.std.proofs.lemmas.Nat.{pow_pos, mul-le}
use Rattle.std.proofs.lemmas.List.Elements.{All-get_or, All-from_get_or}
use Rattle.std.proofs.lemmas.List.FromFn.{length-map-range_with_len, get_or-map-range_with_len}
use Rattle.blocks.specs.Ranges.{Holds, Smallest, difference, difference_at, differences}
use Rattle.blocks.specs.Peaks.{Peak}

module _ (half : ℕ) (xs : List ℤ) (m : ℕ) (some : 0 < half) (p : Peak xs m) where
  pub held_below : (r : ℕ) → Holds half r xs → m < half * 2 ^ r
  held_below r all =
      ⊎_elim
      (λ (z : m ≡ 0). omega (arith, mul-le 1 1 half (2 ^ r) some (pow_pos r)))
      (λ (w : (k : ℕ) × (k < length xs) × (mag (get_or xs k (pos 0)) ≡ m)).
      omega (arith, w.2, All-get_or (λ v. mag v < half * 2 ^ r) xs w.0 (pos 0) w.1 all))
      p.reached

  pub smallest : (r : ℕ) → m < half * 2 ^ r → ((k : ℕ) → k < r → half * 2 ^ k ≤ m) → Smallest half r xs
  smallest r lt least = record {
    holds = All-from_get_or (λ v. mag v < half * 2 ^ r) xs (pos 0) (λ k h. omega (arith, p.bound k h));
    least = λ k h all. omega (arith, least k h, held_below k all);
  }

mag_in : (z : ℤ) (h : ℕ) → z <ℤ pos h → negsuc h <ℤ z → mag z < h
mag_in (pos n) h p q = omega (arith, ints)
mag_in (negsuc n) h p q = omega (arith, ints)

-- the difference of three values below h in magnitude
pub difference_small : (p v n : ℤ) (h : ℕ) → mag p < h → mag v < h → mag n < h → mag (difference p v n) < h * 2 ^ 2
difference_small p v n h a b c = mag_in (difference p v n) (h * 2 ^ 2) (omega (arith, ints)) (omega (arith, ints))

pub differences_held : (xs : List ℤ) (r : ℕ) → length xs ≡ 33 → Holds 512 r xs → Holds (512 * 2 ^ r) 2 (differences xs)
unfolding differences
differences_held xs r n all =
    All-from_get_or (λ v. mag v < 512 * 2 ^ r * 2 ^ 2) (map (difference_at xs) (range_with_len 0 16)) (pos 0) (λ k h.
    let lt : k < 16 = omega (arith, length-map-range_with_len (difference_at xs) 0 16) in
    let at : (i : ℕ) → i < 33 → mag (get_or xs i (pos 0)) < 512 * 2 ^ r = λ i q. All-get_or (λ v. mag v < 512 * 2 ^ r) xs i (pos 0) (omega arith) all in
    rw (get_or-map-range_with_len (difference_at xs) 0 16 k k (pos 0) lt (omega arith))
    (difference_small (get_or xs (2 * k) (pos 0)) (get_or xs (2 * k + 1) (pos 0)) (get_or xs (2 * k + 2) (pos 0)) (512 * 2 ^ r)
    (at (2 * k) (omega arith)) (at (2 * k + 1) (omega arith)) (at (2 * k + 2) (omega arith))))
