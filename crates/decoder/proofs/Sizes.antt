-- Signed steps of the code: a shift by a small power of two, and sizes of sums.
use Rattle.std.proofs.Common.{◌≡◌, ℕ, ◌+◌, ◌*◌, ◌%◌, ◌^◌, ◌<◌, ◌≤◌, ℤ, pos, negsuc, ◌+ℤ◌, ◌*ℤ◌, nat_abs, ap, ◌∙◌, arith, pow_mono, w32, SFits, to_z, of_z}
use lib.Signed.{mag}
use Rattle.std.proofs.lemmas.Int.{ints, to_z-of_z, wrapping_mul_is, int_wrap_fits}
use Rattle.std.proofs.lemmas.Nat.{pow-add}
use Rattle.decoder.specs.Levels.{level}
use Rattle.decoder.proofs.Products.{times_abs}

pub power_le : (r k : ℕ) → r ≤ k → 2 ^ r ≤ 2 ^ k
power_le r k h = pow_mono h

-- a number below 2^10 in size by at most 2^7
pub product_fits : (z : ℤ) (k : ℕ) → nat_abs z ≤ 1024 → k ≤ 128 → SFits w32 (z *ℤ pos k)
product_fits z k h l =
    let a = times_abs z 1024 k h in
    omega (arith, ints, a)

pub shl_is : (z : ℤ) (k : ℕ) → SFits w32 z → SFits w32 (pos (2 ^ k)) → SFits w32 (z *ℤ pos (2 ^ k))
    → to_z w32 ((of_z w32 z * 2 ^ k) % 2 ^ 32) ≡ z *ℤ pos (2 ^ k)
shl_is z k f g h = wrapping_mul_is w32 z (pos (2 ^ k)) f g ∙ int_wrap_fits w32 (z *ℤ pos (2 ^ k)) h

pub two_power : (r : ℕ) → 2 ^ (r + 1) ≡ 2 * 2 ^ r
two_power r = pow-add 2 r 1 ∙ omega arith

-- `omega` does not know that a number is not both above and below 0, so a goal on `mag` goes by cases
pub mag_abs : (z : ℤ) → mag z ≤ nat_abs z
mag_abs (pos n) = omega arith
mag_abs (negsuc n) = omega arith

-- the level of a code as a shift makes it
pub record Shifted (code : ℤ) (range : ℕ) : Type 0 where
  pub is : to_z w32 (of_z w32 (to_z w32 (of_z w32 (pos 2 *ℤ to_z w32 (of_z w32 code))) +ℤ pos 1) * 2 ^ (range + 1) % 2 ^ 32) ≡ level range code
  pub small : mag (level range code) < 2 ^ 17
  pub basic : range ≤ 4 → mag (level range code) < 2 ^ 15

pub shifted : (code : ℤ) (range : ℕ) → mag code < 512 → range ≤ 6 → Shifted code range
shifted code r h narrow =
    let z = (pos 2 *ℤ code) +ℤ pos 1 in
    let f0 : SFits w32 code = omega (arith, ints) in
    let f1 : SFits w32 (pos 2 *ℤ code) = omega (arith, ints) in
    let f2 : SFits w32 z = omega (arith, ints) in
    let p : 2 ^ (r + 1) ≤ 2 ^ 7 = power_le (r + 1) 7 (omega arith) in
    let n : nat_abs z ≤ 1023 = omega (arith, ints) in
    let e = shl_is z (r + 1) f2 (omega (arith, ints)) (product_fits z (2 ^ (r + 1)) (omega arith) p) in
    let level_is : z *ℤ pos (2 ^ (r + 1)) ≡ level r code = ap (λ k. z *ℤ pos k) (two_power r) in
    let size = times_abs z 1023 (2 ^ (r + 1)) n in
    let low = mag_abs (z *ℤ pos (2 ^ (r + 1))) in
    record {
      is = rw (to_z-of_z w32 code f0, to_z-of_z w32 (pos 2 *ℤ code) f1) (e ∙ level_is);
      small = rw (← level_is) (omega arith);
      basic = λ h. let q : 2 ^ (r + 1) ≤ 2 ^ 5 = power_le (r + 1) 5 (omega arith) in rw (← level_is) (omega arith);
    }
