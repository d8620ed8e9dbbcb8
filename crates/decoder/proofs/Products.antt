-- Products of a signed number by a natural one: over a sum, and their size.
use Rattle.std.proofs.Common.{◌≡◌, ℕ, suc, ◌+◌, ◌*◌, ◌≤◌, ℤ, pos, negsuc, ◌+ℤ◌, ◌-ℤ◌, ◌*ℤ◌, nat_abs, ap, ◌∙◌, mul-le-mul_right, add-mul, arith}
use borrow.Author.Differences.{up, down, sum_is_lem}
use Rattle.std.proofs.lemmas.Int.{ints}
use Rattle.std.proofs.lemmas.Nat.{mul-le}

pub times_sum : (x y : ℤ) (k : ℕ) → (x +ℤ y) *ℤ pos k ≡ (x *ℤ pos k) +ℤ (y *ℤ pos k)
times_sum x y k =
    let s = x +ℤ y in
    let e = ap (λ n. n * k) (sum_is_lem x y) in
    omega (
      arith,
      ints,
      e,
      add-mul (up s + down x) (down y) k,
      add-mul (up s) (down x) k,
      add-mul (down s + up x) (up y) k,
      add-mul (down s) (up x) k,
    )

pub times_abs : (z : ℤ) (e k : ℕ) → nat_abs z ≤ e → nat_abs (z *ℤ pos k) ≤ e * k
times_abs (pos a) e k h = mul-le-mul_right k h
times_abs (negsuc a) e k h = omega (arith, ints, mul-le (suc a) k e k h (omega arith))

-- numbers at most e apart, each times k
pub times_near : (x y : ℤ) (e k : ℕ) → nat_abs (x -ℤ y) ≤ e → nat_abs ((x *ℤ pos k) -ℤ (y *ℤ pos k)) ≤ e * k
times_near x y e k h =
    let z = x -ℤ y in
    let q : x ≡ y +ℤ z = omega (arith, ints) in
    let p : x *ℤ pos k ≡ (y *ℤ pos k) +ℤ (z *ℤ pos k) = ap (λ t. t *ℤ pos k) q ∙ times_sum y z k in
    omega (arith, ints, ap up p, ap down p, times_abs z e k h)
