use Rattle.std.proofs.Common.{◌≡◌, ℕ, ◌+◌, ◌-◌, ◌*◌, ◌/◌, ◌%◌, ◌^◌, ◌<◌, sym, ◌∙◌, subst, arith}
use lib.Bits.{bit_xor, bit_and}
use Rattle.guards.specs.Division.{divisor, Divided}
use Rattle.guards.specs.Quotients.{only, undivided, taken_below, taken_exact, left_below}
use Rattle.guards.proofs.codes.remainder.Goals as goal

pub loop-degree-init : goal.loop-degree-init
loop-degree-init c = (omega arith, c.ranges.polynomial.fits, (0, undivided c.args.polynomial))

pub loop-degree-preserved-then-left-degree-eq1 : goal.loop-degree-preserved-then-left-degree-eq1
loop-degree-preserved-then-left-degree-eq1 c =
    let r : ℕ = c.loop-degree.left in
    let k : ℕ = c.loop-degree.degree - 1 - 5 in
    let d : c.loop-degree.degree ≡ 1 + (k + 5) = omega arith in
    let e : c.loop-degree.degree - 1 ≡ k + 5 = omega arith in
    let low : k < 27 = omega arith in
    let h : r < 2 ^ (1 + (k + 5)) = subst (λ (n : ℕ). r < 2 ^ n) d c.loop-degree.invariant.1 in
    let on = subst (λ (n : ℕ). bit_and (r / 2 ^ n) 1 ≡ 1) e c.if-left-degree-eq1.true in
    let q = c.loop-degree.invariant.2 in (
      omega arith,
      subst (λ (n : ℕ). bit_xor r ((divisor * 2 ^ k) % 2 ^ 32) < 2 ^ n) (omega arith) (taken_below r k low h on),
      (bit_xor q.0 (2 ^ k), taken_exact r k low h c.args.polynomial q.0 q.1),
    )

pub loop-degree-preserved : goal.loop-degree-preserved
loop-degree-preserved c =
    let r : ℕ = c.loop-degree.left in
    let k : ℕ = c.loop-degree.degree - 1 - 5 in
    let d : c.loop-degree.degree ≡ 1 + (k + 5) = omega arith in
    let e : c.loop-degree.degree - 1 ≡ k + 5 = omega arith in
    let h : r < 2 ^ (1 + (k + 5)) = subst (λ (n : ℕ). r < 2 ^ n) d c.loop-degree.invariant.1 in
    let off = subst (λ (n : ℕ). bit_and (r / 2 ^ n) 1 ≡ 1 → ⊥) e c.if-left-degree-eq1.false in
    (omega arith, subst (λ (n : ℕ). r < 2 ^ n) (omega arith) (left_below r k (omega arith) h off), c.loop-degree.invariant.2)

pub returns : goal.returns
returns c =
    let end : c.loop-degree.degree ≡ 5 = omega arith in
    let q = c.loop-degree.invariant.2 in
    let left : Divided c.args.polynomial c.loop-degree.left = record {
      quotient = q.0;
      exact = q.1;
      short = subst (λ (n : ℕ). c.loop-degree.left < 2 ^ n) end c.loop-degree.invariant.1;
    } in
    let value = only c.args.polynomial c.loop-degree.left left in
    record { left = left; only = λ s d. only c.args.polynomial s d ∙ sym value; value = value }
