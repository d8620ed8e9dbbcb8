-- What is left of a division is the remainder and nothing else is, and one turn of the division by shift and xor.
use Rattle.std.specs.Prelude.{◌≡◌, ℕ, ◌+◌, ◌*◌, ◌/◌, ◌%◌, ◌^◌, ◌<◌, true, ◌==◌, ◌≢◌, bit_and, bit_xor, nat_lt, refl}
use Rattle.std.proofs.Common.{sym, ap, ◌∙◌, arith}
use Rattle.std.specs.Int.Bits.{xor_zero_l, xor_zero_r, xor_assoc, xor_self}
use Rattle.std.proofs.lemmas.Nat.{shl_whole, shr_below, and_mask, shr-shr, shl-shr, div-add-mod', mod_below, pow_pos, xor_shr, xor_comm}
use Rattle.std.proofs.lemmas.Bool.{eqb-true, ltb-true}
use Rattle.guards.specs.Division.{divisor, columns, times_divisor, Divided, power_z, remainder}
use Rattle.guards.specs.Counts.{below, each}
use Rattle.guards.specs.Linear.{columns_sum, columns_through, columns_none, columns_below}

pub remainder_sum : (a b : ℕ) → remainder (bit_xor a b) ≡ bit_xor (remainder a) (remainder b)
unfolding remainder
remainder_sum a b = columns_sum power_z 32 a b

times_sum : (a b : ℕ) → times_divisor (bit_xor a b) ≡ bit_xor (times_divisor a) (times_divisor b)
unfolding times_divisor
times_sum a b = columns_sum (λ k. divisor * 2 ^ k) 27 a b

-- computed: a shifted divisor leaves nothing, a short polynomial leaves itself, and z^k times the divisor is the divisor shifted
gone_test : below (λ k. remainder (divisor * 2 ^ k) == 0) 27 ≡ true
unfolding remainder columns
gone_test = refl

short_test : below (λ r. remainder r == r) 32 ≡ true
unfolding remainder columns
short_test = refl

shift_test : below (λ k. times_divisor (2 ^ k) == divisor * 2 ^ k) 27 ≡ true
unfolding times_divisor columns
shift_test = refl

pub short : (r : ℕ) → r < 2 ^ 5 → remainder r ≡ r
short r h = eqb-true _ _ (each (λ r. remainder r == r) 32 short_test r h)

shifted : (k : ℕ) → k < 27 → times_divisor (2 ^ k) ≡ divisor * 2 ^ k
shifted k h = eqb-true _ _ (each (λ k. times_divisor (2 ^ k) == divisor * 2 ^ k) 27 shift_test k h)

-- a remainder has degree below 5
power_test : below (λ k. nat_lt (power_z k) (2 ^ 5)) 32 ≡ true
power_test = refl

pub remainder_below : (w : ℕ) → remainder w < 2 ^ 5
unfolding remainder
remainder_below w = columns_below power_z 5 32 w (λ k h. ltb-true _ _ (each (λ k. nat_lt (power_z k) (2 ^ 5)) 32 power_test k h))

-- a multiple of the divisor leaves nothing
multiple : (q : ℕ) → remainder (times_divisor q) ≡ 0
unfolding times_divisor
multiple q =
    columns_through remainder remainder_sum (short 0 (omega arith)) (λ k. divisor * 2 ^ k) 27 q
    ∙ columns_none (λ k. remainder (divisor * 2 ^ k)) 27 q (λ k h. eqb-true _ _ (each (λ k. remainder (divisor * 2 ^ k) == 0) 27 gone_test k h))

pub only : (w r : ℕ) → Divided w r → r ≡ remainder w
only w r d =
    sym (ap remainder d.exact ∙ remainder_sum (times_divisor d.quotient) r ∙ ap (λ x. bit_xor x (remainder r)) (multiple d.quotient) ∙ xor_zero_l (remainder r) ∙ short r d.short)

-- no turn taken yet
pub undivided : (w : ℕ) → w ≡ bit_xor (times_divisor 0) w
unfolding times_divisor columns
undivided w = sym (xor_zero_l w)

under : (n k : ℕ) → n / 2 ^ k ≡ 0 → n < 2 ^ k
under n k e =
    let s : n % 2 ^ k ≡ n = sym (ap (λ q. q * 2 ^ k + n % 2 ^ k) e ∙ omega arith) ∙ div-add-mod' n (2 ^ k) in
    omega (arith, s, mod_below n (2 ^ k) (pow_pos k))

-- The turn at the coefficient of z^(k + 5), all above it gone.
module _ (r k : ℕ) (low : k < 27) (h : r < 2 ^ (1 + (k + 5))) where
  whole : (divisor * 2 ^ k) % 2 ^ 32 ≡ divisor * 2 ^ k
  whole = shl_whole divisor 6 k 32 (omega arith) (omega arith)

  top : r / 2 ^ (k + 5) < 2
  top = shr_below r 1 (k + 5) h

  one : divisor * 2 ^ k / 2 ^ (k + 5) ≡ 1
  one = sym (shr-shr (divisor * 2 ^ k) k 5) ∙ ap (λ n. n / 32) (shl-shr divisor k)

  -- the coefficient is 1: the divisor is taken away there
  pub taken_below : bit_and (r / 2 ^ (k + 5)) 1 ≡ 1 → bit_xor r ((divisor * 2 ^ k) % 2 ^ 32) < 2 ^ (k + 5)
  taken_below e =
      let q : r / 2 ^ (k + 5) ≡ 1 = omega (arith, top, and_mask (r / 2 ^ (k + 5)) 1) in
      under (bit_xor r ((divisor * 2 ^ k) % 2 ^ 32)) (k + 5)
      (xor_shr r ((divisor * 2 ^ k) % 2 ^ 32) (k + 5) ∙ ap (λ n. bit_xor (r / 2 ^ (k + 5)) (n / 2 ^ (k + 5))) whole
      ∙ ap (λ n. bit_xor n (divisor * 2 ^ k / 2 ^ (k + 5))) q ∙ ap (bit_xor 1) one)

  pub taken_exact : (w q : ℕ) → w ≡ bit_xor (times_divisor q) r → w ≡ bit_xor (times_divisor (bit_xor q (2 ^ k))) (bit_xor r ((divisor * 2 ^ k) % 2 ^ 32))
  taken_exact w q e =
      let d : ℕ = divisor * 2 ^ k in
      let m : ℕ = times_divisor q in
      let more : times_divisor (bit_xor q (2 ^ k)) ≡ bit_xor m d = times_sum q (2 ^ k) ∙ ap (bit_xor m) (shifted k low) in
      let twice : bit_xor d (bit_xor r d) ≡ r = sym (xor_assoc d r d) ∙ ap (λ x. bit_xor x d) (xor_comm d r) ∙ xor_assoc r d d ∙ ap (bit_xor r) (xor_self d) ∙ xor_zero_r r in
      e ∙ sym (ap (λ x. bit_xor x (bit_xor r (d % 2 ^ 32))) more ∙ ap (λ x. bit_xor (bit_xor m d) (bit_xor r x)) whole ∙ xor_assoc m d (bit_xor r d) ∙ ap (bit_xor m) twice)

  -- the coefficient is 0
  pub left_below : (bit_and (r / 2 ^ (k + 5)) 1 ≢ 1) → r < 2 ^ (k + 5)
  left_below off = under r (k + 5) (grind (arith, top, and_mask (r / 2 ^ (k + 5)) 1))
