-- The guard bits of a block: parities and checks side by side, below 2^29, and clean where the checks are those of the parities.
use Rattle.std.proofs.Common.{◌≡◌, ℕ, ◌+◌, ◌-◌, ◌*◌, ◌%◌, ◌^◌, ◌<◌, ◌≤◌, Bool, true, false, cond, ltb, sym, refl, ap, ◌∙◌, arith}
use lib.Bits.{bit_xor, xor_shifted, xor_self}
use Rattle.guards.specs.Bits.{number, bit_in, total}
use Rattle.guards.specs.Parities.{bits_of, guard_bit, guards, parities}
use Rattle.guards.specs.Division.{remainder, guard_syndrome, checks_of}
use Rattle.guards.specs.Rows.{Bits, number_below, number_of_bits}
use Rattle.guards.specs.Quotients.{remainder_sum, remainder_below, short}

-- bits of a block's words by sample and bit
abbrev pub word_bits : (ℕ → ℕ) → ℕ → ℕ → ℕ
word_bits word n b = bit_in (bits_of n) (word n) b

pub guard_bits : (word check : ℕ → ℕ) → Bits check → Bits (λ t. guard_bit (word_bits word) check (t + 1))
guard_bits word check h t = by (ltb (t + 1) 17) (ltb (t + 1) 25)
  where
    by : (p q : Bool)
        → cond p (total (word_bits word (2 * (t + 1) - 1)) 1 5 % 2)
        (cond q ((total (word_bits word (4 * (t + 1 - 16) - 2)) 1 4 + total (word_bits word (4 * (t + 1 - 16))) 1 4) % 2) (check (t + 1 - 24))) ≤ 1
    by true q = omega arith
    by false true = omega arith
    by false false = h (t + 1 - 24)

pub guards_below : (word : ℕ → ℕ) (checks : ℕ) → guards word checks < 2 ^ 29
unfolding guards
guards_below word checks = number_below (λ t. guard_bit (word_bits word) (bit_in 5 checks) (t + 1)) (guard_bits word (bit_in 5 checks) (λ b. omega arith)) 29

pub parities_below : (word : ℕ → ℕ) → parities word < 2 ^ 24
unfolding parities
parities_below word = number_below (λ t. guard_bit (word_bits word) (λ _. 0) (t + 1)) (guard_bits word (λ _. 0) (λ _. omega arith)) 24

-- the guard bits are the parities with the checks behind them
twenty_nine : (f : ℕ → ℕ) → number f 29 ≡ 2 ^ 5 * number f 24 + number (λ t. f (24 + t)) 5
twenty_nine f = omega arith

first_24 : (h : ℕ → ℕ → ℕ) (c : ℕ → ℕ) → number (λ t. guard_bit h c (t + 1)) 24 ≡ number (λ t. guard_bit h (λ _. 0) (t + 1)) 24
first_24 h c = refl

last_5 : (h : ℕ → ℕ → ℕ) (c : ℕ → ℕ) → number (λ t. guard_bit h c (24 + t + 1)) 5 ≡ number (λ t. c (t + 1)) 5
last_5 h c = refl

pub guards_split : (word : ℕ → ℕ) (checks : ℕ) → guards word checks ≡ parities word * 2 ^ 5 + checks % 2 ^ 5
unfolding guards parities
guards_split word checks =
    let b : ℕ → ℕ → ℕ = word_bits word in
    twenty_nine (λ t. guard_bit b (bit_in 5 checks) (t + 1))
    ∙ ap (λ y. 2 ^ 5 * y + number (λ t. guard_bit b (bit_in 5 checks) (24 + t + 1)) 5) (first_24 b (bit_in 5 checks))
    ∙ ap (λ y. 2 ^ 5 * number (λ t. guard_bit b (λ _. 0) (t + 1)) 24 + y) (last_5 b (bit_in 5 checks) ∙ number_of_bits checks 5)
    ∙ around (number (λ t. guard_bit b (λ _. 0) (t + 1)) 24) (checks % 2 ^ 5)
  where
    around : (x y : ℕ) → 2 ^ 5 * x + y ≡ x * 2 ^ 5 + y
    around x y = omega arith

-- as received: the syndrome is the remainder of the guard bits, the sum of the received checks and those of the parities
pub syndrome_of_guards : (word : ℕ → ℕ) (checks : ℕ) → guard_syndrome (guards word checks) ≡ bit_xor (checks_of (parities word)) (checks % 2 ^ 5)
unfolding guard_syndrome checks_of
syndrome_of_guards word checks =
    let p : ℕ = parities word in
    let c : ℕ = checks % 2 ^ 5 in
    let low : c < 2 ^ 5 = omega arith in
    let below = parities_below word in
    let g = guards_below word checks in
    let kept : guards word checks % 2 ^ 29 ≡ guards word checks = omega arith in
    let same : p * 2 ^ 5 ≡ 2 ^ 5 * (p % 2 ^ 24) = omega arith in
    ap remainder (kept ∙ guards_split word checks ∙ sym (xor_shifted p 5 c low)) ∙ remainder_sum (p * 2 ^ 5) c
    ∙ ap (λ r. bit_xor r (remainder c)) (ap remainder same) ∙ ap (bit_xor (remainder (2 ^ 5 * (p % 2 ^ 24)))) (short c low)

-- as sent: checks of the parities, so syndrome zero
pub checks_below : (p : ℕ) → checks_of p < 2 ^ 5
unfolding checks_of
checks_below p = remainder_below (2 ^ 5 * (p % 2 ^ 24))

pub guards_clean : (word : ℕ → ℕ) → guard_syndrome (guards word (checks_of (parities word))) ≡ 0
guards_clean word =
    let c : ℕ = checks_of (parities word) in
    let low : c % 2 ^ 5 ≡ c = omega (arith, checks_below (parities word)) in
    syndrome_of_guards word c ∙ ap (bit_xor c) low ∙ xor_self c
