-- The tables of the parity groups hold what each parity covers, and counting the ones under a group's mask gives the parity.
use Rattle.std.proofs.Common.{◌≡◌, ℕ, ◌+◌, ◌-◌, ◌*◌, ◌/◌, ◌%◌, ◌^◌, ◌<◌, ◌≤◌, List, [], ◌∷◌, map, get_or, sym, refl, ap, ◌∙◌, arith, pow_mono}
use lib.Bits.{bit_and, bit_xor, and_comm}
use lib.Count.{ones}
use Rattle.std.specs.List.{range_with_len}
use Rattle.guards.specs.Bits.{number, bit_in, total}
use Rattle.guards.specs.Parities.{bits_of, guard_bit, parities}
use Rattle.guards.specs.RangeWord.{sum_at}
use Rattle.guards.specs.Words.{by_sample}
use Rattle.guards.specs.Counts.{same_at}
use Rattle.guards.specs.Rows.{number_more, number_below}
use Rattle.guards.proofs.Guarding.{guard_bits}
use Rattle.guards.specs.Masks.{masked, masked_sum}

-- The groups as the code has them.
abbrev pub odd_groups : List ℕ
odd_groups = 1 ∷ 3 ∷ 5 ∷ 7 ∷ 9 ∷ 11 ∷ 13 ∷ 15 ∷ 17 ∷ 19 ∷ 21 ∷ 23 ∷ 25 ∷ 27 ∷ 29 ∷ 31 ∷ []

abbrev pub even_groups : List (List ℕ)
even_groups = (2 ∷ 4 ∷ []) ∷ (6 ∷ 8 ∷ []) ∷ (10 ∷ 12 ∷ []) ∷ (14 ∷ 16 ∷ []) ∷ (18 ∷ 20 ∷ []) ∷ (22 ∷ 24 ∷ []) ∷ (26 ∷ 28 ∷ []) ∷ (30 ∷ 32 ∷ []) ∷ []

-- the words of the samples of a group
abbrev pub odd_word : List ℕ → ℕ → ℕ
odd_word odd t = get_or odd (get_or odd_groups t 0 / 2) 0

abbrev pub even_word : List ℕ → ℕ → ℕ → ℕ
even_word even t i = get_or even (get_or (get_or even_groups t []) i 0 / 2 - 1) 0

-- five bits of ten, and four of nine
first_five : (f : ℕ → ℕ) → total f 1 5 ≡ sum_at f (1 ∷ 2 ∷ 3 ∷ 4 ∷ 5 ∷ [])
first_five f = omega arith

first_four : (f : ℕ → ℕ) → total f 1 4 ≡ sum_at f (1 ∷ 2 ∷ 3 ∷ 4 ∷ [])
first_four f = omega arith

five : (w : ℕ) → total (bit_in 10 w) 1 5 % 2 ≡ ones (bit_and w 0b11_1110_0000) % 2
five w = ap (λ x. x % 2) (first_five (bit_in 10 w)) ∙ sym (masked 10 w (1 ∷ 2 ∷ 3 ∷ 4 ∷ 5 ∷ []))

both : (a b p q x y : ℕ) → a ≡ p → b ≡ q → x % 2 ≡ p % 2 → y % 2 ≡ q % 2 → (a + b) % 2 ≡ (x + y) % 2
both a b p q x y e f g h = omega arith

four : (v w : ℕ) → (total (bit_in 9 v) 1 4 + total (bit_in 9 w) 1 4) % 2 ≡ ones (bit_and (bit_xor v w) 0b1_1110_0000) % 2
four v w =
    let m : ℕ = 0b1_1110_0000 in
    both _ _ _ _ (ones (bit_and v m)) (ones (bit_and w m)) (first_four (bit_in 9 v)) (first_four (bit_in 9 w)) (masked 9 v (1 ∷ 2 ∷ 3 ∷ 4 ∷ [])) (masked 9 w (1 ∷ 2 ∷ 3 ∷ 4 ∷ []))
    ∙ sym (ap (λ x. ones x % 2) (and_comm (bit_xor v w) m) ∙ masked_sum m v w ∙ ap (λ x. (ones x + ones (bit_and m w)) % 2) (and_comm m v) ∙ ap (λ x. (ones (bit_and v m) + ones x) % 2) (and_comm m w))

-- parity t, from 0, of a block's words
abbrev pub parity : List ℕ → List ℕ → ℕ → ℕ
parity odd even t = guard_bit (λ n b. bit_in (bits_of n) (by_sample odd even n) b) (λ _. 0) (t + 1)

module _ (odd even : List ℕ) where
  all_odd : map (parity odd even) (range_with_len 0 16) ≡ map (λ t. total (bit_in 10 (odd_word odd t)) 1 5 % 2) (range_with_len 0 16)
  all_odd = refl

  all_even : map (λ t. parity odd even (16 + t)) (range_with_len 0 8) ≡ map (λ t. (total (bit_in 9 (even_word even t 0)) 1 4 + total (bit_in 9 (even_word even t 1)) 1 4) % 2) (range_with_len 0 8)
  all_even = refl

  odd_parity : (t : ℕ) → t < 16 → ones (bit_and (odd_word odd t) 0b11_1110_0000) % 2 ≡ parity odd even t
  odd_parity t h =
      sym (same_at (parity odd even) (λ t. total (bit_in 10 (odd_word odd t)) 1 5 % 2) 0 16 all_odd t (omega arith) (omega arith) ∙ five (odd_word odd t))

  even_parity : (t : ℕ) → t < 8
      → ones (bit_and (bit_xor (even_word even t 0) (even_word even t 1)) 0b1_1110_0000) % 2 ≡ parity odd even (16 + t)
  even_parity t h =
      sym (same_at (λ t. parity odd even (16 + t)) (λ t. (total (bit_in 9 (even_word even t 0)) 1 4 + total (bit_in 9 (even_word even t 1)) 1 4) % 2) 0 8 all_even t (omega arith) (omega arith)
      ∙ four (even_word even t 0) (even_word even t 1))

  -- the first n parities, and one more
  unfoldable pub so_far : ℕ → ℕ
  so_far n = number (parity odd even) n

  pub none_yet : so_far 0 ≡ 0
  unfolding so_far
  none_yet = refl

  pub all_24 : so_far 24 ≡ parities (by_sample odd even)
  unfolding so_far parities
  all_24 = refl

  pub odd_more : (t v : ℕ) → t < 16 → v ≡ so_far t → 2 * v + ones (bit_and (odd_word odd t) 0b11_1110_0000) % 2 ≡ so_far (t + 1)
  unfolding so_far
  odd_more t v h e = ap (λ b. 2 * v + b) (odd_parity t h) ∙ number_more (parity odd even) t v e

  pub even_more : (t v : ℕ) → t < 8 → v ≡ so_far (16 + t)
      → 2 * v + ones (bit_and (bit_xor (even_word even t 0) (even_word even t 1)) 0b1_1110_0000) % 2 ≡ so_far (16 + (t + 1))
  unfolding so_far
  even_more t v h e =
      let s : 16 + t + 1 ≡ 16 + (t + 1) = omega arith in
      ap (λ b. 2 * v + b) (even_parity t h) ∙ number_more (parity odd even) (16 + t) v e ∙ ap (number (parity odd even)) s

  pub so_far_small : (n v : ℕ) → n ≤ 24 → v ≡ so_far n → v < 2 ^ 24
  unfolding so_far
  so_far_small n v h e =
      let wide : 2 ^ n ≤ 2 ^ 24 = pow_mono h in
      omega (arith, number_below (parity odd even) (guard_bits (by_sample odd even) (λ _. 0) (λ _. omega arith)) n)
