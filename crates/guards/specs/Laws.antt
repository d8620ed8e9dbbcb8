-- Both check codes keep the law, and what is sent has syndrome zero.
use Rattle.std.specs.Prelude.{◌≡◌, ℕ, ◌+◌, ◌-◌, ◌*◌, ◌/◌, ◌%◌, ◌^◌, ◌<◌, ◌≤◌, Bool, true, cond, not, ◌&&◌, ◌||◌, List, [], ◌∷◌, ◌==◌, ◌≢◌, bit_or, nat_lt, slice_index_or, refl}
use Rattle.std.proofs.Common.{sym, ap, ◌∙◌, arith}
use Rattle.std.specs.Int.Bits.{bit_xor}
use Rattle.std.proofs.lemmas.Nat.{xor_mod}
use Rattle.std.proofs.lemmas.Bool.Decides.{nat_tests}
use Rattle.std.proofs.lemmas.Bool.{eqb-true, ltb-true, and_parts}
use Rattle.guards.specs.Bits.{bit_in}
use Rattle.guards.specs.Codes.{alone, Code}
use Rattle.guards.specs.RangeWord.{range_sums, sum_at, range_sum, range_syndrome, range_word_syndrome, range_word}
use Rattle.guards.specs.Division.{columns, remainder, guard_syndrome}
use Rattle.guards.specs.Counts.{below, each}
use Rattle.guards.specs.Rows.{number_same, number_xor}
use Rattle.guards.specs.Linear.{bit_of_xor}
use Rattle.guards.specs.Masks.{xor_bits}
use Rattle.guards.specs.Quotients.{remainder_sum}

-- the law of a linear code, by two tests over its positions, counted from the lowest bit
abbrev apart_test : (ℕ → ℕ) → ℕ → Bool
apart_test s n = below (λ i. below (λ j. not (s (2 ^ i) == s (2 ^ j)) || i == j) n) n

abbrev heard_test : (ℕ → ℕ) → ℕ → Bool
heard_test s n = below (λ i. not (s (2 ^ i) == 0)) n

one_apart : (x y i j : ℕ) → (not (x == y) || i == j) ≡ true → x ≡ y → i ≡ j
one_apart x y i j t e = grind (arith, nat_tests)

one_heard : (x : ℕ) → not (x == 0) ≡ true → x ≢ 0
one_heard x t e = grind (arith, nat_tests)

by_tests : (n : ℕ) (s : ℕ → ℕ) → n ≤ 32 → ((a b : ℕ) → s (bit_xor a b) ≡ bit_xor (s a) (s b)) → apart_test s n ≡ true → heard_test s n ≡ true → Code n s
by_tests n s few sums t u = record {
  few = few;
  sums = sums;
  apart = λ j k p q e.
      let row = each (λ i. below (λ j. not (s (2 ^ i) == s (2 ^ j)) || i == j) n) n t (n - j) (omega (arith, p.from, p.upto)) in
      let same : n - j ≡ n - k = one_apart (s (alone n j)) (s (alone n k)) (n - j) (n - k) (each (λ i. not (s (alone n j) == s (2 ^ i)) || n - j == i) n row (n - k) (omega (arith, q.from, q.upto))) e in
      omega (arith, p.from, p.upto, q.from, q.upto);
  heard = λ k p. one_heard (s (alone n k)) (each (λ i. not (s (2 ^ i) == 0)) n u (n - k) (omega (arith, p.from, p.upto)));
}

-- the (29,24) code
guard_sum : (a b : ℕ) → guard_syndrome (bit_xor a b) ≡ bit_xor (guard_syndrome a) (guard_syndrome b)
unfolding guard_syndrome
guard_sum a b = ap remainder (xor_mod a b 29) ∙ remainder_sum (a % 2 ^ 29) (b % 2 ^ 29)

guards_apart : apart_test guard_syndrome 29 ≡ true
unfolding guard_syndrome remainder columns
guards_apart = refl

guards_heard : heard_test guard_syndrome 29 ≡ true
unfolding guard_syndrome remainder columns
guards_heard = refl

pub guard_law : Code 29 guard_syndrome
guard_law = by_tests 29 guard_syndrome (omega arith) guard_sum guards_apart guards_heard

-- the (12,8) code: a sum of positions modulo 2 is linear
sum_xor : (n a b : ℕ) (ks : List ℕ) → sum_at (bit_in n (bit_xor a b)) ks % 2 ≡ (sum_at (bit_in n a) ks + sum_at (bit_in n b) ks) % 2
sum_xor n a b [] = refl
sum_xor n a b (k ∷ ks) =
    let bit = bit_of_xor a b (n - k) ∙ xor_bits (a / 2 ^ (n - k)) (b / 2 ^ (n - k)) in
    omega (arith, bit, sum_xor n a b ks)

abbrev check_row : ℕ → ℕ → ℕ
check_row w i = (range_sum (bit_in 12 w) i + bit_in 12 w (9 + i)) % 2

check_row_xor : (a b i : ℕ) → check_row (bit_xor a b) i ≡ bit_xor (check_row a i) (check_row b i)
check_row_xor a b i =
    let sums = sum_xor 12 a b (slice_index_or range_sums i []) in
    let own = sum_xor 12 a b ((9 + i) ∷ []) in
    omega (arith, sums, own) ∙ sym (xor_bits (range_sum (bit_in 12 a) i + bit_in 12 a (9 + i)) (range_sum (bit_in 12 b) i + bit_in 12 b (9 + i)))

check_row_bit : (w i : ℕ) → check_row w i ≤ 1
check_row_bit w i = omega arith

range_sum_law : (a b : ℕ) → range_syndrome (bit_xor a b) ≡ bit_xor (range_syndrome a) (range_syndrome b)
unfolding range_syndrome
range_sum_law a b =
    number_same (check_row (bit_xor a b)) (λ i. bit_xor (check_row a i) (check_row b i)) 4 (λ i h. check_row_xor a b i)
    ∙ number_xor (check_row a) (check_row b) (check_row_bit a) (check_row_bit b) 4

ranges_apart : apart_test range_syndrome 12 ≡ true
unfolding range_syndrome
ranges_apart = refl

ranges_heard : heard_test range_syndrome 12 ≡ true
unfolding range_syndrome
ranges_heard = refl

pub range_law : Code 12 range_syndrome
range_law = by_tests 12 range_syndrome (omega arith) range_sum_law ranges_apart ranges_heard

-- a received range word has the syndrome of the word with its four checks inverted
disagrees : (s x : ℕ) → x ≤ 1 → cond (x == 1 - s % 2) 0 1 ≡ bit_xor ((s + x) % 2) 1
disagrees s x h = let e = xor_bits (s + x) 1 in grind (arith, nat_tests)

pub inverted : (w : ℕ) → range_word_syndrome w ≡ range_syndrome (bit_xor w 15)
unfolding range_word_syndrome range_syndrome
inverted w =
    number_same _ (λ i. bit_xor (check_row w i) 1) 4 (λ i h. disagrees (range_sum (bit_in 12 w) i) (bit_in 12 w (9 + i)) (omega arith))
    ∙ number_xor (check_row w) (λ _. 1) (check_row_bit w) (λ _. omega arith) 4
    ∙ sym (range_sum_law w 15)

-- every two codes give a range word of 12 bits with syndrome zero, and the checks are the inverted syndrome of the codes: one test for all
abbrev pub of_codes : ℕ → ℕ → ℕ
of_codes a b = bit_or (a * 2 ^ 4 % 2 ^ 32) b * 2 ^ 4 % 2 ^ 32

abbrev sent_test : ℕ → ℕ → Bool
sent_test a b =
    (range_word_syndrome (range_word a b) == 0) && (nat_lt (range_word a b) (2 ^ 12) && bit_or (of_codes a b) (bit_xor (range_syndrome (of_codes a b)) 15) == range_word a b)

all_sent : below (λ a. below (sent_test a) 16) 16 ≡ true
unfolding range_word_syndrome range_syndrome range_word
all_sent = refl

pub record RangeWordSent (a b : ℕ) : Type 0 where
  pub clean : range_word_syndrome (range_word a b) ≡ 0
  pub small : range_word a b < 2 ^ 12
  pub made : bit_or (of_codes a b) (bit_xor (range_syndrome (of_codes a b)) 15) ≡ range_word a b

pub range_word_sent : (a b : ℕ) → a < 16 → b < 16 → RangeWordSent a b
range_word_sent a b h k =
    let t = and_parts (range_word_syndrome (range_word a b) == 0) _ (each (sent_test a) 16 (each (λ a. below (sent_test a) 16) 16 all_sent a h) b k) in
    let u = and_parts (nat_lt (range_word a b) (2 ^ 12)) _ t.1 in
    record { clean = eqb-true _ _ t.0; small = ltb-true _ _ u.0; made = eqb-true _ _ u.1 }
