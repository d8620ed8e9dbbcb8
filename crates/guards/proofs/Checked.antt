-- The table of the range word's checks holds the four sums, each with the check's own position.
use Rattle.std.proofs.Common.{◌≡◌, ℕ, ◌+◌, ◌%◌, ◌<◌, List, [], ◌∷◌, map, get_or, refl, ap, ◌∙◌, arith}
use lib.Bits.{bit_and}
use lib.Count.{ones}
use Rattle.std.specs.List.{range_with_len}
use Rattle.guards.specs.Bits.{number, bit_in}
use Rattle.guards.specs.RangeWord.{range_sums, range_sum, range_syndrome}
use Rattle.guards.specs.Counts.{same_at}
use Rattle.guards.specs.Rows.{number_same}
use Rattle.guards.specs.Masks.{set_of, masked}

-- The checks as the code has them.
abbrev pub range_checks : List ℕ
range_checks = 0b1110_0010_1000 ∷ 0b1001_1011_0100 ∷ 0b0101_0111_0010 ∷ 0b0010_1101_0001 ∷ []

abbrev with_own : ℕ → ℕ
with_own i = set_of 12 ((9 + i) ∷ get_or range_sums i [])

all_sums : map (λ i. get_or range_checks i 0) (range_with_len 0 4) ≡ map with_own (range_with_len 0 4)
all_sums = refl

abbrev pub checked_bit : ℕ → ℕ → ℕ
checked_bit set i = ones (bit_and set (get_or range_checks i 0)) % 2

pub checked : (set : ℕ) → number (checked_bit set) 4 ≡ range_syndrome set
unfolding range_syndrome
checked set = number_same (checked_bit set) (λ i. (range_sum (bit_in 12 set) i + bit_in 12 set (9 + i)) % 2) 4 one
  where
    one : (i : ℕ) → i < 4 → checked_bit set i ≡ (range_sum (bit_in 12 set) i + bit_in 12 set (9 + i)) % 2
    one i h =
        ap (λ m. ones (bit_and set m) % 2) (same_at (λ i. get_or range_checks i 0) with_own 0 4 all_sums i (omega arith) (omega arith))
        ∙ masked 12 set ((9 + i) ∷ get_or range_sums i []) ∙ omega arith
