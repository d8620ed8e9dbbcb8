-- The range word of a pair, R1 to R12: the range codes of both blocks, four bits each, and four checks.
use Rattle.std.specs.Prelude.{ℕ, ◌+◌, ◌-◌, ◌%◌, cond, List, [], ◌∷◌, ◌==◌, nat_lt, slice_index_or}
use Rattle.guards.specs.Bits.{number, bit_in}

-- The positions that R9, R10, R11 and R12 cover.
abbrev pub range_sums : List (List ℕ)
range_sums = (1 ∷ 2 ∷ 3 ∷ 7 ∷ []) ∷ (1 ∷ 4 ∷ 5 ∷ 7 ∷ 8 ∷ []) ∷ (2 ∷ 4 ∷ 6 ∷ 7 ∷ 8 ∷ []) ∷ (3 ∷ 5 ∷ 6 ∷ 8 ∷ []) ∷ []

-- The sum of the bits of a row at some positions.
abbrev pub sum_at : (ℕ → ℕ) → List ℕ → ℕ
sum_at row [] = 0
sum_at row (k ∷ ks) = row k + sum_at row ks

-- Sum i, from 0 to 3, of a row R1, R2 ..
abbrev pub range_sum : (ℕ → ℕ) → ℕ → ℕ
range_sum row i = sum_at row (slice_index_or range_sums i [])

-- R1 to R8 of the codes of block 1 and block 2, each highest bit first.
abbrev pub code_bit : ℕ → ℕ → ℕ → ℕ
code_bit first second k = cond (nat_lt k 5) (bit_in 4 first k) (bit_in 4 second (k - 4))

-- R9 to R12 are the sums modulo 2, inverted.
abbrev pub range_bit : ℕ → ℕ → ℕ → ℕ
range_bit first second k = cond (nat_lt k 9) (code_bit first second k) (1 - range_sum (code_bit first second) (k - 9) % 2)

-- The range word as a number of 12 bits, R1 highest.
unfoldable pub range_word : ℕ → ℕ → ℕ
range_word first second = number (λ t. range_bit first second (t + 1)) 12

-- The syndrome of a set of positions, R9's bit highest: a 1 for each sum that is odd, its check's own position counted in.
unfoldable pub range_syndrome : ℕ → ℕ
range_syndrome set = number (λ i. (range_sum (bit_in 12 set) i + bit_in 12 set (9 + i)) % 2) 4

-- The syndrome of a received range word, R9's bit highest: a 1 for each check that disagrees.
unfoldable pub range_word_syndrome : ℕ → ℕ
range_word_syndrome word = number (λ i. cond (bit_in 12 word (9 + i) == 1 - range_sum (bit_in 12 word) i % 2) 0 1) 4
