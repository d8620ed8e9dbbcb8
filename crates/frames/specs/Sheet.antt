-- The sheet of 632 cells on which a frame is laid out: bits 1 to 79 of each group in turn, bit 80 left out.
use Rattle.std.specs.Prelude.{ℕ, zero, suc, ◌+◌, ◌*◌, ◌/◌, ◌%◌, cond, List, [], ◌∷◌, ◌==◌, length, slice_index}
use Rattle.guards.specs.Bits.{number, bit_in}

-- Bit i of the frame, from 0, by the cells.
abbrev pub bit_of : List ℕ → ℕ → ℕ
bit_of cells i = cond (i % 80 == 79) 0 (slice_index cells (79 * (i / 80) + i % 80))

-- The bit of the frame that cell c stands for.
abbrev pub bit_of_cell : ℕ → ℕ
bit_of_cell c = 80 * (c / 79) + c % 79

-- The halves of groups count from 0 to 15: the first cell of half i, the half of cell c, and how far into it c lies.
abbrev pub start_of : ℕ → ℕ
start_of i = 79 * (i / 2) + 40 * (i % 2)

abbrev pub half_of : ℕ → ℕ
half_of c = 2 * (c / 79) + c % 79 / 40

abbrev pub offset_in : ℕ → ℕ
offset_in c = c % 79 % 40

-- What cell c holds, v before, once k bits of the word w are written, bit 1 first, to the given places from `start` on.
abbrev pub over_bits : ℕ → List ℕ → ℕ → ℕ → ℕ → ℕ → ℕ
over_bits start places w zero c v = v
over_bits start places w (suc k) c v = cond (c == start + slice_index places k) (bit_in (length places) w (k + 1)) (over_bits start places w k c v)

-- The same once all bits are written.
abbrev pub over : ℕ → List ℕ → ℕ → ℕ → ℕ → ℕ
over start places w c v = over_bits start places w (length places) c v

-- The word whose bits, bit 1 first, lie in the cells at the given places from `start` on.
unfoldable pub word_at : List ℕ → ℕ → List ℕ → ℕ
word_at cells start places = number (λ k. slice_index cells (start + slice_index places k)) (length places)

-- The tables of src/letters.rt: where the bits of the letters' words lie in half a group, bit 1 first.
abbrev pub columns_a : List ℕ
columns_a = 0 ∷ 8 ∷ 16 ∷ 24 ∷ 32 ∷ 1 ∷ 9 ∷ 17 ∷ 25 ∷ 33 ∷ []

abbrev pub columns_b : List ℕ
columns_b = 2 ∷ 10 ∷ 18 ∷ 26 ∷ 34 ∷ 3 ∷ 11 ∷ 19 ∷ 27 ∷ []

abbrev pub columns_c : List ℕ
columns_c = 4 ∷ 12 ∷ 20 ∷ 28 ∷ 35 ∷ 5 ∷ 13 ∷ 21 ∷ 29 ∷ []

abbrev pub columns_d : List ℕ
columns_d = 6 ∷ 14 ∷ 22 ∷ 30 ∷ 36 ∷ 7 ∷ 15 ∷ 23 ∷ 31 ∷ 37 ∷ []
