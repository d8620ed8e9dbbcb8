-- Rows of bits and numbers. A row gives its bit, 0 or 1, at each place from 0; bits of a number count from 1, the highest.
use Rattle.std.specs.Prelude.{ℕ, zero, suc, ◌+◌, ◌-◌, ◌*◌, ◌/◌, ◌%◌, ◌^◌}

-- The first n bits of a row as a number, the first bit highest.
abbrev pub number : (ℕ → ℕ) → ℕ → ℕ
number row zero = 0
number row (suc n) = 2 * number row n + row n

-- Bit b of a number of n bits.
abbrev pub bit_in : ℕ → ℕ → ℕ → ℕ
bit_in n w b = w / 2 ^ (n - b) % 2

-- The sum of n entries of a row, from entry a on.
abbrev pub total : (ℕ → ℕ) → ℕ → ℕ → ℕ
total row a zero = 0
total row a (suc n) = total row a n + row (a + n)
