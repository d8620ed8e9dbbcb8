-- Levels count quarters of a sample unit.
use Rattle.std.specs.Prelude.{ℕ, ◌-◌, ◌*◌, ◌^◌, cond, ℤ, pos, negsuc, ◌+ℤ◌, ◌-ℤ◌, ◌*ℤ◌, nat_lt}
use Rattle.std.specs.Int.Signed.{shr_z}
use Rattle.std.specs.Int.{int_max, int_min}

-- The code that a word carries, of a law with `half` codes of each sign: a word below half is itself, one from half on is -1 less
-- the rest. (`negsuc m` is -1 - m.)
abbrev pub code_of : ℕ → ℕ → ℤ
code_of half word = cond (nat_lt word half) (pos word) (negsuc (word - half))

-- The level of a code: the middle of its cell, where a cell is 2^range sample units wide.
abbrev pub level : ℕ → ℤ → ℤ
level range code = ((pos 2 *ℤ code) +ℤ pos 1) *ℤ pos (2 * 2 ^ range)

-- (`shr_z z n` is z / n rounded down.) The levels of codes are even, so their mean is exact.
abbrev pub mean : ℤ → ℤ → ℤ
mean before after = shr_z (before +ℤ after) 2

abbrev pub held : ℤ → ℤ
held y = int_max (negsuc 8191) (int_min (pos 8191) y)

-- The sample of a level.
abbrev pub sample : ℤ → ℤ
sample level = held (shr_z (level -ℤ pos 1) 4)
