-- A received range word put right where one hit explains it, and the ranges that it then tells of each block.
use Rattle.std.specs.Prelude.{ℕ, ◌-◌, ◌*◌, ◌/◌, ◌%◌, ◌^◌, cond, Some, None, Option, ◌==◌, bit_xor, nat_lt}
use Rattle.guards.specs.Codes.{alone}
use Rattle.guards.specs.Located.{located}
use Rattle.guards.specs.RangeWord.{range_syndrome, range_word_syndrome}
use Rattle.guards.specs.declared.ranges.Ranges.{Ranges}

-- What the locator answers for it.
unfoldable pub range_found : ℕ → ℕ × ℕ
range_found word = located 12 range_syndrome (range_word_syndrome word)

-- The word with the position that was found flipped back.
unfoldable pub mended : ℕ → ℕ
mended word = cond ((range_found word).0 == 1) (bit_xor word (alone 12 (range_found word).1)) word

-- The range code of a block: R1 to R4 are that of block 1, R5 to R8 that of block 2.
abbrev pub code_in : ℕ → ℕ → ℕ
code_in word block = word / 2 ^ (12 - 4 * block) % 2 ^ 4

-- The basic and the additional range that a code stands for. 15 stands for none.
abbrev pub ranges_of_code : ℕ → Option (ℕ × ℕ)
ranges_of_code code = cond (nat_lt code 15) (Some ((14 - code) % 5, (14 - code) / 5)) None

-- The ranges of a block by a received range word.
unfoldable pub ranges_told : ℕ → ℕ → Option (ℕ × ℕ)
ranges_told word block = ranges_of_code (code_in (mended word) block)

-- Ranges of the code as two numbers.
abbrev pub numbers_of : Option Ranges → Option (ℕ × ℕ)
numbers_of (Some ranges) = Some (ranges.basic, ranges.additional)
numbers_of None = None
