-- The codes that a sender has for a block, and what a word tells of them.
use Rattle.std.specs.Prelude.{◌≡◌, ℕ, ◌+◌, ◌-◌, ◌*◌, ◌/◌, ◌%◌, ◌^◌, ◌<◌, ◌≤◌, cond, List, ℤ, pos, ◌==◌, slice_index_or}
use Rattle.std.specs.Int.Signed.{mag, shr_z}
use Rattle.words.specs.Signed.{signed_word}
use Rattle.blocks.specs.Ranges.{difference}
use Rattle.decoder.specs.Levels.{code_of}
use Rattle.decoder.specs.Closeness.{distance}

-- The code of a value: the value divided by the width of a cell, rounded down.
abbrev pub code : ℕ → ℤ → ℤ
code width v = shr_z v width

-- A block's 32 samples and its follower as 33 values, by sample number.
abbrev pub value : List ℤ → ℕ → ℤ
value sent n = slice_index_or sent (n - 1) (pos 0)

-- The codes of a block of the ranges r and a, whose follower has the basic range s: of an odd sample its basic code, of an even one
-- the additional code of its difference, which counts halves of a sample unit.
abbrev pub code_sent : ℕ → ℕ → ℕ → List ℤ → ℕ → ℤ
code_sent r a s sent n =
    cond (n % 2 == 1) (code (2 ^ cond (n == 33) s r) (value sent n))
    (code (2 ^ (r + a + 1)) (difference (value sent (n - 1)) (value sent n) (value sent (n + 1))))

-- A word tells the code of its value, and one that keeps its guarded front and moves by at most 16, as where one other bit is
-- hit, tells a code at most `slack` off.
pub record WordsTellCodes (slack : ℕ) : Type 0 where
  pub whole : (half width : ℕ) (v : ℤ) → 0 < width → mag v < half * width → code_of half (signed_word half width v) ≡ code width v
  pub near : (half w w' : ℕ) → half % 32 ≡ 0 → w / 32 ≡ w' / 32 → w ≤ w' + 16 → w' ≤ w + 16 → distance (code_of half w') (code_of half w) ≤ slack
