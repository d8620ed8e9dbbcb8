-- What of a pair put comes out of the pair given, block by block and sample by sample. Blocks count from 1 to 2, samples of a block
-- from 1 to 32.
use Rattle.std.specs.Prelude.{◌≡◌, ℕ, ◌+◌, ◌-◌, ◌*◌, ◌%◌, ◌<◌, ◌≤◌, Bool, true, false, cond, List, [], ◌∷◌, ℤ, pos, ◌==◌, slice_index, slice_index_or}
use Rattle.words.specs.Meaning.{Meaning, InCell}
use Rattle.blocks.specs.Ranges.{basic_range, additional_range}
use Rattle.frames.specs.Places.{IsBlock, IsSample}
use Rattle.decoder.specs.Findings.{mutes}
use Rattle.decoder.specs.Closeness.{distance}
use Rattle.closeness.specs.Bounds.{odd_bound, even_bound}
use Rattle.pairs.specs.Sending.{first_block, second_block}
use Rattle.reception.specs.Given.{BlockTold, PairGiven}

-- Where a sample stands among the 64 of its pair.
abbrev pub place_of : ℕ → ℕ → ℕ
place_of block n = 32 * (block - 1) + (n - 1)

-- Of the pairs put, by number: a block of pair N with its follower, and the block after it.
abbrev pub block_put : (ℕ → List ℤ) → ℕ → ℕ → List ℤ
block_put pairs N block = cond (block == 1) (first_block (pairs N)) (second_block (pairs N) (pairs (N + 1)))

abbrev pub block_after : (ℕ → List ℤ) → ℕ → ℕ → List ℤ
block_after pairs N block = cond (block == 1) (block_put pairs N 2) (block_put pairs (N + 1) 1)

abbrev pub sample_put : (ℕ → List ℤ) → ℕ → ℕ → ℕ → ℤ
sample_put pairs N block n = slice_index_or (pairs N) (place_of block n) (pos 0)

-- Of a pair given: what is told of a block, the mark of a sample, and its word.
abbrev pub told_of : PairGiven → ℕ → BlockTold
told_of given block = cond (block == 1) given.report.first given.report.second

abbrev pub mark_of : PairGiven → ℕ → ℕ → Bool
mark_of given block n = slice_index_or (told_of given block).marks (n - 1) false

abbrev pub word_of : PairGiven → ℕ → ℕ → ℕ
word_of given block n = slice_index given.words (place_of block n)

-- A sample leaves as a word whose cell holds a y near the sample put. The bounds go by the ranges of its block, and of the block that
-- holds the sample after it; e is by how much codes may be off.
pub record Kept (e : ℕ) (outlet : Meaning) (pairs : ℕ → List ℤ) (given : PairGiven) (N block n : ℕ) : Type 0 where
  pub y : ℤ
  pub cell : InCell outlet (word_of given block n) y
  pub odd : n % 2 ≡ 1 → 2 * distance y (sample_put pairs N block n) ≤ odd_bound e (basic_range (block_put pairs N block))
  pub even : n % 2 ≡ 0 → 4 * distance y (sample_put pairs N block n)
      < even_bound e (basic_range (block_put pairs N block)) (additional_range (block_put pairs N block))
      (basic_range (cond (n == 32) (block_after pairs N block) (block_put pairs N block)))

-- Each sample that is marked sound is kept so.
abbrev pub SoundIsKept : ℕ → Meaning → (ℕ → List ℤ) → PairGiven → ℕ → Type 0
SoundIsKept e outlet pairs given N =
    (block n : ℕ) → IsBlock block → IsSample n → mark_of given block n ≡ true → Kept e outlet pairs given N block n

-- No block is muted.
abbrev pub NoneIsMuted : PairGiven → Type 0
NoneIsMuted given = (block : ℕ) → IsBlock block → mutes (told_of given block).verdict ≡ false

-- How many of some samples lack the mark.
abbrev pub unmarked : List Bool → ℕ
unmarked [] = 0
unmarked (mark ∷ marks) = cond mark (unmarked marks) (1 + unmarked marks)

abbrev pub FewLackTheMark : PairGiven → Type 0
FewLackTheMark given = (block : ℕ) → IsBlock block → unmarked (told_of given block).marks ≤ 3

abbrev pub AllAreSound : PairGiven → Type 0
AllAreSound given = (block n : ℕ) → IsBlock block → IsSample n → mark_of given block n ≡ true
