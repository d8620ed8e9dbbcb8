-- A pair as it is sent: the codes of its two blocks, with the range word and the checks that guard them.
use Rattle.std.specs.Prelude.{◌≡◌, ℕ, ◌+◌, ◌^◌, ◌<◌, cond, List, ◌++◌, map, length, slice_index_or, ℤ, pos, ◌==◌}
use Rattle.std.specs.Int.Signed.{mag}
use Rattle.std.specs.List.{range_with_len}
use Rattle.guards.specs.Words.{by_sample}
use Rattle.guards.specs.Parities.{parities}
use Rattle.guards.specs.Division.{checks_of}
use Rattle.guards.specs.RangeCodes.{range_code}
use Rattle.guards.specs.RangeWord.{range_word}
use Rattle.blocks.specs.Coding.{Code, coded}
use Rattle.frames.specs.Frame.{Pair}

-- 64 samples, each within -8192 to 8191.
pub record IsPair (values : List ℤ) : Type 0 where
  pub all : length values ≡ 64
  pub bounded : (k : ℕ) → k < length values → mag (slice_index_or values k (pos 0)) < 2 ^ 13

-- 33 samples of a row, from a place on.
unfoldable pub block_from : List ℤ → ℕ → List ℤ
block_from samples place = map (λ k. slice_index_or samples (place + k) (pos 0)) (range_with_len 0 33)

-- The first block of a pair is followed by its second one, the second block by the next pair.
abbrev pub first_block : List ℤ → List ℤ
first_block pair = block_from pair 0

abbrev pub second_block : List ℤ → List ℤ → List ℤ
second_block pair next = block_from (pair ++ next) 32

-- The words of a block by sample.
abbrev pub words_of : Code → ℕ → ℕ
words_of code = by_sample code.odd code.even

-- Two coded blocks with their guards.
abbrev pub guarded : Code → Code → Pair
guarded first second = record {
  word = λ block n. cond (block == 1) (words_of first n) (words_of second n);
  ranges = range_word (range_code first.basic_of first.additional_of) (range_code second.basic_of second.additional_of);
  checks = λ block. cond (block == 1) (checks_of (parities (words_of first))) (checks_of (parities (words_of second)));
}

-- A pair before the next one.
unfoldable pub sent_pair : List ℤ → List ℤ → Pair
sent_pair pair next = guarded (coded (first_block pair)) (coded (second_block pair next))

-- Pair k as coded, of pairs by number.
abbrev pub codes_of : (ℕ → List ℤ) → ℕ → Pair
codes_of pairs k = sent_pair (pairs k) (pairs (k + 1))
