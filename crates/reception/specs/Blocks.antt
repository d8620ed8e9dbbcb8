-- A block of a pair as it is received: its words with what is found of them.
use Rattle.std.specs.Prelude.{ℕ, ◌+◌, ◌*◌, Bool, cond, List, map, is_some, Some, None, Option}
use Rattle.std.specs.List.{range_with_len}
use Rattle.guards.specs.Division.{guard_syndrome}
use Rattle.guards.specs.Located.{located}
use Rattle.guards.specs.Mended.{range_found, ranges_told}
use Rattle.guards.specs.Parities.{guards}
use Rattle.guards.specs.Words.{by_sample}
use Rattle.frames.specs.Frame.{Pair}
use Rattle.decoder.specs.Findings.{Finding, tells_ranges}
use Rattle.decoder.specs.Samples.{Received}
use Rattle.decoder.specs.Verdicts.{first_that_applies}

-- The words of a block's samples 1, 3 .. 31 and 2, 4 .. 32.
abbrev pub odd_words_of : Pair → ℕ → List ℕ
odd_words_of p block = map (λ i. p.word block (2 * i + 1)) (range_with_len 0 16)

abbrev pub even_words_of : Pair → ℕ → List ℕ
even_words_of p block = map (λ i. p.word block (2 * i + 2)) (range_with_len 0 16)

-- What the locator answers for the parities of these words and the checks received.
unfoldable pub guards_found : List ℕ → List ℕ → ℕ → ℕ × ℕ
guards_found odd even checks = located 29 guard_syndrome (guard_syndrome (guards (by_sample odd even) checks))

-- The verdict: a frame of it is lost or not, the range word of its pair as received, which block it is, its checks and words.
unfoldable pub verdict_of : Bool → ℕ → ℕ → ℕ → List ℕ → List ℕ → Finding
verdict_of lost range_word block checks odd even =
    first_that_applies lost (range_found range_word) (is_some (ranges_told range_word block)) (guards_found odd even checks)

-- Ranges that are not told count as 0.
abbrev pub basic_in : Option (ℕ × ℕ) → ℕ
basic_in (Some ranges) = ranges.0
basic_in None = 0

abbrev pub additional_in : Option (ℕ × ℕ) → ℕ
additional_in (Some ranges) = ranges.1
additional_in None = 0

-- A block with its verdict and the ranges that go with it.
abbrev pub judged_as : Finding → Option (ℕ × ℕ) → List ℕ → List ℕ → Received
judged_as found ranges odd even = record {
  found = found;
  basic = basic_in (cond (tells_ranges found) ranges None);
  additional = additional_in (cond (tells_ranges found) ranges None);
  odd_words = odd;
  even_words = even;
}

abbrev pub judged : Bool → ℕ → ℕ → ℕ → List ℕ → List ℕ → Received
judged lost range_word block checks odd even =
    judged_as (verdict_of lost range_word block checks odd even) (ranges_told range_word block) odd even

-- A block of a pair as heard.
unfoldable pub block_heard : Bool → Pair → ℕ → Received
block_heard lost p block = judged lost p.ranges block (p.checks block) (odd_words_of p block) (even_words_of p block)
