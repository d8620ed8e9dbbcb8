-- The code's pairs and frames, seen as words, range word and checks.
use Rattle.std.specs.Prelude.{ℕ, cond, List, map, ◌==◌}
use Rattle.std.specs.List.{range_with_len}
use Rattle.guards.specs.Words.{by_sample}
use Rattle.frames.specs.declared.content.GuardedBlock.{GuardedBlock}
use Rattle.frames.specs.declared.content.CodedPair.{CodedPair}
use Rattle.frames.specs.declared.content.Frame.{Frame}
use Rattle.frames.specs.Frame.{Pair}

-- The word of a block's sample n.
abbrev pub word_in : GuardedBlock → ℕ → ℕ
word_in block n = by_sample block.odd.words block.even.words n

-- A range word and two blocks.
abbrev pub pair_by : ℕ → GuardedBlock → GuardedBlock → Pair
pair_by ranges first second = record {
  word = λ block n. cond (block == 1) (word_in first n) (word_in second n);
  ranges = ranges;
  checks = λ block. cond (block == 1) first.checks second.checks;
}

abbrev pub coded : CodedPair → Pair
coded p = pair_by p.ranges p.first p.second

-- What a frame carries.
abbrev pub pair_in : Frame → Pair
pair_in f = pair_by f.ranges f.first f.second

-- All that a pair or a frame has, as one value: two are the same in all that a frame carries where these are equal.
pub record Listed : Type 0 where
  pub words : List (List ℕ)
  pub range_word : ℕ
  pub check_words : List ℕ

abbrev pub listed : Pair → Listed
listed p = record {
  words = map (λ block. map (p.word block) (range_with_len 1 32)) (range_with_len 1 2);
  range_word = p.ranges;
  check_words = map p.checks (range_with_len 1 2);
}
