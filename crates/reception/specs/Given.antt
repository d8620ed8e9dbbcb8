-- A pair as it is given: 64 words of the outlet, and a report on its two blocks.
use Rattle.std.specs.Prelude.{ℕ, ◌+◌, Bool, cond, List, ◌++◌, map, ℤ, Some, None, Option}
use Rattle.words.specs.Meaning.{Meaning}
use Rattle.decoder.specs.declared.follower.Follower.{Follower}
use Rattle.decoder.specs.Findings.{Finding, tells_ranges}
use Rattle.decoder.specs.Marks.{is_sound, marks_of}
use Rattle.decoder.specs.Samples.{Received, follower_of, samples_of}
use Rattle.reception.specs.Arrivals.{Arrival, lost_part, heard_of}
use Rattle.reception.specs.Blocks.{block_heard}

-- What is told of a block: its ranges unless it is muted for a loss or its range word, its verdict, and a mark for each sample.
pub record BlockTold : Type 0 where
  pub ranges : Option (ℕ × ℕ)
  pub verdict : Finding
  pub marks : List Bool

pub record Told : Type 0 where
  pub first : BlockTold
  pub second : BlockTold

abbrev pub block_told : Received → Follower → BlockTold
block_told b next = record {
  ranges = cond (tells_ranges b.found) (Some (b.basic, b.additional)) None;
  verdict = b.found;
  marks = marks_of b.found (is_sound next);
}

-- The report on two blocks and their followers.
abbrev pub told : Received → Received → Received → Told
told first second next = record { first = block_told first (follower_of second); second = block_told second (follower_of next) }

-- The samples of two blocks, the second followed by the next pair's first.
abbrev pub pair_samples : Received → Received → Received → List ℤ
pair_samples first second next = samples_of first (follower_of second) ++ samples_of second (follower_of next)

pub record PairGiven : Type 0 where
  pub words : List ℕ
  pub report : Told

abbrev pub giving : Meaning → Received → Received → Received → PairGiven
giving outlet first second next = record {
  words = map outlet.word (pair_samples first second next);
  report = told first second next;
}

-- A block of pair N, by arrivals N to N + 2.
abbrev pub block_at : (ℕ → Arrival) → ℕ → ℕ → Received
block_at arrivals N block = block_heard (lost_part arrivals N) (heard_of arrivals N) block

-- Pair N as given, by arrivals N to N + 3 and the outlet alone.
unfoldable pub pair_given : Meaning → (ℕ → Arrival) → ℕ → PairGiven
pair_given outlet arrivals N = giving outlet (block_at arrivals N 1) (block_at arrivals N 2) (block_at arrivals (N + 1) 1)
