-- A received block of the code, as the definitions have it.
use Rattle.std.specs.Prelude.{ℕ, Some, None, Option}
use Rattle.guards.specs.declared.ranges.Ranges.{Ranges}
use Rattle.decoder.specs.declared.received.ReceivedBlock.{ReceivedBlock}
use Rattle.decoder.specs.Findings.{finding}
use Rattle.decoder.specs.Samples.{Received}

-- Without ranges a block is muted, and they count for nothing.
abbrev pub basic_of : Option Ranges → ℕ
basic_of (Some ranges) = ranges.basic
basic_of None = 0

abbrev pub additional_of : Option Ranges → ℕ
additional_of (Some ranges) = ranges.additional
additional_of None = 0

abbrev pub received : ReceivedBlock → Received
received block = record {
  found = finding block.judged.verdict;
  basic = basic_of block.judged.ranges;
  additional = additional_of block.judged.ranges;
  odd_words = block.odd.words;
  even_words = block.even.words;
}
