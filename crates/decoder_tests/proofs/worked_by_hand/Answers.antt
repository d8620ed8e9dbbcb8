use Rattle.std.proofs.Common.{refl}
use lib.Count.{ones}
use Rattle.guards.specs.Division.{columns, remainder, guard_syndrome}
use Rattle.guards.specs.Mended.{range_found, mended}
use Rattle.guards.specs.RangeWord.{range_word, range_syndrome, range_word_syndrome}
use Rattle.blocks.specs.Ranges.{differences, basic_range, additional_range}
use Rattle.decoder_tests.proofs.worked_by_hand.Goals as goal

pub returns : goal.returns
unfolding ones columns remainder guard_syndrome range_found mended range_word range_syndrome range_word_syndrome differences basic_range additional_range
returns c = record {
  ranges = refl;
  differences = refl;
  additional_ranges = refl;
  codes = refl;
  odd = refl;
  widest = refl;
  widest_code = refl;
  middle = refl;
  loud = refl;
  held = refl;
  hurt = refl;
  muted = refl;
  silence = refl;
  corrected = refl;
  beyond = refl;
  gate = refl;
}
