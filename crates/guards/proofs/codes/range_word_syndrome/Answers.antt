use Rattle.std.proofs.Common.{sym, ap, ◌∙◌}
use lib.Bits.{bit_xor}
use Rattle.guards.specs.RangeWord.{range_syndrome}
use Rattle.guards.specs.Laws.{inverted}
use Rattle.guards.proofs.codes.range_word_syndrome.Goals as goal

pub returns : goal.returns
returns c = c.syndrome.ensures ∙ ap (λ w. range_syndrome (bit_xor w 15)) c.from.ensures ∙ sym (inverted c.args.word)
