use Rattle.std.proofs.Common.{◌≡◌, ℕ, ◌^◌, ◌<◌, ap, ◌∙◌, arith}
use lib.Bits.{bit_or, bit_xor}
use Rattle.guards.specs.RangeWord.{range_word, range_word_syndrome}
use Rattle.guards.specs.Laws.{of_codes, RangeWordSent, range_word_sent}
use Rattle.guards.proofs.codes.range_word.Goals as goal

module _ (c : goal.After-syndrome) where
  word : ℕ
  word = bit_or (of_codes c.from.result c.from-2.result) (bit_xor c.syndrome.result 15)

  sent : RangeWordSent c.from.result c.from-2.result
  sent = range_word_sent c.from.result c.from-2.result (omega (arith, c.from.ensures, c.code.ensures)) (omega (arith, c.from-2.ensures, c.code-2.ensures))

  made : word ≡ range_word c.from.result c.from-2.result
  unfolding word
  made = ap (λ s. bit_or (of_codes c.from.result c.from-2.result) (bit_xor s 15)) c.syndrome.ensures ∙ sent.made

  small : word < 2 ^ 12
  small = rw made sent.small

pub overflow_cast-result : goal.overflow_cast-result
unfolding word
overflow_cast-result c = omega (arith, small c)

pub returns : goal.returns
unfolding word
returns c = record {
  value = made c ∙ ap (λ a. range_word a c.from-2.result) (c.from.ensures ∙ c.code.ensures) ∙ ap (range_word _) (c.from-2.ensures ∙ c.code-2.ensures);
  clean = ap range_word_syndrome (made c) ∙ (sent c).clean;
  small = small c;
}
