use Rattle.std.proofs.Common.{◌≡◌, ℕ, ap, ◌∙◌, subst}
use Rattle.guards.specs.Located.{outcome, located, Means}
use Rattle.guards.specs.RangeWord.{range_syndrome, range_word_syndrome}
use Rattle.guards.specs.Mended.{range_found, code_in, ranges_of_code, ranges_told}
use Rattle.guards.specs.declared.locator.Found.{Found}
use Rattle.guards.proofs.mending.mend.Goals as goal

located_so : (word s : ℕ) (found : Found) → s ≡ range_word_syndrome word → outcome found ≡ located 12 range_syndrome s → outcome found ≡ range_found word
unfolding range_found
located_so word s found e h = h ∙ ap (located 12 range_syndrome) e

pub flipped-mended-requires : goal.flipped-mended-requires
flipped-mended-requires c = record {
  answer = located_so c.args.word c.range_word_syndrome.result c.locate-found.result c.range_word_syndrome.ensures c.locate-found.ensures.answer;
  means = subst (λ (s : ℕ). Means 12 range_syndrome s c.locate-found.result) c.range_word_syndrome.ensures c.locate-found.ensures.means;
}

pub returns : goal.returns
unfolding ranges_told
returns c = record {
  found = located_so c.args.word c.range_word_syndrome.result c.locate-found.result c.range_word_syndrome.ensures c.locate-found.ensures.answer;
  first = c.ranges_in.ensures ∙ ap (λ (w : ℕ). ranges_of_code (code_in w 1)) c.flipped-mended.ensures;
  second = c.ranges_in-2.ensures ∙ ap (λ (w : ℕ). ranges_of_code (code_in w 2)) c.flipped-mended.ensures;
}
