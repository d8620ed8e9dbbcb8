-- A block judged by the code is the defined one: the same verdict, and the ranges that go with it.
use Rattle.std.proofs.Common.{◌≡◌, ℕ, Bool, true, false, cond, is_some, Some, None, Option, refl, ap, ◌∙◌}
use Rattle.guards.specs.Located.{outcome}
use Rattle.guards.specs.Mended.{range_found, ranges_told, numbers_of}
use Rattle.guards.specs.declared.locator.Found.{Found}
use Rattle.guards.specs.declared.ranges.Ranges.{Ranges}
use Rattle.decoder.specs.declared.received.ReceivedBlock.{ReceivedBlock}
use Rattle.decoder.specs.Findings.{finding, tells_ranges}
use Rattle.decoder.specs.Received.{received, basic_of, additional_of}
use Rattle.decoder.specs.Verdicts.{first_that_applies}
use Rattle.reception.specs.Blocks.{guards_found, verdict_of, basic_in, additional_in, judged}

basic_by : (ranges : Option Ranges) → basic_of ranges ≡ basic_in (numbers_of ranges)
basic_by (Some ranges) = refl
basic_by None = refl

additional_by : (ranges : Option Ranges) → additional_of ranges ≡ additional_in (numbers_of ranges)
additional_by (Some ranges) = refl
additional_by None = refl

some_by : (ranges : Option Ranges) → is_some ranges ≡ is_some (numbers_of ranges)
some_by (Some ranges) = refl
some_by None = refl

numbers_where : (t : Bool) (ranges : Option Ranges) → numbers_of (cond t ranges None) ≡ cond t (numbers_of ranges) None
numbers_where true ranges = refl
numbers_where false ranges = refl

-- what is asked of a block that the code has judged
pub record JudgedSo (lost : Bool) (word block checks : ℕ) (b : ReceivedBlock) : Type 0 where
  pub range_word : Found
  pub ranges : Option Ranges
  pub found : outcome range_word ≡ range_found word
  pub numbers : numbers_of ranges ≡ ranges_told word block
  pub verdict : finding b.judged.verdict ≡ first_that_applies lost (outcome range_word) (is_some ranges) (guards_found b.odd.words b.even.words checks)
  pub told : b.judged.ranges ≡ cond (tells_ranges (finding b.judged.verdict)) ranges None

module _ (lost : Bool) (word block checks : ℕ) (b : ReceivedBlock) (j : JudgedSo lost word block checks b) where
  same_verdict : finding b.judged.verdict ≡ verdict_of lost word block checks b.odd.words b.even.words
  unfolding verdict_of
  same_verdict =
      let verdict = j.verdict in
      let found = j.found in
      let some = some_by j.ranges in
      let numbers = j.numbers in
      cc

  pub judged_so : received b ≡ judged lost word block checks b.odd.words b.even.words
  judged_so =
      let verdict = same_verdict in
      let numbers = ap numbers_of j.told ∙ numbers_where (tells_ranges (finding b.judged.verdict)) j.ranges in
      let told = j.numbers in
      let basic = basic_by b.judged.ranges in
      let additional = additional_by b.judged.ranges in
      cc
