use Rattle.std.proofs.Common.{◌≡◌, refl, arith, rules}
use Rattle.blocks.specs.Coding.{coded}
use Rattle.blocks.proofs.Ranging.{odd_inside, even_inside, basic_is, additional_is}
use Rattle.blocks.proofs.encoder.encode.Goals as goal

pub words_of-requires : goal.words_of-requires
words_of-requires c =
    let b = c.args.block.now in
    let r = c.ranges_with-ranges.result.basic in
    let law : c.unwrap-basic.result.range ≡ r = search rules in
    (omega arith, (refl, λ k h. rw (law, c.odd_samples.ensures) (odd_inside b.samples b.all r c.ranges_with-ranges.ensures.basic.holds k h)))

pub words_of-requires-2 : goal.words_of-requires-2
words_of-requires-2 c =
    let b = c.args.block.now in
    let r = c.ranges_with-ranges.result.basic in
    let a = c.ranges_with-ranges.result.additional in
    let basic : c.unwrap-additional.result.basic_range ≡ r = search rules in
    let additional : c.unwrap-additional.result.range ≡ a = search rules in
    (omega arith, (refl, λ k h. rw (basic, additional, c.differences-diffs.ensures) (even_inside b.samples b.all r a c.ranges_with-ranges.ensures.additional.holds k h)))

pub returns : goal.returns
unfolding coded
returns c =
    let b = c.args.block.now in
    let r = c.ranges_with-ranges.result.basic in
    let a = c.ranges_with-ranges.result.additional in
    let ranged = c.ranges_with-ranges.ensures in
    let odd_law : c.unwrap-basic.result.range ≡ r = search rules in
    let basic : c.unwrap-additional.result.basic_range ≡ r = search rules in
    let additional : c.unwrap-additional.result.range ≡ a = search rules in
    record {
      value = rw (c.words_of.ensures, c.words_of-2.ensures, odd_law, basic, additional, c.odd_samples.ensures, c.differences-diffs.ensures, basic_is b.samples r a ranged, additional_is b.samples r a ranged) refl;
      smallest = ranged;
    }
