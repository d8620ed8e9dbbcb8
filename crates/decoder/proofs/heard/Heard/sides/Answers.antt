use Rattle.std.proofs.Common.{pos, ap, ◌∙◌, arith, rules}
use Rattle.std.proofs.lemmas.List.{get_or_default}
use Rattle.decoder.specs.Samples.{odd_level, after}
use Rattle.decoder.specs.Received.{received}
use Rattle.decoder.proofs.Given.{one_more}
use Rattle.decoder.proofs.heard.Heard.sides.Goals as goal

pub returns : goal.returns
returns c = λ k h.
    let b = received c.args.self.now.block.now in
    let xs = c.odd_levels-levels.result in
    let own = get_or_default xs 15 c.index-levels.result (pos 0) (search rules) ∙ c.odd_levels-levels.ensures 15 (omega arith) in
    rw c.copy_from_slice.ensures.after
    (one_more (odd_level b) xs c.level_after-sides.result (after c.args.next.now (odd_level b 31)) (search rules) c.odd_levels-levels.ensures
    (c.level_after-sides.ensures ∙ ap (after c.args.next.now) own) k h)
