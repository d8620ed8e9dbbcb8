use Rattle.std.proofs.Common.{ℕ, Bool, ◌||◌, List, refl, ap, ◌∙◌}
use Rattle.reception.specs.Blocks.{judged}
use Rattle.reception.proofs.Pairs.{same_pair}
use Rattle.reception.proofs.Words.{even_first, odd_second}
use Rattle.reception.proofs.record.PairRecord.complete.Goals as goal

pub returns : goal.returns
returns c =
    let self = c.args.self.now in
    let frame = c.args.arrived.now.frame in
    let lost : Bool = self.lost || c.args.arrived.now.lost in
    let mended = c.mend-found.ensures in
    same_pair _ refl c.judge.ensures.checks c.judge-2.ensures.checks
    (c.judge.ensures.received self.ranges 1 mended.found mended.first ∙ ap (judged lost self.ranges 1 self.first.checks self.first.received.odd.words) (even_first frame))
    (c.judge-2.ensures.received self.ranges 2 mended.found mended.second
    ∙ ap (λ (ws : List ℕ). judged lost self.ranges 2 self.second.checks ws self.second.received.even.words) (odd_second frame))
