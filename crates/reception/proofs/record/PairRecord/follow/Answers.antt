use Rattle.std.proofs.Common.{ℕ, List, refl, ap, ◌∙◌}
use Rattle.reception.specs.Recording.{unjudged}
use Rattle.reception.proofs.Pairs.{same_pair}
use Rattle.reception.proofs.Words.{odd_first, even_second}
use Rattle.reception.proofs.record.PairRecord.follow.Goals as goal

pub returns : goal.returns
returns c =
    let self = c.args.self.now in
    let frame = c.args.arrived.now.frame in
    same_pair _ refl refl refl
    (c.unjudged-self.ensures ∙ ap (λ (ws : List ℕ). unjudged ws self.first.received.even.words) (odd_first frame))
    (c.unjudged-self-2.ensures ∙ ap (unjudged self.second.received.odd.words) (even_second frame))
