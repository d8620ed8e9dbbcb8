use Rattle.std.proofs.Common.{true, ap, ◌∙◌}
use Rattle.frames.specs.Content.{Listed}
use Rattle.reception.proofs.Silence.{nothing_heard}
use Rattle.reception.proofs.arrived.Arrived.lost.Goals as goal

pub returns : goal.returns
returns c = ap (λ (l : Listed). (true, l)) (c.blank-frame.ensures ∙ nothing_heard)
