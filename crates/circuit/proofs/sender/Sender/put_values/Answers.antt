use Rattle.std.proofs.Common.{sym, ◌∙◌, rules}
use Rattle.circuit.proofs.Outside.{none_outside}
use Rattle.circuit.proofs.sender.Sender.put_values.Goals as goal

pub invariant_of-accept : goal.invariant_of-accept
invariant_of-accept c = record { all = search rules; bounded = none_outside c.args.values 0 (sym c.first_outside.ensures ∙ c.in_default.is) }
