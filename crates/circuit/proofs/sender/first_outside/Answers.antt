use Rattle.std.proofs.Common.{◌^◌, ◌<◌, ◌≤◌, ℤ, rules, tests}
use lib.Signed.{mag}
use Rattle.std.proofs.lemmas.Iterator.{IsFirst-from_position, YieldsList-from_slice}
use Rattle.circuit.proofs.Outside.{first_is}
use Rattle.circuit.proofs.sender.first_outside.Goals as goal

pub returns : goal.returns
returns c =
    first_is c.args.values.now _
    (IsFirst-from_position _ _ _ (λ (v : ℤ). 2 ^ 13 ≤ mag v) (λ (v : ℤ). mag v < 2 ^ 13) c.position.ensures.ran (YieldsList-from_slice c.args.values.now (cc))
    (λ x q k. search (rules, tests)) (λ x q k. search (rules, tests)))
