use Rattle.std.proofs.Common.{[], get_or, Some, sym, ap, ◌∙◌}
use Rattle.guards.specs.RangeCodes.{range_code}
use Rattle.guards.proofs.Tables.{ranges_at}
use Rattle.guards.proofs.Bounded.{ranges_of_code}
use Rattle.guards.proofs.ranges.Ranges.from_code.Goals as goal

pub returns : goal.returns
returns c =
    let found = c.in_ok-basic.ensures.lookup.3 in
    let entry = ap (λ row. range_code (get_or row 0 0) (get_or row 1 0)) (found.1 []) ∙ ranges_at c.args.code found.0 in
    record { answer = entry; back = λ s e. ap Some (ranges_of_code _ s (entry ∙ sym e)) }
