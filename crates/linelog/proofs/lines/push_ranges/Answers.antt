use Rattle.std.proofs.Common.{append_assoc, refl, arith}
use Rattle.linelog.proofs.Numbers.{printed}
use Rattle.linelog.proofs.lines.push_ranges.Goals as goal

pub returns-in-Some-clause-written : goal.returns-in-Some-clause-written
returns-in-Some-clause-written c =
    let basic = printed c.in-Some.ranges.basic (omega arith) in
    let additional = printed c.in-Some.ranges.additional (omega arith) in
    simp (c.push_number-in-Some.ensures.written, c.push_number.ensures.written, c.basic.ensures, c.additional.ensures, c.in-Some.is, basic, additional, append_assoc) refl
