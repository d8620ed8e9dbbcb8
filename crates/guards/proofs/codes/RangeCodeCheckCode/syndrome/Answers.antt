use Rattle.std.proofs.Common.{◌≡◌, ap, ◌∙◌, arith}
use Rattle.guards.specs.Bits.{number}
use Rattle.guards.proofs.Checked.{checked_bit, checked}
use Rattle.guards.specs.Rows.{number_more, number_room}
use Rattle.guards.proofs.codes.RangeCodeCheckCode.syndrome.Goals as goal

pub append_parity-syndrome-requires : goal.append_parity-syndrome-requires
append_parity-syndrome-requires c =
    omega (arith, number_room (checked_bit c.args.set) (λ i. omega arith) c.loop-check.check-index c.loop-check.syndrome c.loop-check.invariant (omega arith))

pub loop-check-preserved : goal.loop-check-preserved
loop-check-preserved c =
    c.append_parity-syndrome.ensures ∙ number_more (checked_bit c.args.set) c.loop-check.check-index c.loop-check.syndrome c.loop-check.invariant

pub returns : goal.returns
returns c =
    let end : c.loop-check.check-index ≡ 4 = omega arith in
    c.loop-check.invariant ∙ ap (number (checked_bit c.args.set)) end ∙ checked c.args.set
