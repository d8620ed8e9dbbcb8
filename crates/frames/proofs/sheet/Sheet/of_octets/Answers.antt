use Rattle.std.proofs.Common.{arith}
use Rattle.frames.specs.Frame.{bit_at}
use Rattle.frames.proofs.Rows.{bit_at_bit}
use Rattle.frames.proofs.Cells.{cells_small}
use Rattle.frames.proofs.sheet.Sheet.of_octets.Goals as goal

pub invariant_of-result : goal.invariant_of-result
invariant_of-result c =
    let o = c.args.octets.now in
    let long = c.loop-l.invariant.0 in
    record { all = long; bits = cells_small (bit_at o) (bit_at_bit o) c.loop-l.cells long (λ k h. c.loop-l.invariant.1 k (omega arith)) }
