use Rattle.std.proofs.Common.{arith}
use Rattle.pairs.proofs.Placed.{long, is_block, small}
use Rattle.pairs.proofs.pair.Pair.first_block.Goals as goal

pub invariant_of-result : goal.invariant_of-result
invariant_of-result c =
    let xs = c.args.self.now.samples in
    let row = c.copy_from_slice.new.self in
    let cut = c.copy_from_slice.ensures.after in
    record { all = long xs row 0 (omega (arith, c.args.self.now.all)) cut; bounded = small xs row 0 (omega (arith, c.args.self.now.all)) cut c.args.self.now.bounded }

pub returns : goal.returns
returns c = is_block c.args.self.now.samples c.copy_from_slice.new.self 0 (omega (arith, c.args.self.now.all)) c.copy_from_slice.ensures.after
