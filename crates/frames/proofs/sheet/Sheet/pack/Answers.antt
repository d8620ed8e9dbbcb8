use Rattle.std.proofs.Common.{◌+◌, ◌*◌, arith}
use Rattle.std.proofs.lemmas.List.FromFn.{fill_by_all}
use Rattle.guards.specs.Bits.{number}
use Rattle.frames.specs.Frame.{packed}
use Rattle.frames.specs.Sheet.{bit_of}
use Rattle.frames.proofs.sheet.Sheet.pack.Goals as goal

pub returns : goal.returns
unfolding packed
returns c = fill_by_all (λ j. number (λ t. bit_of c.args.self.now.cells (8 * j + t)) 8) c.loop-j.octets 80 0 (omega arith) (λ k h. c.loop-j.invariant k (omega arith))
