use Rattle.std.proofs.Common.{◌≡◌, ◌+◌, ◌*◌, ◌^◌, ◌<◌}
use Rattle.guards.specs.Bits.{number}
use Rattle.frames.specs.Sheet.{bit_of}
use Rattle.frames.proofs.sheet.Sheet.octet.Given as goal

abbrev pub invariant-loop-cell : goal.invariant-loop-cell
invariant-loop-cell l = (l.octet ≡ number (λ t. bit_of l.self.cells (8 * l.j + t)) l.cell-index) × (l.octet < 2 ^ l.cell-index)
