use Rattle.std.proofs.Common.{◌≡◌, ℕ, ◌+◌, ◌*◌, ◌<◌, get_or}
use Rattle.guards.specs.Bits.{number}
use Rattle.frames.specs.Sheet.{bit_of}
use Rattle.frames.proofs.sheet.Sheet.pack.Given as goal

abbrev pub invariant-loop-j : goal.invariant-loop-j
invariant-loop-j l = (k : ℕ) → k < l.j → get_or l.octets k 0 ≡ number (λ t. bit_of l.self.cells (8 * k + t)) 8
