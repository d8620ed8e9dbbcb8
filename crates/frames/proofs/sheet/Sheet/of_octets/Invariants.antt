use Rattle.std.proofs.Common.{◌≡◌, ℕ, ◌+◌, ◌*◌, ◌<◌, length, get_or}
use Rattle.frames.specs.Frame.{bit_at}
use Rattle.frames.specs.Sheet.{bit_of_cell}
use Rattle.frames.proofs.sheet.Sheet.of_octets.Given as goal

abbrev pub invariant-loop-l : goal.invariant-loop-l
invariant-loop-l l = (length l.cells ≡ 632) × ((c : ℕ) → c < 79 * l.l → get_or l.cells c 0 ≡ bit_at l.octets (bit_of_cell c))

abbrev pub invariant-loop-b : goal.invariant-loop-b
invariant-loop-b l = (length l.cells ≡ 632) × ((c : ℕ) → c < 79 * l.l + l.b → get_or l.cells c 0 ≡ bit_at l.octets (bit_of_cell c))
