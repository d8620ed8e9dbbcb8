use Rattle.std.proofs.Common.{◌≡◌, ℕ, ◌<◌, get_or}
use Rattle.frames.proofs.Cells.{over_halves}
use Rattle.frames.proofs.sheet.Sheet.write_words.Given as goal

abbrev pub invariant-loop-i : goal.invariant-loop-i
invariant-loop-i g l = (c : ℕ) → c < 632 → get_or l.self.cells c 0 ≡ over_halves l.letter.columns.now l.words l.i c (get_or l.initial.self.cells c 0)
