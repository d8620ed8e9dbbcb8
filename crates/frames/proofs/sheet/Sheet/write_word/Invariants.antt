use Rattle.std.proofs.Common.{◌≡◌, ℕ, ◌<◌, get_or}
use Rattle.frames.specs.Sheet.{over_bits}
use Rattle.frames.proofs.sheet.Sheet.write_word.Given as goal

abbrev pub invariant-loop-k : goal.invariant-loop-k
invariant-loop-k l = (c : ℕ) → c < 632 → get_or l.self.cells c 0 ≡ over_bits l.run.start l.run.places.now l.word l.k c (get_or l.initial.self.cells c 0)
