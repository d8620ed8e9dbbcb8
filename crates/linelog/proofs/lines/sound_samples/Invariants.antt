use Rattle.std.proofs.Common.{◌≡◌, ◌≤◌, take}
use Rattle.linelog.specs.Lines.{sound_samples}
use Rattle.linelog.proofs.lines.sound_samples.Given as goal

abbrev pub invariant-loop-mark : goal.invariant-loop-mark
invariant-loop-mark l = (l.sound ≡ sound_samples (take l.mark-index l.block.marks)) × (l.sound ≤ l.mark-index)
