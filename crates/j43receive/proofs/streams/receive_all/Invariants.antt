use Rattle.std.proofs.Common.{◌≡◌}
use Rattle.std.specs.Iterator.Adapters.{zip_first}
use Rattle.j43receive.specs.Counts.{Within}
use Rattle.j43receive.proofs.streams.receive_all.Given as goal

abbrev pub invariant-loop-frame : goal.invariant-loop-frame
invariant-loop-frame l =
    (goal.iterator-loop-frame).can_next l.frame-iterator
    × (goal.iterator-loop-frame).is_finite l.frame-iterator
    × (l.counts.frames ≡ (zip_first l.frame-iterator).start)
    × ((zip_first l.frame-iterator).end ≡ 230584300921369395)
    × Within l.counts
