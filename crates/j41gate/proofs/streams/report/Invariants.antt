use Rattle.std.proofs.Common.{◌≡◌}
use Rattle.std.specs.Iterator.Adapters.{zip_first}
use Rattle.j41gate.proofs.Counts.{Counted}
use Rattle.j41gate.proofs.streams.report.Given as goal

abbrev pub invariant-loop-pair : goal.invariant-loop-pair
invariant-loop-pair g l =
    (goal.iterator-loop-pair g).can_next l.pair-iterator
    × (goal.iterator-loop-pair g).is_finite l.pair-iterator
    × Counted l.tally (zip_first l.pair-iterator).start
    × ((zip_first l.pair-iterator).end ≡ 144115188075855871)
