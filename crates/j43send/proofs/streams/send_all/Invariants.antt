use Rattle.std.proofs.Common.{◌≡◌, ◌≤◌}
use Rattle.std.specs.Iterator.Adapters.{zip_first}
use Rattle.j43send.specs.Counts.{Within}
use Rattle.j43send.proofs.streams.send_all.Given as goal

abbrev pub invariant-loop-pair : goal.invariant-loop-pair
invariant-loop-pair l =
    (goal.iterator-loop-pair).can_next l.pair-iterator
    × (goal.iterator-loop-pair).is_finite l.pair-iterator
    × (l.counts.pairs ≡ (zip_first l.pair-iterator).start)
    × (l.counts.pairs ≤ 144115188075855871)
    × ((zip_first l.pair-iterator).end ≡ 144115188075855871)
    × Within l.counts
