use Rattle.std.proofs.Common.{rules}
use Rattle.std.specs.Iterator.Adapters.{zip_first}
use Rattle.j41gate.proofs.Counts.{counted_after}
use Rattle.j41gate.proofs.streams.report.Goals as goal

pub loop-pair-preserved : goal.loop-pair-preserved
loop-pair-preserved g c =
    let counted =
    counted_after c.loop-pair.tally c.note.new.self c.match-outcome.outcome (zip_first c.loop-pair.pair-iterator).start c.loop-pair.invariant.2 c.note.ensures in
    search rules
