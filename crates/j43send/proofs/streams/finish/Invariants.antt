use Rattle.std.proofs.Common.{◌≤◌}
use Rattle.j43send.proofs.streams.finish.Given as goal

abbrev pub invariant-loop : goal.invariant-loop
invariant-loop g l = l.frames ≤ l.counter
