use Rattle.std.proofs.Common.{◌≡◌, ◌+◌}
use Rattle.guards.proofs.Groups.{so_far}
use Rattle.guards.proofs.parities.parities.Given as goal

abbrev pub invariant-loop-sample : goal.invariant-loop-sample
invariant-loop-sample l = l.parities ≡ so_far l.odd l.even l.sample-index

abbrev pub invariant-loop-first : goal.invariant-loop-first
invariant-loop-first l = l.parities ≡ so_far l.odd l.even (16 + l.first-index)
