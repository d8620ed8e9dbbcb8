use Rattle.std.proofs.Common.{◌≡◌, ℕ, ◌^◌, ◌<◌, ◌≤◌}
use lib.Bits.{bit_xor}
use Rattle.guards.specs.Division.{times_divisor}
use Rattle.guards.proofs.codes.remainder.Given as goal

abbrev pub invariant-loop-degree : goal.invariant-loop-degree
invariant-loop-degree l = (5 ≤ l.degree) × (l.left < 2 ^ l.degree) × ((q : ℕ) × (l.polynomial ≡ bit_xor (times_divisor q) l.left))
