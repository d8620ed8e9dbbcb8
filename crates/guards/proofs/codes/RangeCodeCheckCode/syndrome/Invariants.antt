use Rattle.std.proofs.Common.{◌≡◌}
use Rattle.guards.specs.Bits.{number}
use Rattle.guards.proofs.Checked.{checked_bit}
use Rattle.guards.proofs.codes.RangeCodeCheckCode.syndrome.Given as goal

abbrev pub invariant-loop-check : goal.invariant-loop-check
invariant-loop-check l = l.syndrome ≡ number (checked_bit l.set) l.check-index
