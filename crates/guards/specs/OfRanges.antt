-- The range code of a value of `Ranges`.
use Rattle.std.specs.Prelude.{ℕ}
use Rattle.guards.specs.RangeCodes.{range_code}
use Rattle.guards.specs.declared.ranges.Ranges.{Ranges}

abbrev pub code_of : Ranges → ℕ
code_of ranges = range_code ranges.basic ranges.additional
