-- The range code of a block, four bits: 14 less its basic range, 0 to 4, and less five times its additional range, 0 to 2.
-- So the codes are 0 to 14, and 15 is unused.
use Rattle.std.specs.Prelude.{ℕ, ◌-◌, ◌*◌}

abbrev pub range_code : ℕ → ℕ → ℕ
range_code basic additional = 14 - basic - 5 * additional
