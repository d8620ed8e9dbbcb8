-- The linear law keeps the cell rule, and has every sample.
use Rattle.std.proofs.Common.{rules}
use Rattle.words.specs.Meaning.{CellRule, Wide}
use Rattle.words.specs.Linear.{linear}

pub linear_rule : CellRule linear
linear_rule = search rules

pub linear_wide : Wide linear
linear_wide = search rules
