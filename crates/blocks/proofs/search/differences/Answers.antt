use Rattle.std.proofs.Common.{pos, rules}
use Rattle.blocks.specs.Ranges.{difference_at, differences}
use Rattle.words.proofs.Made.{made}
use Rattle.blocks.proofs.search.differences.Goals as goal

pub returns : goal.returns
unfolding differences
returns c = made _ _ (difference_at c.args.block.now.samples) 16 (pos 0) (λ i y q k h. search rules) c.from_fn.result c.from_fn.ensures.items
