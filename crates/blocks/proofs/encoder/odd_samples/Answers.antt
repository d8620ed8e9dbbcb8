use Rattle.std.proofs.Common.{◌*◌, get_or, pos, rules}
use Rattle.blocks.specs.Coding.{odd_samples}
use Rattle.words.proofs.Made.{made}
use Rattle.blocks.proofs.encoder.odd_samples.Goals as goal

pub returns : goal.returns
unfolding odd_samples
returns c = made _ _ (λ k. get_or c.args.block.now.samples (2 * k) (pos 0)) 16 (pos 0) (λ i y q k h. search rules) c.from_fn.result c.from_fn.ensures.items
