use Rattle.std.proofs.Common.{◌≡◌, pos, slice_index, rules}
use Rattle.decoder.specs.Levels.{code_of, level}
use Rattle.words.proofs.Made.{each_made}
use Rattle.decoder.proofs.scale.Scale.levels_of.Goals as goal

pub returns : goal.returns
returns c = each_made (λ k y. y ≡ level c.args.self.range (code_of c.args.self.half (slice_index c.args.words.now k))) _ _ _ (pos 0) (λ i y q within call. search rules) _ c.from_fn.ensures.items
