use Rattle.std.proofs.Common.{◌≡◌, ap, ◌∙◌, arith}
use Rattle.decoder.specs.Levels.{level}
use Rattle.decoder.proofs.Sizes.{Shifted, shifted}
use Rattle.decoder.proofs.scale.Scale.level_of.Goals as goal
use Rattle.decoder.proofs.scale.Scale.level_of.Goals.{After-code_of}

shift : (c : After-code_of) → Shifted c.code_of.result c.args.self.range
shift c = shifted c.code_of.result c.args.self.range (omega arith) c.args.self.narrow

pub new-requires : goal.new-requires
new-requires c = rw (shift (goal.at.new-requires c).After-code_of).is (shift (goal.at.new-requires c).After-code_of).small

pub returns : goal.returns
returns c =
    let s = shifted c.code_of.result c.args.self.range (omega arith) c.args.self.narrow in
    let is : c.new.result ≡ level c.args.self.range c.code_of.result = c.new.ensures ∙ s.is in
    record { value = is ∙ ap (level c.args.self.range) c.code_of.ensures.value; basic = λ h. rw is (s.basic h) }
