use Rattle.std.proofs.Common.{ap, ◌∙◌}
use Rattle.std.proofs.lemmas.Nat.{and_mask}
use Rattle.guards.specs.Division.{remainder, guard_syndrome}
use Rattle.guards.proofs.codes.GuardCodeCheckCode.syndrome.Goals as goal

pub returns : goal.returns
unfolding guard_syndrome
returns c = c.remainder.ensures.value ∙ ap remainder (and_mask c.args.set 29)
