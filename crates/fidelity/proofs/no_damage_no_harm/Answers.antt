use Rattle.fidelity.proofs.Fidelity.{no_damage_no_harm}
use Rattle.fidelity.proofs.no_damage_no_harm.Goals as goal

pub returns : goal.returns
returns c = no_damage_no_harm
