use Rattle.fidelity.proofs.Fidelity.{one_octet_hardly_harms}
use Rattle.fidelity.proofs.one_octet_hardly_harms.Goals as goal

pub returns : goal.returns
returns c = one_octet_hardly_harms
