use Rattle.closeness.proofs.Closeness.{stays_close}
use Rattle.closeness.proofs.Bounds.of.Goals as goal

pub returns-clause-close : goal.returns-clause-close
returns-clause-close c = stays_close
