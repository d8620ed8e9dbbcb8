use Rattle.guards.proofs.Tables.{code_at}
use Rattle.guards.proofs.ranges.Ranges.code.Goals as goal

pub returns : goal.returns
returns c = code_at c.args.self.now.additional c.args.self.now.basic c.args.self.now.within.1 c.args.self.now.within.0
