use Rattle.std.proofs.Common.{refl}
use Rattle.closeness.proofs.Codes.{whole, near}
use Rattle.closeness.proofs.slack_of_one_hit.Goals as goal

pub returns : goal.returns
returns c = record { value = refl; codes = record { whole = whole; near = near } }
