use Rattle.damage.proofs.Octets.{octets_hold_little}
use Rattle.damage.proofs.Hurting.{one_octet_hardly_hurts}
use Rattle.damage.proofs.one_octet_hits_little.Goals as goal

pub returns : goal.returns
returns c = record { apart = octets_hold_little; hurt = one_octet_hardly_hurts }
