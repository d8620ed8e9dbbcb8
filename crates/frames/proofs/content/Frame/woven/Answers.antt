use Rattle.std.proofs.Common.{refl}
use Rattle.frames.specs.Frame.{frame_of}
use Rattle.frames.proofs.Same.{same_listed, octets_same}
use Rattle.frames.proofs.content.Frame.woven.Goals as goal

pub returns-clause-octets : goal.returns-clause-octets
unfolding frame_of
returns-clause-octets c = octets_same _ _ (same_listed _ _ refl)
