use Rattle.circuit.proofs.Frames.{frames_are_the_standards}
use Rattle.circuit.proofs.promises.frames_are_the_standards.Goals as goal

pub returns : goal.returns
returns c = frames_are_the_standards
