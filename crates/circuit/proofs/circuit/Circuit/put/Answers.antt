use Rattle.std.proofs.Common.{refl}
use Rattle.circuit.specs.Faults.{answer}
use Rattle.circuit.specs.Putting.{source_of}
use Rattle.circuit.specs.History.{puts}
use Rattle.circuit.proofs.Last.{writes_next}
use Rattle.circuit.proofs.circuit.Circuit.put.Goals as goal

pub returns : goal.returns
returns g c =
    let s = source_of c.args.self.now.sender in
    let frame = c.args.frame.now in
    let samples = c.args.samples.now in
    record {
      state = c.put.ensures.state;
      buffer = c.put.ensures.buffer;
      answer = c.put.ensures.answer;
      receiver = refl;
      next = writes_next s (puts samples frame) samples (answer c.put.result) c.put.new.frame
          (let answered = c.put.ensures.answer in let written = c.put.ensures.buffer in cc);
    }
