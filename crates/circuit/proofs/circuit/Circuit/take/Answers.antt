use Rattle.std.proofs.Common.{Some, refl}
use Rattle.circuit.specs.Faults.{answer}
use Rattle.circuit.specs.Taking.{sink_of, outcome}
use Rattle.circuit.specs.History.{takes}
use Rattle.circuit.proofs.Last.{gives_next}
use Rattle.circuit.proofs.circuit.Circuit.take.Goals as goal

pub returns : goal.returns
returns g c =
    let o = g.O.WordLaw.meaning c.args.self.now.receiver.outlet in
    let s = sink_of c.args.self.now.receiver in
    let octets = c.args.octets.now in
    let words = c.args.words.now in
    record {
      state = c.take.ensures.state;
      buffer = c.take.ensures.buffer;
      answer = c.take.ensures.answer;
      sender = refl;
      outlet = c.take.ensures.outlet;
      next = gives_next o s (takes octets words) (Some octets) (outcome (answer c.take.result)) c.take.new.words
          (let answered = c.take.ensures.answer in let written = c.take.ensures.buffer in cc);
    }
