use Rattle.std.proofs.Common.{None, refl}
use Rattle.circuit.specs.Faults.{answer}
use Rattle.circuit.specs.Taking.{sink_of, outcome}
use Rattle.circuit.specs.History.{loses}
use Rattle.circuit.proofs.Last.{gives_next}
use Rattle.circuit.proofs.circuit.Circuit.lose.Goals as goal

pub returns : goal.returns
returns g c =
    let o = g.O.WordLaw.meaning c.args.self.now.receiver.outlet in
    let s = sink_of c.args.self.now.receiver in
    let words = c.args.words.now in
    record {
      state = c.lose.ensures.state;
      buffer = c.lose.ensures.buffer;
      answer = c.lose.ensures.answer;
      sender = refl;
      outlet = c.lose.ensures.outlet;
      next = gives_next o s (loses words) None (outcome (answer c.lose.result)) c.lose.new.words
          (let answered = c.lose.ensures.answer in let written = c.lose.ensures.buffer in cc);
    }
