use Rattle.std.proofs.Common.{map, refl}
use Rattle.words.specs.Meaning.{middle}
use Rattle.circuit.specs.Faults.{answer}
use Rattle.circuit.specs.Putting.{source_of}
use Rattle.circuit.specs.History.{puts_words}
use Rattle.circuit.proofs.Last.{writes_next}
use Rattle.circuit.proofs.circuit.Circuit.put_words.Goals as goal

pub returns : goal.returns
returns g c =
    let s = source_of c.args.self.now.sender in
    let frame = c.args.frame.now in
    let words = c.args.words.now in
    let law = g.L.WordLaw.meaning c.args.law.now in
    let pair = map (middle law) words in
    record {
      state = c.put_words.ensures.state;
      buffer = c.put_words.ensures.buffer;
      answer = c.put_words.ensures.answer;
      receiver = refl;
      next = writes_next s (puts_words law words frame) pair (answer c.put_words.result) c.put_words.new.frame
          (let answered = c.put_words.ensures.answer in let written = c.put_words.ensures.buffer in cc);
    }
