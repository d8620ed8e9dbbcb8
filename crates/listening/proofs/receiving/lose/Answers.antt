use Rattle.std.proofs.Common.{sym, ap, ◌∙◌}
use Rattle.circuit.specs.Faults.{answer}
use Rattle.words.specs.Linear.{linear}
use Rattle.circuit.specs.Taking.{Took, outcome, sink_of}
use Rattle.listening.proofs.Lost.{loss_arrives}
use Rattle.listening.proofs.receiving.lose.Goals as goal

pub returns : goal.returns
returns c =
    let same = loss_arrives linear (sink_of c.args.receiver.now) c.args.words.now c.told-words in
    record {
      state = c.lose.ensures.state ∙ ap (λ (t : Took). t.sink) same;
      buffer = c.lose.ensures.buffer ∙ ap (λ (t : Took). t.words) same;
      answer = sym (ap (λ r. outcome (answer r)) c.unwrap.ensures) ∙ c.lose.ensures.answer ∙ ap (λ (t : Took). t.answer) same;
    }
