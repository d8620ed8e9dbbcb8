use Rattle.std.proofs.Common.{◌≡◌, ℕ, List, None, ap, ◌∙◌}
use Rattle.words.specs.Linear.{linear}
use Rattle.circuit.specs.Taking.{Sink, Took, sink_of, outcome_of, arriving, taking}
use Rattle.telling.specs.Told.{refused_by}
use Rattle.listening.specs.Receiving.{receiving}
use Rattle.telling.proofs.Refusals.{brought}
use Rattle.listening.proofs.Receives.{kept, replaced, untouched}
use Rattle.listening.proofs.receiving.receive.Goals as goal

pub returns-in-Ok : goal.returns-in-Ok
returns-in-Ok c =
    let s = sink_of c.args.receiver.now in
    let words = c.args.words.now in
    let octets = c.args.octets.now in
    let took = c.in-Ok.ensures in
    let same : taking linear s words octets ≡ receiving s words octets =
    kept (taking linear s words octets) (arriving linear s words None) (outcome_of c.in-Ok.done) took.answer in
    record {
      state = took.state ∙ ap (λ (t : Took). t.sink) same;
      buffer = took.buffer ∙ ap (λ (t : Took). t.words) same;
      answer = took.answer ∙ ap (λ (t : Took). t.answer) same;
      refused = ap refused_by took.answer;
    }

pub returns-in-Err : goal.returns-in-Err
returns-in-Err c =
    let s = sink_of c.args.receiver.now in
    let words = c.args.words.now in
    let octets = c.args.octets.now in
    let took = c.in-Err.ensures in
    let loss : Sink → List ℕ → Took = λ t w. arriving linear t w None in
    let left = untouched linear s words octets _ _ _ took.answer in
    let same : loss (sink_of c.take.new.self) c.take.new.words ≡ receiving s words octets =
    ap (λ t. loss t c.take.new.words) (took.state ∙ left.0)
    ∙ ap (loss s) (took.buffer ∙ left.1)
    ∙ replaced (taking linear s words octets) (loss s words) _ _ _ took.answer in
    record {
      state = c.lose.ensures.state ∙ ap (λ (t : Took). t.sink) same;
      buffer = c.lose.ensures.buffer ∙ ap (λ (t : Took). t.words) same;
      answer = c.lose.ensures.answer ∙ ap (λ (t : Took). t.answer) same;
      refused =
          brought c.from.result _ (taking linear s words octets).answer c.from.ensures took.answer;
    }
