use Rattle.std.proofs.Common.{◌≡◌, length, None, ap, ◌∙◌}
use Rattle.circuit.specs.Taking.{Took, sink_of, measuring, arriving, losing}
use Rattle.circuit.proofs.Answering.{measured, let_through}
use Rattle.circuit.proofs.receiver.Receiver.lose.Goals as goal

pub arrive-requires : goal.arrive-requires
arrive-requires g c = measured (length c.args.words.now) _ c.in_ok-measure.ensures

pub returns : goal.returns
returns g c =
    let o = g.O.WordLaw.meaning c.args.self.now.outlet in
    let s = sink_of c.args.self.now in
    let words = c.args.words.now in
    let same : arriving o s words None ≡ losing o s words =
    let_through o s words (measuring (length words)) _ (arriving o s words None) c.in_ok-measure.ensures in
    record {
      state = c.arrive.ensures.state None c.lost.ensures ∙ ap (λ (t : Took). t.sink) same;
      buffer = c.arrive.ensures.buffer None c.lost.ensures ∙ ap (λ (t : Took). t.words) same;
      answer = c.arrive.ensures.answer None c.lost.ensures ∙ ap (λ (t : Took). t.answer) same;
      outlet = c.arrive.ensures.outlet;
    }
