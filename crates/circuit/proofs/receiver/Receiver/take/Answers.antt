use Rattle.std.proofs.Common.{◌≡◌, length, Some, ap, ◌∙◌}
use Rattle.frames.specs.Answers.{reading}
use Rattle.circuit.specs.Taking.{Took, sink_of, measuring, arriving, by_reading, taking}
use Rattle.circuit.proofs.Answering.{measured, let_through}
use Rattle.circuit.proofs.receiver.Receiver.take.Goals as goal

pub arrive-requires : goal.arrive-requires
arrive-requires g c = measured (length c.args.words.now) _ c.in_ok-measure.ensures

pub returns : goal.returns
returns g c =
    let o = g.O.WordLaw.meaning c.args.self.now.outlet in
    let s = sink_of c.args.self.now in
    let words = c.args.words.now in
    let octets = c.args.octets.now in
    let came = c.in_ok-arrived.ensures.carried in
    let same : arriving o s words (Some octets) ≡ taking o s words octets =
    ap (by_reading o s words octets) c.in_ok-arrived.ensures.answer
    ∙ let_through o s words (measuring (length words)) _ (by_reading o s words octets (reading octets)) c.in_ok-measure.ensures in
    record {
      state = c.arrive.ensures.state (Some octets) came ∙ ap (λ (t : Took). t.sink) same;
      buffer = c.arrive.ensures.buffer (Some octets) came ∙ ap (λ (t : Took). t.words) same;
      answer = c.arrive.ensures.answer (Some octets) came ∙ ap (λ (t : Took). t.answer) same;
      outlet = c.arrive.ensures.outlet;
    }
