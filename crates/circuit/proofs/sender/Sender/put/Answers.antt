use Rattle.std.proofs.Common.{◌≡◌, length, ap, ◌∙◌}
use Rattle.circuit.specs.Putting.{Put, source_of, measuring, valued, putting}
use Rattle.circuit.proofs.Measured.{measured, let_through}
use Rattle.circuit.proofs.sender.Sender.put.Goals as goal

pub widen-requires : goal.widen-requires
widen-requires c = (measured (length c.args.samples.now) (length c.args.frame.now) _ c.in_ok-measure.ensures).1

pub put_values-requires : goal.put_values-requires
put_values-requires c = (measured (length c.args.samples.now) (length c.args.frame.now) _ c.in_ok-measure.ensures).0

pub returns : goal.returns
returns c =
    let s = source_of c.args.self.now in
    let frame = c.args.frame.now in
    let samples = c.args.samples.now in
    let same : valued s frame c.widen.result ≡ putting s frame samples =
    ap (valued s frame) c.widen.ensures ∙ let_through s frame (measuring (length samples) (length frame)) _ (valued s frame samples) c.in_ok-measure.ensures in
    record {
      state = c.put_values.ensures.state ∙ ap (λ (p : Put). p.source) same;
      buffer = c.put_values.ensures.buffer ∙ ap (λ (p : Put). p.frame) same;
      answer = c.put_values.ensures.answer ∙ ap (λ (p : Put). p.answer) same;
    }
