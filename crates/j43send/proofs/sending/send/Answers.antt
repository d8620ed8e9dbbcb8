use Rattle.std.proofs.Common.{◌≡◌, ℕ, List, ap, ◌∙◌}
use Rattle.circuit.specs.Putting.{Source, Put, source_of, accepting, putting}
use Rattle.telling.specs.Told.{refused_by}
use Rattle.j43send.specs.Sending.{sending, samples_in, silent}
use Rattle.telling.proofs.Refusals.{brought}
use Rattle.j43send.proofs.Sends.{kept, replaced, untouched}
use Rattle.j43send.proofs.sending.send.Goals as goal

pub returns-in-Ok : goal.returns-in-Ok
returns-in-Ok c =
    let s = source_of c.args.sender.now in
    let frame = c.args.frame.now in
    let samples = c.read_pair-samples.result in
    let put = c.in-Ok.ensures in
    let same : putting s frame samples ≡ sending s frame (samples_in c.args.octets.now) =
    kept (putting s frame samples) (accepting s frame s.held silent) c.in-Ok.done put.answer
    ∙ ap (sending s frame) c.read_pair-samples.ensures in
    record {
      state = put.state ∙ ap (λ (p : Put). p.source) same;
      buffer = put.buffer ∙ ap (λ (p : Put). p.frame) same;
      answer = put.answer ∙ ap (λ (p : Put). p.answer) same;
      refused = ap refused_by put.answer ∙ ap (λ xs. refused_by (putting s frame xs).answer) c.read_pair-samples.ensures;
    }

pub returns-in-Err : goal.returns-in-Err
returns-in-Err c =
    let s = source_of c.args.sender.now in
    let frame = c.args.frame.now in
    let samples = c.read_pair-samples.result in
    let put = c.in-Err.ensures in
    let quiet : Source → List ℕ → Put = λ t f. accepting t f t.held silent in
    let left = untouched s frame samples _ _ _ put.answer in
    let same : quiet (source_of c.put.new.self) c.put.new.frame ≡ sending s frame (samples_in c.args.octets.now) =
    ap (λ t. quiet t c.put.new.frame) (put.state ∙ left.0)
    ∙ ap (quiet s) (put.buffer ∙ left.1)
    ∙ replaced (putting s frame samples) (quiet s frame) _ _ _ put.answer
    ∙ ap (sending s frame) c.read_pair-samples.ensures in
    record {
      state = c.put_silence.ensures.state ∙ ap (λ (p : Put). p.source) same;
      buffer = c.put_silence.ensures.buffer ∙ ap (λ (p : Put). p.frame) same;
      answer = c.put_silence.ensures.answer ∙ ap (λ (p : Put). p.answer) same;
      refused =
          brought c.from.result _ (putting s frame samples).answer c.from.ensures put.answer
          ∙ ap (λ xs. refused_by (putting s frame xs).answer) c.read_pair-samples.ensures;
    }
