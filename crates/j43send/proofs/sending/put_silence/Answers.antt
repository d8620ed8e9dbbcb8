use Rattle.std.proofs.Common.{sym, ap, ◌∙◌}
use Rattle.circuit.specs.Faults.{answer}
use Rattle.circuit.specs.Putting.{Put, source_of}
use Rattle.j43send.proofs.Silence.{silence_put}
use Rattle.j43send.proofs.sending.put_silence.Goals as goal

pub returns : goal.returns
returns c =
    let same = silence_put (source_of c.args.sender.now) c.args.frame.now c.told-frame in
    record {
      state = c.put.ensures.state ∙ ap (λ (p : Put). p.source) same;
      buffer = c.put.ensures.buffer ∙ ap (λ (p : Put). p.frame) same;
      answer = sym (ap answer c.unwrap.ensures) ∙ c.put.ensures.answer ∙ ap (λ (p : Put). p.answer) same;
    }
