use Rattle.std.proofs.Common.{◌≡◌, length, Some, Option, sym, ap, ◌∙◌}
use Rattle.std.proofs.lemmas.Bool.{cond-true, eq-eqb}
use Rattle.frames.specs.Frame.{Pair, frame_of}
use Rattle.frames.specs.Content.{listed, coded}
use Rattle.pairs.specs.declared.pair.Pair.{Pair as Samples}
use Rattle.pairs.specs.Sending.{sent_pair}
use Rattle.circuit.specs.Putting.{Put, accepting, samples_of, source_of}
use Rattle.circuit.proofs.Weaving.{frame_from_lists}
use Rattle.circuit.proofs.sender.Sender.accept.Goals as goal

pub returns-in-Some : goal.returns-in-Some
returns-in-Some c =
    let s = c.args.self.now in
    let frame = c.args.frame.now in
    let held = c.in-Some.held.samples in
    let pair = c.args.pair.samples in
    let own : coded c.code-own.result ≡ sent_pair held pair = c.code-own.ensures in
    let at : accepting (source_of s) frame (samples_of s.held) pair ≡ accepting (source_of s) frame (Some held) pair = ap (λ (h : Option Samples). accepting (source_of s) frame (samples_of h) pair) c.in-Some.is in
    record {
      state = ap (λ (p : Pair). record { held = Some pair; one = listed p; two = listed (coded s.one) }) own ∙ sym (ap (λ (p : Put). p.source) at);
      buffer = c.write.ensures.buffer ∙ cond-true _ _ _ (eq-eqb (length frame) 80 c.requires) ∙ c.woven.ensures.octets
          ∙ ap (λ (p : Pair). frame_of p (coded s.one) (coded s.two)) own ∙ frame_from_lists (sent_pair held pair) (coded s.one) (coded s.two) ∙ sym (ap (λ (p : Put). p.frame) at);
      answer = sym (ap (λ (p : Put). p.answer) at);
    }
