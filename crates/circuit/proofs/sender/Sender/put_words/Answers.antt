use Rattle.std.proofs.Common.{◌≡◌, map, length, sym, ap, ◌∙◌}
use Rattle.std.proofs.lemmas.Bool.{cond-true, eq-eqb}
use Rattle.words.specs.Answers.{gives}
use Rattle.words.specs.Lists.{first_refused}
use Rattle.words.specs.Meaning.{middle}
use Rattle.circuit.specs.Putting.{Put, source_of, measuring, unless_refused, valued, putting_words}
use Rattle.circuit.proofs.Measured.{measured, let_through}
use Rattle.circuit.proofs.sender.Sender.put_words.Goals as goal

pub put_values-requires : goal.put_values-requires
put_values-requires g c = (measured (length c.args.words.now) (length c.args.frame.now) _ c.in_ok-measure.ensures).0

pub returns : goal.returns
returns g c =
    let m = g.L.WordLaw.meaning c.args.law.now in
    let s = source_of c.args.self.now in
    let frame = c.args.frame.now in
    let words = c.args.words.now in
    let values = map (middle m) words in
    let count = (measured (length words) (length frame) _ c.in_ok-measure.ensures).1 in
    let read : gives c.in_ok-expand.field-0 ≡ first_refused m.refusal 0 words = c.in_ok-expand.ensures.answer ∙ cond-true _ _ _ (eq-eqb 64 (length words) (sym count)) in
    let through = let_through s frame (first_refused m.refusal 0 words) _ (valued s frame values) read in
    let same : valued s frame c.expand.new.values ≡ putting_words s frame m words =
    ap (valued s frame) c.in_ok-expand.ensures.buffer ∙ through
    ∙ let_through s frame (measuring (length words) (length frame)) _ (unless_refused s frame (first_refused m.refusal 0 words) (valued s frame values)) c.in_ok-measure.ensures in
    record {
      state = c.put_values.ensures.state ∙ ap (λ (p : Put). p.source) same;
      buffer = c.put_values.ensures.buffer ∙ ap (λ (p : Put). p.frame) same;
      answer = c.put_values.ensures.answer ∙ ap (λ (p : Put). p.answer) same;
    }
