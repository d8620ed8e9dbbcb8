use Rattle.std.proofs.Common.{length, sym, ◌∙◌, arith, rules}
use Rattle.std.proofs.lemmas.Bool.{cond-true, eq-eqb}
use Rattle.words.specs.Meaning.{middle}
use Rattle.words.proofs.lists.expand.Goals as goal

pub returns-clause-answer : goal.returns-clause-answer
returns-clause-answer g c =
    let m = g.L.WordLaw.meaning c.args.law.now in
    c.convert.ensures.answer m.refusal (middle m) (λ w r h. search rules)
    ∙ sym (cond-true _ _ _ (eq-eqb (length c.args.values.now) (length c.args.words.now) (omega arith)))

pub returns-clause-buffer : goal.returns-clause-buffer
returns-clause-buffer g c =
    let m = g.L.WordLaw.meaning c.args.law.now in
    c.convert.ensures.buffer m.refusal (middle m) (λ w r h. search rules)
