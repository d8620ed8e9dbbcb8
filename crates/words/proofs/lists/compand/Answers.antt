use Rattle.std.proofs.Common.{length, sym, ◌∙◌, arith, rules}
use Rattle.std.proofs.lemmas.Bool.{cond-true, eq-eqb}
use Rattle.words.specs.Lists.{unmade}
use Rattle.words.proofs.lists.compand.Goals as goal

pub returns-clause-answer : goal.returns-clause-answer
returns-clause-answer g c =
    let m = g.L.WordLaw.meaning c.args.law.now in
    c.convert.ensures.answer (unmade m) m.word (λ v r h. search rules)
    ∙ sym (cond-true _ _ _ (eq-eqb (length c.args.words.now) (length c.args.values.now) (omega arith)))

pub returns-clause-buffer : goal.returns-clause-buffer
returns-clause-buffer g c =
    let m = g.L.WordLaw.meaning c.args.law.now in
    c.convert.ensures.buffer (unmade m) m.word (λ v r h. search rules)
