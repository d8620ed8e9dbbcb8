use Rattle.std.proofs.Common.{◌≡◌, ◌+◌, List, ◌∷◌, Bool, true, false, cond, not, sym, refl, ◌∙◌, rules}
use Rattle.std.specs.List.{count_by}
use Rattle.std.proofs.lemmas.List.Recursion.{is_count_by}
use Rattle.fidelity.specs.Kept.{unmarked}
use Rattle.j43receive.proofs.counts.unsound.Goals as goal

first : (mark : Bool) (marks : List Bool) → unmarked (mark ∷ marks) ≡ cond (not mark) (1 + unmarked marks) (unmarked marks)
first true marks = refl
first false marks = refl

pub returns-clause-value : goal.returns-clause-value
returns-clause-value c =
    let count : c.count.result ≡ count_by not c.args.marks.now = search rules in
    count ∙ sym (is_count_by unmarked not refl first c.args.marks.now)
