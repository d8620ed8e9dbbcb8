use Rattle.std.proofs.Common.{ℕ, get_or, ℤ, pos, sym, refl, ◌∙◌, rules}
use Rattle.std.proofs.lemmas.List.FromFn.{fill_by_all}
use Rattle.words.proofs.Made.{made}
use Rattle.j41gate.proofs.gate.widen.Goals as goal

pub returns : goal.returns
returns c =
    let xs = c.args.samples.now in
    let at : ℕ → ℤ = λ k. get_or xs k (pos 0) in
    made _ _ at 64 (pos 0) (λ i y q k h. search rules) c.from_fn.result c.from_fn.ensures.items
    ∙ sym (fill_by_all at xs 64 (pos 0) (search rules) (λ k h. refl))
