use Rattle.std.proofs.Common.{ℕ, get_or, ℤ, pos, sym, refl, ◌∙◌, rules, w16}
use Rattle.std.proofs.lemmas.Int.{to_z-of_z}
use Rattle.std.proofs.lemmas.List.FromFn.{fill_by_all}
use Rattle.words.proofs.Made.{made}
use Rattle.j41gate.proofs.gate.narrow.Goals as goal

pub returns : goal.returns
returns c =
    let xs = c.args.values.now in
    let at : ℕ → ℤ = λ k. get_or xs k (pos 0) in
    made _ _ at 64 (pos 0) (λ i y q k h. search (rules, to_z-of_z w16 (get_or xs i (pos 0)) (c.requires i k))) c.from_fn.result c.from_fn.ensures.items
    ∙ sym (fill_by_all at xs 64 (pos 0) (search rules) (λ k h. refl))
