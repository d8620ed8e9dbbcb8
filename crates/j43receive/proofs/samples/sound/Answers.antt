use Rattle.std.proofs.Common.{ℕ, get_or, map, ℤ, pos, sym, ap, refl, ◌∙◌, arith, rules}
use Rattle.std.proofs.lemmas.List.{length-map, get_or-map}
use Rattle.std.proofs.lemmas.List.FromFn.{fill_by_all}
use Rattle.words.proofs.Made.{made}
use Rattle.j43receive.specs.Samples.{sample_of, sample_octets}
use Rattle.j43receive.proofs.samples.sound.Goals as goal

pub returns : goal.returns
returns c =
    let xs = c.args.words.now in
    let at : ℕ → ℤ = λ k. sample_of (get_or xs k 0) in
    c.write_pair.ensures.answer
    ∙ ap sample_octets
    (made _ _ at 64 (pos 0) (λ i y q k h. search rules) c.from_fn.result c.from_fn.ensures.items
    ∙ sym (fill_by_all at (map sample_of xs) 64 (pos 0) (length-map xs sample_of ∙ c.told-words) (λ k h. get_or-map sample_of xs k 0 (pos 0) (omega (arith, h, c.told-words)))))
