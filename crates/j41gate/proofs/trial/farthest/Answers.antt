use Rattle.std.proofs.Common.{◌≡◌, max, List, [], ◌∷◌, ℤ, fold, sym, refl, ap, ◌∙◌, ⊎_elim}
use Rattle.std.specs.Slice.Iter.{iter_rest}
use Rattle.std.specs.Iterator.Adapters.{zip_first, zip_second}
use Rattle.std.proofs.lemmas.List.{nil_from_length}
use Rattle.j41gate.specs.Trial.{distances}
use Rattle.j41gate.proofs.trial.farthest.Goals as goal

from_none : (vs : List ℤ) → distances vs [] ≡ []
from_none [] = refl
from_none (v ∷ vs) = refl

pub returns : goal.returns
returns c =
    let vs = iter_rest (zip_first c.loop-value.value-iterator) in
    let ws = iter_rest (zip_second c.loop-value.value-iterator) in
    let nothing : distances vs ws ≡ [] =
    ⊎_elim
    (λ a. ap (λ l. distances l ws) (nil_from_length vs a.1.0))
    (λ b. ap (distances vs) (nil_from_length ws b.1.0) ∙ from_none vs)
    c.in-None.ensures.steps in
    ap (fold max c.loop-value.most) (sym nothing) ∙ c.loop-value.invariant
