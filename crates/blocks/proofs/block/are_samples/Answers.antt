use Rattle.std.proofs.Common.{ℕ, ◌^◌, ◌<◌, Bool, true, false, List, length, get_or, ℤ, pos, Decides, MatchBool, sym, refl, subst, ⊎_elim, arith, rules}
use lib.Signed.{mag}
use borrow.Author.Tests.{tests}
use Rattle.std.specs.List.{AllWithin, HoldsAt}
use Rattle.std.proofs.lemmas.Bool.{cases_lt}
use Rattle.std.proofs.lemmas.Iterator.{cases_from_all, YieldsList-from_slice}
use Rattle.std.proofs.lemmas.List.{get_or_past}
use Rattle.blocks.proofs.block.are_samples.Goals as goal

Small : ℤ → Type 0
Small v = mag v < 2 ^ 13

-- past the end of the values stands 0
decided : (r : Bool) (xs : List ℤ) → MatchBool r (AllWithin Small xs 0 (length xs)) ((k : ℕ) × (k < length xs) × HoldsAt (λ v. Small v → ⊥) xs k)
    → Decides r ((k : ℕ) → Small (get_or xs k (pos 0)))
unfolding Small
decided true xs all = (
  λ _ k. ⊎_elim
      (λ lt. all k (pos 0) (omega arith) lt)
      (λ past. subst Small (sym (get_or_past xs k (pos 0) past)) (omega arith))
      (cases_lt k (length xs)),
  λ _. refl,
)
decided false xs one = (λ e. absurd cc, λ all. absurd (one.2 (pos 0) (all one.0)))

pub returns : goal.returns
unfolding Small
returns c =
    decided c.all.result c.args.values.now
    (cases_from_all _ _ c.all.result Small (λ v. Small v → ⊥) c.all.ensures.ran (YieldsList-from_slice c.args.values.now cc) (λ x q k. search (rules, tests)) (λ x q k. search (rules, tests)))
