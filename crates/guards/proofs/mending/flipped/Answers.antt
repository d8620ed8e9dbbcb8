use Rattle.std.proofs.Common.{◌≡◌, ℕ, ◌-◌, cond, eqb, sym, refl, ap, ◌∙◌, subst, ⊎_elim, arith}
use lib.Bits.{bit_xor}
use Rattle.std.proofs.lemmas.Nat.{one_shl}
use Rattle.guards.specs.Codes.{alone}
use Rattle.guards.specs.Located.{outcome}
use Rattle.guards.specs.declared.locator.Found.TheVariants.{Clean, Nowhere}
use Rattle.guards.specs.Mended.{mended, range_found}
use Rattle.guards.proofs.mending.flipped.Goals as goal

-- by what was found
by_found : (word r : ℕ) (found : ℕ × ℕ) → found ≡ range_found word → r ≡ cond (eqb found.0 1) (bit_xor word (alone 12 found.1)) word → r ≡ mended word
unfolding mended
by_found word r found e h = subst (λ (f : ℕ × ℕ). r ≡ cond (eqb f.0 1) (bit_xor word (alone 12 f.1)) word) e h

pub returns-in-At : goal.returns-in-At
returns-in-At c =
    by_found c.args.word _ (1, c.in-At.k) (ap outcome (sym c.in-At.is) ∙ c.requires.answer)
    (ap (bit_xor c.args.word) (one_shl (c.positions.result - c.in-At.k) 16 (omega arith) ∙ ap (λ (n : ℕ). alone n c.in-At.k) c.positions.ensures))

pub returns-in-Clean : goal.returns-in-Clean
returns-in-Clean c =
    ⊎_elim
    (λ (e : c.args.found ≡ Clean). by_found c.args.word c.args.word (0, 0) (ap outcome (sym e) ∙ c.requires.answer) refl)
    (λ (e : c.args.found ≡ Nowhere). by_found c.args.word c.args.word (2, 0) (ap outcome (sym e) ∙ c.requires.answer) refl)
    c.in-Clean.is
