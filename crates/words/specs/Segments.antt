-- The codes of magnitudes under variant B: they are below 896, a magnitude lies in the cell of its code, and what lies there has that code.
use Rattle.std.specs.Prelude.{◌≡◌, ℕ, ◌+◌, ◌<◌, ◌≤◌}
use Rattle.std.proofs.Common.{arith}
use Rattle.std.proofs.lemmas.Bool.Decides.{nat_tests}
use Rattle.words.specs.VariantB.{code_of, first_of, step_of}

pub code_below : (a : ℕ) → a < 8192 → code_of a < 896
code_below a h = grind (arith, nat_tests)

pub code_in : (a : ℕ) → a < 8192 → (first_of (code_of a) ≤ a) × (a < first_of (code_of a) + step_of (code_of a))
code_in a h = (grind (arith, nat_tests), grind (arith, nat_tests))

pub code_back : (a c : ℕ) → c < 896 → first_of c ≤ a → a < first_of c + step_of c → code_of a ≡ c
code_back a c h l u = grind (arith, nat_tests)
