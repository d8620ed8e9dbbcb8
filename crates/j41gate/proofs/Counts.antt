-- The counts of a tally stay within what the pairs allow.
use Rattle.std.proofs.Common.{◌≡◌, ℕ, ◌+◌, ◌*◌, ◌≤◌, Ok, Err, Result, sym, subst, arith}
use Rattle.words.specs.declared.faults.WordFault.{WordFault}
use Rattle.j41gate.specs.declared.tally.Tally.{Tally}
use Rattle.j41gate.specs.Tally.{noted}

-- after n pairs
abbrev pub Counted : Tally → ℕ → Type 0
Counted t n = (t.pairs ≡ n) × (t.words ≤ 64 * n) × (t.refused ≤ n)

counted_more : (t : Tally) (r : Result ℕ WordFault) (n : ℕ) → Counted t n → Counted (noted t r) (n + 1)
counted_more t (Ok d) n c = (omega arith, omega arith, omega arith)
counted_more t (Err e) n c = (omega arith, omega arith, omega arith)

pub counted_after : (t u : Tally) (r : Result ℕ WordFault) (n : ℕ) → Counted t n → u ≡ noted t r → Counted u (n + 1)
counted_after t u r n c e = subst (λ x. Counted x (n + 1)) (sym e) (counted_more t r n c)
