-- Silence is never refused.
use Rattle.std.proofs.Common.{◌≡◌, ℕ, List, length, ap}
use Rattle.std.proofs.lemmas.Bool.{cond-true, eq-eqb}
use Rattle.words.specs.Answers.{Answer}
use Rattle.circuit.specs.Putting.{Source, unless_refused, accepting, putting}
use Rattle.j43send.specs.Sending.{silent}

pub silence_put : (s : Source) (frame : List ℕ) → length frame ≡ 80 → putting s frame silent ≡ accepting s frame s.held silent
silence_put s frame h =
    ap (λ (a : Answer (Unit {0})). unless_refused s frame a (accepting s frame s.held silent)) (cond-true _ _ _ (eq-eqb (length frame) 80 h))
