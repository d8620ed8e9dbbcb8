-- What the measuring of a put says, and the put behind it.
use Rattle.std.proofs.Common.{◌≡◌, ℕ, List, ap, arith}
use Rattle.std.proofs.lemmas.Bool.Decides.{nat_tests}
use Rattle.words.specs.Answers.{Answer, gives}
use Rattle.circuit.specs.Putting.{Source, Put, measuring, unless_refused}

pub measured : (count room : ℕ) (x : Unit {0}) → gives x ≡ measuring count room → (room ≡ 80) × (count ≡ 64)
measured count room x e = (grind (arith, nat_tests), grind (arith, nat_tests))

-- what was not refused is put
pub let_through : (s : Source) (frame : List ℕ) (a : Answer (Unit {0})) (x : Unit {0}) (put : Put) → gives x ≡ a → put ≡ unless_refused s frame a put
let_through s frame a x put e = ap (λ (b : Answer (Unit {0})). unless_refused s frame b put) e
