-- A loss is never refused.
use Rattle.std.proofs.Common.{◌≡◌, ℕ, List, length, None, ap}
use Rattle.std.proofs.lemmas.Bool.{cond-true, eq-eqb}
use Rattle.words.specs.Answers.{Answer}
use Rattle.words.specs.Meaning.{Meaning}
use Rattle.circuit.specs.Taking.{Sink, unless_refused, arriving, losing}

pub loss_arrives : (outlet : Meaning) (s : Sink) (words : List ℕ) → length words ≡ 64 → losing outlet s words ≡ arriving outlet s words None
loss_arrives outlet s words h =
    ap (λ (a : Answer (Unit {0})). unless_refused outlet s words a (arriving outlet s words None)) (cond-true _ _ _ (eq-eqb (length words) 64 h))
