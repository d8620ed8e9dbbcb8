-- A pair fault by its number, its place and its layer; a fault of a lower layer has its own.
use Rattle.std.specs.Prelude.{ℕ, Result}
use Rattle.words.specs.declared.faults.Layer.{Layer}
use Rattle.words.specs.declared.faults.Refusal.{Refusal}
use Rattle.words.specs.declared.faults.Layer.TheVariants.{Pair}
use Rattle.words.specs.Faults as word
use Rattle.words.specs.Answers.{Answer, answered}
use Rattle.frames.specs.Faults as frame
use Rattle.circuit.specs.declared.faults.PairFault.{PairFault}
use Rattle.circuit.specs.declared.faults.PairFault.TheVariants.{Count, Outside, Room, Word, Frame}

abbrev pub number_of : PairFault → ℕ
number_of (Count n) = 1
number_of (Outside i) = 2
number_of (Room n) = 6
number_of (Word e) = word.number_of e
number_of (Frame e) = frame.number_of e

abbrev pub place_of : PairFault → ℕ
place_of (Count n) = n
place_of (Outside i) = i
place_of (Room n) = n
place_of (Word e) = word.place_of e
place_of (Frame e) = frame.place_of e

abbrev pub layer_of : PairFault → Layer
layer_of (Count n) = Pair
layer_of (Outside i) = Pair
layer_of (Room n) = Pair
layer_of (Word e) = word.layer_of e
layer_of (Frame e) = frame.layer_of e

-- What the user is told of it.
abbrev pub refusal_of : PairFault → Refusal
refusal_of e = record { number = number_of e; place = place_of e; layer = layer_of e }

-- A result by what it says to its user.
abbrev pub answer : {X : Type 0} → Result X PairFault → Answer X
answer r = answered refusal_of (λ x. x) r
