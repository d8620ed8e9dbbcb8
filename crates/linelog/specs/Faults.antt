-- A log fault by its number, its place and its layer.
use Rattle.std.specs.Prelude.{ℕ, Result}
use Rattle.words.specs.declared.faults.Layer.{Layer}
use Rattle.words.specs.declared.faults.Refusal.{Refusal}
use Rattle.words.specs.declared.faults.Layer.TheVariants.{Log}
use Rattle.words.specs.Answers.{Answer, answered}
use Rattle.linelog.specs.declared.faults.LogFault.{LogFault}
use Rattle.linelog.specs.declared.faults.LogFault.TheVariants.{Room, Circuit, Pair}

abbrev pub number_of : LogFault → ℕ
number_of (Room n) = 6
number_of Circuit = 10
number_of Pair = 10

-- The length of the buffer, or which of the two numbers is too high.
abbrev pub place_of : LogFault → ℕ
place_of (Room n) = n
place_of Circuit = 0
place_of Pair = 1

abbrev pub layer_of : LogFault → Layer
layer_of _ = Log

-- What the user is told of it.
abbrev pub refusal_of : LogFault → Refusal
refusal_of e = record { number = number_of e; place = place_of e; layer = layer_of e }

-- A result by what it says to its user.
abbrev pub answer : {X : Type 0} → Result X LogFault → Answer X
answer r = answered refusal_of (λ x. x) r
