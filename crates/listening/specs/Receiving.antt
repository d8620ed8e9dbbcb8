-- What is made of a frame as it came: it is taken, or counted as lost where it is refused.
use Rattle.std.specs.Prelude.{ℕ, List, None, Option}
use Rattle.words.specs.Answers.{Answer, gives, refuses}
use Rattle.words.specs.Linear.{linear}
use Rattle.reception.specs.Given.{Told}
use Rattle.circuit.specs.Taking.{Sink, Took, arriving, taking}

abbrev pub or_else : Answer (Option Told) → Took → Took → Took
or_else (gives x) took lost = took
or_else (refuses n p l) took lost = lost

abbrev pub receiving : Sink → List ℕ → List ℕ → Took
receiving s words octets = or_else (taking linear s words octets).answer (taking linear s words octets) (arriving linear s words None)
