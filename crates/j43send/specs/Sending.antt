-- What is sent for a pair of a raw file: the pair itself, or silence where it is refused.
use Rattle.std.specs.Prelude.{ℕ, List, map, replicate, ℤ, pos}
use Rattle.std.specs.Int.{w16, cast_signed}
use Rattle.raw.specs.Octets.{numbers_in}
use Rattle.words.specs.Answers.{Answer, gives, refuses}
use Rattle.circuit.specs.declared.sender.Sent.{Sent}
use Rattle.circuit.specs.Putting.{Source, Put, accepting, putting}

-- Samples are signed numbers of 16 bits.
abbrev pub samples_in : List ℕ → List ℤ
samples_in octets = map (cast_signed w16) (numbers_in octets)

abbrev pub silent : List ℤ
silent = replicate 64 (pos 0)

abbrev pub or_else : Answer Sent → Put → Put → Put
or_else (gives x) put silence = put
or_else (refuses n p l) put silence = silence

abbrev pub sending : Source → List ℕ → List ℤ → Put
sending s frame samples = or_else (putting s frame samples).answer (putting s frame samples) (accepting s frame s.held silent)
