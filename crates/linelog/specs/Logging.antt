-- What logging a pair answers, and what the buffer then holds.
use Rattle.std.specs.Prelude.{ℕ, ◌-◌, cond, List, ◌++◌, length, replicate, ◌==◌, nat_lt}
use Rattle.words.specs.declared.faults.Layer.TheVariants.{Log}
use Rattle.words.specs.Answers.{Answer, gives, refuses}
use Rattle.reception.specs.Given.{Told}
use Rattle.linelog.specs.Lines.{lines}

-- The highest numbers that a log tells.
abbrev pub highest_circuit : ℕ
highest_circuit = 255

abbrev pub highest_pair : ℕ
highest_pair = 999999

-- The buffer is measured first, then the circuit, then the pair.
abbrev pub checking : ℕ → ℕ → ℕ → Answer (Unit {0})
checking circuit pair room =
    cond (room == 96) (cond (nat_lt highest_circuit circuit) (refuses 10 0 Log) (cond (nat_lt highest_pair pair) (refuses 10 1 Log) (gives tt))) (refuses 6 room Log)

-- What a log answers, and leaves in the buffer.
pub record Logged : Type 0 where
  pub answer : Answer ℕ
  pub buffer : List ℕ

-- The lines, then zeros to the end of 96 octets.
abbrev pub filled : List ℕ → Logged
filled text = record { answer = gives (length text); buffer = text ++ replicate (96 - length text) 0 }

-- What is refused writes nothing.
abbrev pub unless_refused : Answer (Unit {0}) → List ℕ → List ℕ → Logged
unless_refused (gives x) text buffer = filled text
unless_refused (refuses n p l) text buffer = record { answer = refuses n p l; buffer = buffer }

abbrev pub logging : ℕ → ℕ → Told → List ℕ → Logged
logging circuit pair told buffer = unless_refused (checking circuit pair (length buffer)) (lines circuit pair told) buffer
