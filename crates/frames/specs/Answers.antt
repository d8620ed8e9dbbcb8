-- What writing and reading a frame answer, and what the buffer then holds.
use Rattle.std.specs.Prelude.{◌≡◌, ℕ, ◌<◌, Bool, true, false, cond, List, length, Result, ◌==◌}
use Rattle.std.specs.List.{list_all}
use Rattle.words.specs.declared.faults.Layer.TheVariants.{Frame}
use Rattle.words.specs.Answers.{Answer, gives, refuses, answered}
use Rattle.frames.specs.declared.faults.FrameFault.{FrameFault}
use Rattle.frames.specs.Faults.{refusal_of}
use Rattle.frames.specs.Places.{Holds, sample_bit, range_bit, check_bit, service_bit, spare_bit, lies_at}
use Rattle.frames.specs.Frame.{Pair, octets_of, bit_at, heard}
use Rattle.frames.specs.Content.{Listed, listed}

-- A result by what it says to its user, a value by what is shown of it.
abbrev pub answer : {X Y : Type 0} → (X → Y) → Result X FrameFault → Answer Y
answer shown r = answered refusal_of shown r

-- Writing a frame: refused by 5 exactly for a buffer of another length, which then stays as it was.
abbrev pub writing : List ℕ → Answer (Unit {0})
writing buffer = cond (length buffer == 80) (gives tt) (refuses 5 (length buffer) Frame)

abbrev pub written : Pair → List ℕ → List ℕ
written p buffer = cond (length buffer == 80) (octets_of p) buffer

-- All bits are 1.
abbrev pub all_ones : List ℕ → Bool
all_ones octets = list_all (λ octet. octet == 255) octets

-- Reading a frame: refused by 3 for another length, then by 4 where all bits are 1; any other octets carry what lies in them.
abbrev pub reading : List ℕ → Answer Listed
reading octets = cond (length octets == 80) (cond (all_ones octets) (refuses 4 0 Frame) (gives (listed (heard octets)))) (refuses 3 (length octets) Frame)

-- The bits that reading ignores.
abbrev pub ignored : Holds → Bool
ignored (sample_bit earlier block n b) = false
ignored (range_bit k) = false
ignored (check_bit block k) = false
ignored (service_bit k) = true
ignored (spare_bit l) = true

-- Octets that agree in all other bits.
abbrev pub Alike : List ℕ → List ℕ → Type 0
Alike octets others = (i : ℕ) → i < 640 → ignored (lies_at i) ≡ false → bit_at octets i ≡ bit_at others i
