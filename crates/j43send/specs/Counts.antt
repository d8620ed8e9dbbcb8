-- The counts over all pairs, and the line that tells them.
use Rattle.std.specs.Prelude.{ℕ, ◌+◌, ◌≤◌, List, ◌++◌, Some, None, codes, decimal, Option}
use Rattle.words.specs.declared.faults.Refusal.{Refusal}
use Rattle.circuit.specs.declared.sender.Sent.{Sent}
use Rattle.circuit.specs.declared.sender.Sent.TheVariants.{Held, Written}
use Rattle.telling.specs.declared.outcome.Outcome.{Outcome}
use Rattle.j43send.specs.declared.counts.Counts.{Counts}

abbrev pub fresh : Counts
fresh = record { pairs = 0; frames = 0; refused = 0 }

-- 1 for a frame written, and for a refusal.
abbrev pub frames_in : Sent → ℕ
frames_in Held = 0
frames_in Written = 1

abbrev pub refusals_in : Option Refusal → ℕ
refusals_in None = 0
refusals_in (Some refusal) = 1

-- One pair more.
abbrev pub noted : Counts → Outcome Sent → Counts
noted c o = record { pairs = c.pairs + 1; frames = c.frames + frames_in o.done; refused = c.refused + refusals_in o.refused }

-- No count is more than the pairs allow.
abbrev pub Within : Counts → Type 0
Within c = (c.frames ≤ c.pairs) × (c.refused ≤ c.pairs)

abbrev pub line : Counts → List ℕ
line c = codes "pairs " ++ (decimal c.pairs ++ (codes " frames " ++ (decimal c.frames ++ (codes " refused " ++ decimal c.refused))))
