-- The counts over all frames, and the line that tells them.
use Rattle.std.specs.Prelude.{ℕ, ◌+◌, ◌*◌, ◌≤◌, cond, List, ◌++◌, Some, None, codes, decimal, Option}
use Rattle.words.specs.declared.faults.Refusal.{Refusal}
use Rattle.decoder.specs.Findings.{Finding, mutes, finding}
use Rattle.fidelity.specs.Kept.{unmarked}
use Rattle.reception.specs.declared.report.Report.{Report}
use Rattle.telling.specs.declared.outcome.Outcome.{Outcome}
use Rattle.j43receive.specs.declared.counts.Counts.{Counts}

abbrev pub fresh : Counts
fresh = record { frames = 0; lost = 0; pairs = 0; muted = 0; unsound = 0 }

-- 1 for a refused frame, for a pair given, and for a muted block.
abbrev pub refusals : Option Refusal → ℕ
refusals None = 0
refusals (Some r) = 1

abbrev pub given : Option Report → ℕ
given None = 0
given (Some report) = 1

abbrev pub silenced : Finding → ℕ
silenced found = cond (mutes found) 1 0

-- The muted blocks of a pair, and its samples without a mark.
abbrev pub muted_in : Option Report → ℕ
muted_in None = 0
muted_in (Some report) = silenced (finding report.first.verdict) + silenced (finding report.second.verdict)

abbrev pub unsound_in : Option Report → ℕ
unsound_in None = 0
unsound_in (Some report) = unmarked report.first.marks + unmarked report.second.marks

-- One frame more.
abbrev pub noted : Counts → Outcome (Option Report) → Counts
noted c o = record {
  frames = c.frames + 1;
  lost = c.lost + refusals o.refused;
  pairs = c.pairs + given o.done;
  muted = c.muted + muted_in o.done;
  unsound = c.unsound + unsound_in o.done;
}

-- No count is more than the frames allow.
abbrev pub Within : Counts → Type 0
Within c = (c.lost ≤ c.frames) × (c.pairs ≤ c.frames) × (c.muted ≤ 2 * c.frames) × (c.unsound ≤ 64 * c.frames)

abbrev pub line : Counts → List ℕ
line c =
    codes "frames " ++ (decimal c.frames ++ (codes " lost " ++ (decimal c.lost ++ (codes " pairs " ++ (decimal c.pairs
    ++ (codes " muted " ++ (decimal c.muted ++ (codes " unsound " ++ decimal c.unsound))))))))
