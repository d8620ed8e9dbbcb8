-- A received block beside the block that was put: its ranges are those of the block put, its verdict is clean or points at guard
-- bit k, and no code that is not concealed is off by more than e.
use Rattle.std.proofs.Common.{◌≡◌, ℕ, ◌≤◌, false, ◌⊎◌, List, ℤ}
use Rattle.blocks.specs.Ranges.{basic_range, additional_range}
use Rattle.frames.specs.Places.{IsSample}
use Rattle.decoder.specs.Findings.{Finding, clean, conceals}
use Rattle.decoder.specs.Verdicts.{hurt_at}
use Rattle.decoder.specs.Samples.{Received, code_at}
use Rattle.decoder.specs.Closeness.{distance}
use Rattle.closeness.specs.Codes.{code_sent}

-- clean, or by guard bit k
abbrev pub Found : ℕ → Finding → Type 0
Found k found = (found ≡ clean) ⊎ ((1 ≤ k) × (k ≤ 29) × (found ≡ hurt_at k))

pub record Faithful (e k : ℕ) (put : List ℤ) (b : Received) : Type 0 where
  pub basic : b.basic ≡ basic_range put
  pub additional : b.additional ≡ additional_range put
  pub verdict : Found k b.found
  pub codes : (s n : ℕ) → IsSample n → conceals b.found n ≡ false
      → distance (code_at b n) (code_sent (basic_range put) (additional_range put) s put n) ≤ e
