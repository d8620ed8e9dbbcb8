-- A pair that crosses the line in its four frames, with no octet damaged or with one.
use Rattle.std.specs.Prelude.{◌≡◌, ℕ, ◌+◌, ◌<◌, ◌≤◌, false, List, ℤ}
use Rattle.words.specs.Meaning.{Meaning, CellRule, Wide}
use Rattle.frames.specs.Frame.{frame}
use Rattle.damage.specs.Damage.{OneOctet}
use Rattle.pairs.specs.Sending.{IsPair, codes_of}
use Rattle.reception.specs.Arrivals.{Arrival, is_lost, octets_in}
use Rattle.reception.specs.Given.{PairGiven, pair_given}
use Rattle.fidelity.specs.Kept.{SoundIsKept, NoneIsMuted, FewLackTheMark, AllAreSound}

-- Pair N and the two after it are pairs of samples, and none of frames N to N + 3 is lost.
pub record Crosses (pairs : ℕ → List ℤ) (arrivals : ℕ → Arrival) (N : ℕ) : Type 0 where
  pub put : (k : ℕ) → N ≤ k → k < N + 3 → IsPair (pairs k)
  pub taken : (k : ℕ) → N ≤ k → k < N + 4 → is_lost (arrivals k) ≡ false

-- No octet but perhaps one of the four frames arrives other than as the standard's frames of the pairs have it.
abbrev pub OneDamaged : (ℕ → List ℤ) → (ℕ → Arrival) → ℕ → Type 0
OneDamaged pairs arrivals N = OneOctet (frame (codes_of pairs)) (λ k. octets_in (arrivals k)) N

abbrev pub Undamaged : (ℕ → List ℤ) → (ℕ → Arrival) → ℕ → Type 0
Undamaged pairs arrivals N = (k : ℕ) → N ≤ k → k < N + 4 → octets_in (arrivals k) ≡ frame (codes_of pairs) k

-- With one octet damaged, however, codes that count are off by 16 at most; with none, they are as sent.
pub record HardlyHarmed (outlet : Meaning) (pairs : ℕ → List ℤ) (given : PairGiven) (N : ℕ) : Type 0 where
  pub sound : SoundIsKept 16 outlet pairs given N
  pub heard : NoneIsMuted given
  pub few : FewLackTheMark given

pub record Unharmed (outlet : Meaning) (pairs : ℕ → List ℤ) (given : PairGiven) (N : ℕ) : Type 0 where
  pub sound : SoundIsKept 0 outlet pairs given N
  pub heard : NoneIsMuted given
  pub all : AllAreSound given

abbrev pub OneOctetHardlyHarms : Type 0
OneOctetHardlyHarms = (outlet : Meaning) → CellRule outlet → Wide outlet → (pairs : ℕ → List ℤ) (arrivals : ℕ → Arrival) (N : ℕ)
    → Crosses pairs arrivals N → OneDamaged pairs arrivals N → HardlyHarmed outlet pairs (pair_given outlet arrivals N) N

abbrev pub NoDamageNoHarm : Type 0
NoDamageNoHarm = (outlet : Meaning) → CellRule outlet → Wide outlet → (pairs : ℕ → List ℤ) (arrivals : ℕ → Arrival) (N : ℕ)
    → Crosses pairs arrivals N → Undamaged pairs arrivals N → Unharmed outlet pairs (pair_given outlet arrivals N) N
