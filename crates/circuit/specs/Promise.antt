-- What a circuit promises over its whole life. A history is the list of all calls since its making, refused ones included.
use Rattle.std.specs.Prelude.{◌≡◌, ℕ, ◌+◌, ◌<◌, ◌≤◌, false, List, [], ◌∷◌, ◌++◌, length, ℤ, Some, None, Option, slice_index_or}
use Rattle.words.specs.Answers.{Answer, gives}
use Rattle.words.specs.Meaning.{Meaning}
use Rattle.damage.specs.Damage.{OneOctet}
use Rattle.reception.specs.Arrivals.{Arrival, is_lost, octets_in}
use Rattle.reception.specs.Given.{Told, PairGiven, pair_given}
use Rattle.fidelity.specs.Crossing.{HardlyHarmed, Unharmed}
use Rattle.circuit.specs.declared.sender.Sent.{Sent}
use Rattle.circuit.specs.declared.sender.Sent.TheVariants.{Written}
use Rattle.circuit.specs.Putting.{Source, fresh_source}
use Rattle.circuit.specs.Taking.{Sink, fresh_sink}
use Rattle.circuit.specs.History.{Event, Outgoing, Incoming, FramesAreTheStandards, sending, receiving, source_at, sink_at}

-- What was sent by a history: accepted put number N puts pair N, and frame N is what put N + 1 writes.
abbrev pub sent : List Event → Outgoing
sent h = sending fresh_source h

abbrev pub pair_put : List Event → ℕ → List ℤ
pair_put h N = slice_index_or (sent h).pairs N []

abbrev pub frame_sent : List Event → ℕ → List ℕ
frame_sent h N = slice_index_or (sent h).frames N []

-- What was received: accepted take or loss number N is arrival N, and number N + 3 gives pair N.
abbrev pub heard : Meaning → List Event → Incoming
heard outlet h = receiving outlet fresh_sink h

abbrev pub arrival : Meaning → List Event → ℕ → Arrival
arrival outlet h N = slice_index_or (heard outlet h).arrivals N None

abbrev pub pair_out : Meaning → List Event → ℕ → Option PairGiven
pair_out outlet h N = slice_index_or (heard outlet h).givens (N + 3) None

-- Each accepted arrival is answered, the first three early, and number N + 3 by pair N, the defined function of arrivals N to N + 3.
pub record PairsAreTheStandards (outlet : Meaning) (h : List Event) : Type 0 where
  pub answered : length (heard outlet h).givens ≡ length (heard outlet h).arrivals
  pub early : (k : ℕ) → k < 3 → slice_index_or (heard outlet h).givens k None ≡ None
  pub given : (N : ℕ) → N + 3 < length (heard outlet h).arrivals → pair_out outlet h N ≡ Some (pair_given outlet (arrival outlet h) N)

-- Pair N was given, its frames N to N + 3 were sent, and none of them was lost. The takes may have come before the puts.
pub record Crossed (outlet : Meaning) (h : List Event) (N : ℕ) (given : PairGiven) : Type 0 where
  pub gave : pair_out outlet h N ≡ Some given
  pub sent : N + 3 < length (sent h).frames
  pub came : N + 3 < length (heard outlet h).arrivals
  pub taken : (k : ℕ) → N ≤ k → k < N + 4 → is_lost (arrival outlet h k) ≡ false

-- At most one octet of the four was handed over with another value than it was sent with.
abbrev pub OneOctetDamaged : Meaning → List Event → ℕ → Type 0
OneOctetDamaged outlet h N = OneOctet (frame_sent h) (λ k. octets_in (arrival outlet h k)) N

abbrev pub NoneDamaged : Meaning → List Event → ℕ → Type 0
NoneDamaged outlet h N = (k : ℕ) → N ≤ k → k < N + 4 → octets_in (arrival outlet h k) ≡ frame_sent h k

-- Arrivals N to N + 3 of two histories are alike: both lost, or both taken with equal octets.
pub record Alike (outlet : Meaning) (h g : List Event) (N : ℕ) : Type 0 where
  pub here : N + 3 < length (heard outlet h).arrivals
  pub there : N + 3 < length (heard outlet g).arrivals
  pub same : (k : ℕ) → N ≤ k → k < N + 4 → arrival outlet h k ≡ arrival outlet g k

pub record Dependable (outlet : Meaning) (h : List Event) : Type 0 where
  pub frames_are_the_standards : FramesAreTheStandards h
  pub pairs_are_the_standards : PairsAreTheStandards outlet h
  pub one_damaged_octet_hardly_harms : (N : ℕ) (given : PairGiven) → Crossed outlet h N given → OneOctetDamaged outlet h N → HardlyHarmed outlet (pair_put h) given N
  pub undamaged_pairs_are_unharmed : (N : ℕ) (given : PairGiven) → Crossed outlet h N given → NoneDamaged outlet h N → Unharmed outlet (pair_put h) given N
  pub four_frames_decide_a_pair : (g : List Event) (N : ℕ) → Alike outlet h g N → pair_out outlet h N ≡ pair_out outlet g N

-- A put that writes, after any history that leads to the sender's state, writes that history's next frame.
abbrev pub WritesTheNextFrame : Source → Event → Answer Sent → List ℕ → Type 0
WritesTheNextFrame s e answer octets = (h : List Event) → source_at fresh_source h ≡ s → answer ≡ gives Written
    → frame_sent (h ++ (e ∷ [])) (length (sent h).frames) ≡ octets

-- A take or a loss that gives, after any history that leads to the receiver's state, gives that history's next pair.
abbrev pub GivesTheNextPair : Meaning → Sink → Event → Answer (Option Told) → List ℕ → Type 0
GivesTheNextPair outlet s e answer words = (h : List Event) → sink_at outlet fresh_sink h ≡ s → (report : Told) → answer ≡ gives (Some report)
    → (N : ℕ) → N + 3 ≡ length (heard outlet h).arrivals → pair_out outlet (h ++ (e ∷ [])) N ≡ Some (record { words = words; report = report })
