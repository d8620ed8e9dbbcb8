-- A circuit's life: any calls in any order from its making, refused ones included. Sender and receiver know nothing of each other,
-- so what is sent and what is received are told apart.
use Rattle.std.specs.Prelude.{◌≡◌, ℕ, ◌+◌, ◌<◌, List, [], ◌∷◌, ◌++◌, map, length, ℤ, Some, None, Option, slice_index_or}
use Rattle.words.specs.Answers.{Answer, gives, refuses}
use Rattle.words.specs.Meaning.{Meaning, middle}
use Rattle.frames.specs.Frame.{Pair, frame}
use Rattle.pairs.specs.Sending.{sent_pair}
use Rattle.reception.specs.Arrivals.{Arrival}
use Rattle.reception.specs.Given.{Told, PairGiven}
use Rattle.circuit.specs.declared.sender.Sent.{Sent}
use Rattle.circuit.specs.declared.sender.Sent.TheVariants.{Held, Written}
use Rattle.circuit.specs.Putting.{Source, Put, fresh_source, putting, putting_words}
use Rattle.circuit.specs.Taking.{Sink, Took, taking, losing}

-- One call, with all that it was handed: samples or words with their law's meaning, octets, and the contents of the buffers lent.
pub data Event : Type 0 where
  puts : (samples : List ℤ) (frame : List ℕ) → Event
  puts_words : (law : Meaning) (words frame : List ℕ) → Event
  takes : (octets words : List ℕ) → Event
  loses : (words : List ℕ) → Event

-- What a call of the sender puts on its way: the pair that was accepted, and the frame that was written.
pub record Outgoing : Type 0 where
  pub pairs : List (List ℤ)
  pub frames : List (List ℕ)

abbrev pub nothing_sent : Outgoing
nothing_sent = record { pairs = []; frames = [] }

abbrev pub put_seen : Answer Sent → List ℤ → List ℕ → Outgoing
put_seen (gives Held) pair frame = record { pairs = pair ∷ []; frames = [] }
put_seen (gives Written) pair frame = record { pairs = pair ∷ []; frames = frame ∷ [] }
put_seen (refuses n p l) pair frame = nothing_sent

-- A put as it went, and the pair that it puts where it is accepted: the samples, or the values that the words are read as.
abbrev pub outgoing : Put → List ℤ → Outgoing
outgoing put pair = put_seen put.answer pair put.frame

abbrev pub source_after : Source → Event → Source
source_after s (puts samples frame) = (putting s frame samples).source
source_after s (puts_words law words frame) = (putting_words s frame law words).source
source_after s (takes octets words) = s
source_after s (loses words) = s

abbrev pub sent_by : Source → Event → Outgoing
sent_by s (puts samples frame) = outgoing (putting s frame samples) samples
sent_by s (puts_words law words frame) = outgoing (putting_words s frame law words) (map (middle law) words)
sent_by s (takes octets words) = nothing_sent
sent_by s (loses words) = nothing_sent

abbrev pub joined : Outgoing → Outgoing → Outgoing
joined a b = record { pairs = a.pairs ++ b.pairs; frames = a.frames ++ b.frames }

-- All pairs put and all frames sent by some calls, in order.
abbrev pub sending : Source → List Event → Outgoing
sending s [] = nothing_sent
sending s (e ∷ es) = joined (sent_by s e) (sending (source_after s e) es)

-- Pair k as coded, of the pairs put.
abbrev pub codes : List (List ℤ) → ℕ → Pair
codes pairs k = sent_pair (slice_index_or pairs k []) (slice_index_or pairs (k + 1) [])

-- Frame N as sent is the standard's frame of the pairs put.
abbrev pub FramesAreTheStandards : List Event → Type 0
FramesAreTheStandards h = (N : ℕ) → N < length (sending fresh_source h).frames
    → slice_index_or (sending fresh_source h).frames N [] ≡ frame (codes (sending fresh_source h).pairs) N

-- The sender after some calls.
abbrev pub source_at : Source → List Event → Source
source_at s [] = s
source_at s (e ∷ es) = source_at (source_after s e) es

-- What a call of the receiver brings in: the arrival that was accepted, and the pair that it gave, none where it was early.
pub record Incoming : Type 0 where
  pub arrivals : List Arrival
  pub givens : List (Option PairGiven)

abbrev pub nothing_received : Incoming
nothing_received = record { arrivals = []; givens = [] }

abbrev pub take_seen : Answer (Option Told) → Arrival → List ℕ → Incoming
take_seen (gives None) arrival words = record { arrivals = arrival ∷ []; givens = None ∷ [] }
take_seen (gives (Some report)) arrival words = record { arrivals = arrival ∷ []; givens = Some (record { words = words; report = report }) ∷ [] }
take_seen (refuses n p l) arrival words = nothing_received

abbrev pub incoming : Took → Arrival → Incoming
incoming took arrival = take_seen took.answer arrival took.words

module _ (outlet : Meaning) where
  abbrev pub sink_after : Sink → Event → Sink
  sink_after s (puts samples frame) = s
  sink_after s (puts_words law words frame) = s
  sink_after s (takes octets words) = (taking outlet s words octets).sink
  sink_after s (loses words) = (losing outlet s words).sink

  abbrev pub received_by : Sink → Event → Incoming
  received_by s (puts samples frame) = nothing_received
  received_by s (puts_words law words frame) = nothing_received
  received_by s (takes octets words) = incoming (taking outlet s words octets) (Some octets)
  received_by s (loses words) = incoming (losing outlet s words) None

  abbrev pub both_in : Incoming → Incoming → Incoming
  both_in a b = record { arrivals = a.arrivals ++ b.arrivals; givens = a.givens ++ b.givens }

  -- All arrivals accepted and all pairs given, in order.
  abbrev pub receiving : Sink → List Event → Incoming
  receiving s [] = nothing_received
  receiving s (e ∷ es) = both_in (received_by s e) (receiving (sink_after s e) es)

  abbrev pub sink_at : Sink → List Event → Sink
  sink_at s [] = s
  sink_at s (e ∷ es) = sink_at (sink_after s e) es
