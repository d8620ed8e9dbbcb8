-- What arrives of the frames, and what is heard of a pair from it.
use Rattle.std.specs.Prelude.{ℕ, ◌+◌, Bool, true, false, ◌||◌, List, [], Some, None, Option}
use Rattle.frames.specs.Frame.{Pair, heard_pair}

-- The octets of a frame as they were taken, or its loss.
abbrev pub Arrival : Type 0
Arrival = Option (List ℕ)

abbrev pub is_lost : Arrival → Bool
is_lost None = true
is_lost (Some octets) = false

-- A lost frame carries nothing: its bits are read as 0.
abbrev pub octets_in : Arrival → List ℕ
octets_in None = []
octets_in (Some octets) = octets

-- Arrivals by number. Whether a frame that carries a part of pair N is lost: its own, or one of the next two.
abbrev pub lost_part : (ℕ → Arrival) → ℕ → Bool
lost_part arrivals N = (is_lost (arrivals N) || is_lost (arrivals (N + 1))) || is_lost (arrivals (N + 2))

-- What is heard of pair N.
abbrev pub heard_of : (ℕ → Arrival) → ℕ → Pair
heard_of arrivals N = heard_pair (λ k. octets_in (arrivals k)) N
