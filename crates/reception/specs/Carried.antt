-- What an arrived frame carries, as one value: whether it is lost, and its words, range word and checks.
use Rattle.std.specs.Prelude.{Bool}
use Rattle.frames.specs.Frame.{heard}
use Rattle.frames.specs.Content.{Listed, pair_in, listed}
use Rattle.reception.specs.declared.arrived.Arrived.{Arrived}
use Rattle.reception.specs.Arrivals.{Arrival, is_lost, octets_in}

abbrev pub carried : Arrived → Bool × Listed
carried a = (a.lost, listed (pair_in a.frame))

-- The same by an arrival.
abbrev pub carried_by : Arrival → Bool × Listed
carried_by a = (is_lost a, listed (heard (octets_in a)))
