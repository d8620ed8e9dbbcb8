-- The last four pairs on their way in, the newest first: what an arrival makes of them, and what is given of the oldest.
use Rattle.std.specs.Prelude.{ℕ, ◌+◌, ◌%◌, Bool, false, List, [], ◌∷◌, map, slice_index_or}
use Rattle.words.specs.Meaning.{Meaning}
use Rattle.frames.specs.Frame.{Pair, heard, blank}
use Rattle.decoder.specs.Received.{received}
use Rattle.reception.specs.declared.record.PairRecord.{PairRecord}
use Rattle.reception.specs.declared.records.Records.{Records}
use Rattle.reception.specs.Arrivals.{Arrival, is_lost, octets_in}
use Rattle.reception.specs.Recording.{Recorded, begun, followed, completed}
use Rattle.reception.specs.Given.{PairGiven, giving}

-- A pair's record of the code.
abbrev pub recorded : PairRecord → Recorded
recorded r = record {
  lost = r.lost;
  range_word = r.ranges;
  checks_first = r.first.checks;
  checks_second = r.second.checks;
  first = received r.first.received;
  second = received r.second.received;
}

-- What stands in place of a pair before the first one.
abbrev pub blank_record : Recorded
blank_record = begun false blank

-- A ring of four, read backwards from the slot before `at`.
abbrev pub backwards : ℕ → List Recorded → List Recorded
backwards at slots =
    slice_index_or slots ((at + 3) % 4) blank_record ∷ slice_index_or slots ((at + 2) % 4) blank_record ∷ slice_index_or slots ((at + 1) % 4) blank_record ∷ slice_index_or slots (at % 4) blank_record ∷ []

abbrev pub recent_of : Records → List Recorded
recent_of rs = backwards rs.at (map recorded rs.slots)

-- Before any frame has arrived.
abbrev pub no_records : List Recorded
no_records = blank_record ∷ blank_record ∷ blank_record ∷ blank_record ∷ []

-- A frame begins its own pair, follows the newest before it, and completes the one before that.
abbrev pub arrive_with : Bool → Pair → List Recorded → List Recorded
arrive_with lost frame rs =
    begun lost frame ∷ followed lost frame (slice_index_or rs 0 blank_record) ∷ completed lost frame (slice_index_or rs 1 blank_record) ∷ slice_index_or rs 2 blank_record ∷ []

-- The same by an arrival.
abbrev pub arrive_by : Arrival → List Recorded → List Recorded
arrive_by a rs = arrive_with (is_lost a) (heard (octets_in a)) rs

-- The oldest pair as given, before the next newer one.
abbrev pub oldest_given : Meaning → List Recorded → PairGiven
oldest_given outlet rs =
    giving outlet (slice_index_or rs 3 blank_record).first (slice_index_or rs 3 blank_record).second (slice_index_or rs 2 blank_record).first
