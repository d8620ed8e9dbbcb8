-- A pair on its way in: its own frame brings the range word and the checks, the next frame half of its words, the one after that
-- the other half, and then both blocks are judged.
use Rattle.std.specs.Prelude.{ℕ, Bool, ◌||◌, List, replicate}
use Rattle.frames.specs.Frame.{Pair, heard}
use Rattle.decoder.specs.Findings.{mute}
use Rattle.decoder.specs.Samples.{Received}
use Rattle.reception.specs.Arrivals.{Arrival, is_lost, octets_in}
use Rattle.reception.specs.Blocks.{odd_words_of, even_words_of, judged}

pub record Recorded : Type 0 where
  pub lost : Bool
  pub range_word : ℕ
  pub checks_first : ℕ
  pub checks_second : ℕ
  pub first : Received
  pub second : Received

-- A block before it is judged: until then it is muted.
abbrev pub unjudged : List ℕ → List ℕ → Received
unjudged odd even = record { found = mute 1; basic = 0; additional = 0; odd_words = odd; even_words = even }

abbrev pub no_words : List ℕ
no_words = replicate 16 0

-- Its own frame: lost or not, and what it carries.
abbrev pub begun : Bool → Pair → Recorded
begun lost frame = record {
  lost = lost;
  range_word = frame.ranges;
  checks_first = frame.checks 1;
  checks_second = frame.checks 2;
  first = unjudged no_words no_words;
  second = unjudged no_words no_words;
}

-- The next frame brings the odd words of the first block and the even ones of the second.
abbrev pub followed : Bool → Pair → Recorded → Recorded
followed lost frame r = record {
  lost = r.lost || lost;
  range_word = r.range_word;
  checks_first = r.checks_first;
  checks_second = r.checks_second;
  first = unjudged (odd_words_of frame 1) r.first.even_words;
  second = unjudged r.second.odd_words (even_words_of frame 2);
}

-- The last one brings the others.
abbrev pub completed : Bool → Pair → Recorded → Recorded
completed lost frame r = record {
  lost = r.lost || lost;
  range_word = r.range_word;
  checks_first = r.checks_first;
  checks_second = r.checks_second;
  first = judged (r.lost || lost) r.range_word 1 r.checks_first r.first.odd_words (even_words_of frame 1);
  second = judged (r.lost || lost) r.range_word 2 r.checks_second (odd_words_of frame 2) r.second.even_words;
}

-- The same by an arrival.
abbrev pub begun_by : Arrival → Recorded
begun_by a = begun (is_lost a) (heard (octets_in a))

abbrev pub followed_by : Arrival → Recorded → Recorded
followed_by a r = followed (is_lost a) (heard (octets_in a)) r

abbrev pub completed_by : Arrival → Recorded → Recorded
completed_by a r = completed (is_lost a) (heard (octets_in a)) r
