-- The 80 octets of a frame, what they carry, and pairs on their way through frames.
use Rattle.std.specs.Prelude.{◌≡◌, ℕ, ◌+◌, ◌-◌, ◌*◌, ◌/◌, ◌%◌, ◌^◌, ◌<◌, ◌≤◌, cond, List, map, ◌==◌, nat_lt, slice_index}
use Rattle.std.specs.List.{range_with_len}
use Rattle.guards.specs.Bits.{number, bit_in}
use Rattle.guards.specs.Parities.{bits_of}
use Rattle.frames.specs.Places.{Holds, sample_bit, range_bit, check_bit, service_bit, spare_bit, IsBlock, IsSample, delay, travels, lies_at, index}

-- A coded pair: the word of each sample by block and number, the range word R1 to R12, and each block's checks C1 to C5.
-- A frame carries as much as one pair, woven of three, and is seen in the same way.
pub record Pair : Type 0 where
  pub word : ℕ → ℕ → ℕ
  pub ranges : ℕ
  pub checks : ℕ → ℕ

-- Words, range word and checks within their lengths.
pub record WellCoded (p : Pair) : Type 0 where
  pub words : (block n : ℕ) → IsBlock block → IsSample n → p.word block n < 2 ^ bits_of n
  pub range_word : p.ranges < 2 ^ 12
  pub check_words : (block : ℕ) → IsBlock block → p.checks block < 2 ^ 5

-- Two pairs that are the same in all that a frame carries.
pub record SamePair (p q : Pair) : Type 0 where
  pub words : (block n : ℕ) → IsBlock block → IsSample n → p.word block n ≡ q.word block n
  pub range_word : p.ranges ≡ q.ranges
  pub check_words : (block : ℕ) → IsBlock block → p.checks block ≡ q.checks block

-- The bit for what lies at a place. Service bits and spare bits are written 0.
abbrev pub carried : Pair → Holds → ℕ
carried p (sample_bit earlier block n b) = bit_in (bits_of n) (p.word block n) b
carried p (range_bit k) = bit_in 12 p.ranges k
carried p (check_bit block k) = bit_in 5 (p.checks block) k
carried p (service_bit k) = 0
carried p (spare_bit l) = 0

-- The 80 octets of a row of 640 bits, the first bit highest in the first octet.
unfoldable pub packed : (ℕ → ℕ) → List ℕ
packed row = map (λ j. number (λ t. row (8 * j + t)) 8) (range_with_len 0 80)

-- The octets of a frame by what it carries.
unfoldable pub octets_of : Pair → List ℕ
octets_of p = packed (λ i. carried p (lies_at i))

-- Bit i of a frame's octets, from 0.
unfoldable pub bit_at : List ℕ → ℕ → ℕ
bit_at octets i = slice_index octets (i / 8) / 2 ^ (7 - i % 8) % 2

-- What a row of 640 bits carries, whatever they are; service bits and spare bits are ignored.
abbrev pub heard_by : (ℕ → ℕ) → Pair
heard_by row = record {
  word = λ block n. number (λ t. row (index (travels block n (t + 1)))) (bits_of n);
  ranges = number (λ t. row (index (range_bit (t + 1)))) 12;
  checks = λ block. number (λ t. row (index (check_bit block (t + 1)))) 5;
}

-- What octets carry.
abbrev pub heard : List ℕ → Pair
heard octets = heard_by (bit_at octets)

-- A frame is woven of its own pair's range word and checks and of words of the pairs one and two earlier.
abbrev pub woven : Pair → Pair → Pair → Pair
woven own one two = record {
  word = λ block n. cond (delay block n == 1) (one.word block n) (two.word block n);
  ranges = own.ranges;
  checks = own.checks;
}

unfoldable pub frame_of : Pair → Pair → Pair → List ℕ
frame_of own one two = octets_of (woven own one two)

-- The pair so many before pair N. Before pair 0 all bits are 0.
abbrev pub blank : Pair
blank = record { word = λ _ _. 0; ranges = 0; checks = λ _. 0 }

abbrev pub before : (ℕ → Pair) → ℕ → ℕ → Pair
before pairs N earlier = cond (nat_lt N earlier) blank (pairs (N - earlier))

-- Frame N of the pairs that were put.
abbrev pub frame : (ℕ → Pair) → ℕ → List ℕ
frame pairs N = frame_of (pairs N) (before pairs N 1) (before pairs N 2)

-- What is heard of pair N, of the frames by number: its own and the next two.
abbrev pub heard_pair : (ℕ → List ℕ) → ℕ → Pair
heard_pair frames N = record {
  word = λ block n. (heard (frames (N + delay block n))).word block n;
  ranges = (heard (frames N)).ranges;
  checks = (heard (frames N)).checks;
}

-- Undamaged frames read back as the pairs that were sent.
abbrev pub ReadsBack : Type 0
ReadsBack = (pairs : ℕ → Pair) (N : ℕ) → WellCoded (pairs N) → SamePair (heard_pair (frame pairs) N) (pairs N)

-- What is heard of pair N hangs on frames N to N + 2 alone.
abbrev pub ThreeFramesDecide : Type 0
ThreeFramesDecide = (f g : ℕ → List ℕ) (N : ℕ) → ((M : ℕ) → N ≤ M → M < N + 3 → f M ≡ g M) → SamePair (heard_pair f N) (heard_pair g N)
