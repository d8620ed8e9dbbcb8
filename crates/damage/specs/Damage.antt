-- One damaged octet in four frames, and what it does to a pair.
use Rattle.std.specs.Prelude.{◌≡◌, ℕ, ◌+◌, ◌-◌, ◌*◌, ◌/◌, ◌^◌, ◌<◌, ◌≤◌, cond, ◌&&◌, List, ◌==◌, ◌≢◌, bit_xor, nat_le, nat_lt, slice_index}
use Rattle.guards.specs.Bits.{total}
use Rattle.guards.specs.Parities.{guards, guard_of, fronts}
use Rattle.frames.specs.Places.{Holds, sample_bit, range_bit, check_bit, service_bit, spare_bit, IsBlock, IsSample, lies_at}
use Rattle.frames.specs.Frame.{Pair, heard_pair}

-- The guard bit of a block, 1 to 29, that a bit counts in, in the frame so many after the block's own; 0 for none. Guarded
-- are the bits at the front of each word, and the checks themselves.
abbrev pub covered : ℕ → ℕ → Holds → ℕ
covered block later (sample_bit earlier from n b) = cond (later == earlier && (block == from && nat_le b (fronts n))) (guard_of n) 0
covered block later (check_bit from k) = cond (later == 0 && block == from) (24 + k) 0
covered block later (range_bit k) = 0
covered block later (service_bit k) = 0
covered block later (spare_bit l) = 0

abbrev pub is_range_bit : Holds → ℕ
is_range_bit (sample_bit earlier from n b) = 0
is_range_bit (range_bit k) = 1
is_range_bit (check_bit from k) = 0
is_range_bit (service_bit k) = 0
is_range_bit (spare_bit l) = 0

-- How many bits of an octet are of a kind.
abbrev pub in_octet : (Holds → ℕ) → ℕ → ℕ
in_octet kind octet = total (λ i. kind (lies_at i)) (8 * octet) 8

-- An octet of a frame holds at most one guarded or check bit of any one block, of whichever pair, and at most one bit of the
-- range word.
pub record LittleInOctet (octet : ℕ) : Type 0 where
  pub guarded : (block later : ℕ) → IsBlock block → later < 3 → in_octet (λ h. cond (nat_lt 0 (covered block later h)) 1 0) octet ≤ 1
  pub range_word : in_octet is_range_bit octet ≤ 1

abbrev pub OctetsHoldLittle : Type 0
OctetsHoldLittle = (octet : ℕ) → octet < 80 → LittleInOctet octet

-- The guard bit that an octet's bits count in: the sum, since at most one of them counts.
unfoldable pub guard_at : ℕ → ℕ → ℕ → ℕ
guard_at block later octet = in_octet (covered block later) octet

-- The guard bit of a block of pair M that an octet of a frame can touch; 0 for none.
abbrev pub touched : ℕ → ℕ → ℕ → ℕ → ℕ
touched block M frame octet = cond (nat_lt frame M) 0 (guard_at block (frame - M) octet)

-- In frames N to N + 3 no octet but perhaps one arrives changed, in whatever way.
pub record OneOctet (sent arrived : ℕ → List ℕ) (N : ℕ) : Type 0 where
  pub frame : ℕ
  pub octet : ℕ
  pub from : N ≤ frame
  pub upto : frame < N + 4
  pub inside : octet < 80
  pub others : (f j : ℕ) → N ≤ f → f < N + 4 → j < 80 → (f ≡ frame → j ≢ octet) → slice_index (sent f) j ≡ slice_index (arrived f) j

-- A word that keeps its guarded bits, the sign among them, and moves by at most 16, as where one other bit is changed.
pub record Near (w w' : ℕ) : Type 0 where
  pub guarded : w / 32 ≡ w' / 32
  pub below : w ≤ w' + 16
  pub above : w' ≤ w + 16

-- A block's words and checks as sent and as received. Either all guard bits came as sent, and so did all guarded bits; or
-- guard bit k alone came changed, and with it guarded bits of no samples but those under it.
pub data Hurt (k : ℕ) (w : ℕ → ℕ) (c : ℕ) (w' : ℕ → ℕ) (c' : ℕ) : Type 0 where
  whole : guards w' c' ≡ guards w c → ((n : ℕ) → IsSample n → Near (w n) (w' n)) → Hurt k w c w' c'
  hurt : 1 ≤ k → k ≤ 29 → guards w' c' ≡ bit_xor (guards w c) (2 ^ (29 - k)) → ((n : ℕ) → IsSample n → (guard_of n ≢ k) → Near (w n) (w' n)) → Hurt k w c w' c'

abbrev pub BlockHurt : ℕ → ℕ → Pair → Pair → Type 0
BlockHurt k block p q = Hurt k (p.word block) (p.checks block) (q.word block) (q.checks block)

-- A range word as sent and as received: the same, or one of R1 to R12 came changed.
pub data RangeHurt (r r' : ℕ) : Type 0 where
  range_whole : r' ≡ r → RangeHurt r r'
  range_hurt_at : (k : ℕ) → 1 ≤ k → k ≤ 12 → r' ≡ bit_xor r (2 ^ (12 - k)) → RangeHurt r r'

-- What one damaged octet of frames N to N + 3 does to pair N and to the block that follows it.
pub record HardlyHurt (sent arrived : ℕ → List ℕ) (N frame octet : ℕ) : Type 0 where
  pub blocks : (block : ℕ) → IsBlock block → BlockHurt (touched block N frame octet) block (heard_pair sent N) (heard_pair arrived N)
  pub range_word : RangeHurt (heard_pair sent N).ranges (heard_pair arrived N).ranges
  pub next_block : BlockHurt (touched 1 (N + 1) frame octet) 1 (heard_pair sent (N + 1)) (heard_pair arrived (N + 1))
  pub next_range_word : RangeHurt (heard_pair sent (N + 1)).ranges (heard_pair arrived (N + 1)).ranges

abbrev pub OneOctetHardlyHurts : Type 0
OneOctetHardlyHurts = (sent arrived : ℕ → List ℕ) (N : ℕ) (damage : OneOctet sent arrived N) → HardlyHurt sent arrived N damage.frame damage.octet
