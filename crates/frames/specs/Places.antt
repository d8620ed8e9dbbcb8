-- What lies at each bit of a frame, and where each bit lies.
-- Groups count from 1 to 8, bits of a group from 1 to 80, blocks from 1 to 2, samples of a block from 1 to 32.
use Rattle.std.specs.Prelude.{◌≡◌, ℕ, ◌+◌, ◌-◌, ◌*◌, ◌/◌, ◌%◌, ◌≤◌, cond, List, [], ◌∷◌, slice_index_or, ◌==◌, nat_lt, slice_index}
use Rattle.guards.specs.Parities.{bits_of}

pub record IsBlock (block : ℕ) : Type 0 where
  pub from : 1 ≤ block
  pub upto : block ≤ 2

pub record IsSample (sample : ℕ) : Type 0 where
  pub from : 1 ≤ sample
  pub upto : sample ≤ 32

-- What a bit of a frame is: a bit of a sample's word, of the pair one or two earlier; R1 to R12 or a check of the frame's
-- own pair; one of the two service bits S and D; or the spare bit 80 of a group.
pub data Holds : Type 0 where
  sample_bit : (earlier block sample bit : ℕ) → Holds
  range_bit : (number : ℕ) → Holds
  check_bit : (block number : ℕ) → Holds
  service_bit : (number : ℕ) → Holds
  spare_bit : (group : ℕ) → Holds

-- How many frames after its pair's own a sample travels. Neighbours go apart: the odd samples of block 1 and the even ones
-- of block 2 in the next frame, the others in the one after it.
abbrev pub delay : ℕ → ℕ → ℕ
delay block sample = 1 + (block + sample) % 2

-- A bit of a sample's word as it travels.
abbrev pub travels : ℕ → ℕ → ℕ → Holds
travels block sample bit = sample_bit (delay block sample) block sample bit

-- The four samples of which half a group takes bits.
pub data Letter : Type 0 where
  in_a in_b in_c in_d : Letter

-- Bit b of a letter's sample in group l; in the second half (1) the sample's number is 2 higher than in the first (0).
abbrev pub bit_from : Letter → ℕ → ℕ → ℕ → Holds
bit_from in_a l half b = sample_bit 1 1 (4 * l + 2 * half - 3) b
bit_from in_b l half b = sample_bit 1 2 (4 * l + 2 * half - 2) b
bit_from in_c l half b = sample_bit 2 1 (4 * l + 2 * half - 2) b
bit_from in_d l half b = sample_bit 2 2 (4 * l + 2 * half - 3) b

abbrev pub letters : List Letter
letters = in_a ∷ in_b ∷ in_c ∷ in_d ∷ []

-- The last six of a half's 38 places.
abbrev pub last_six : List (Letter × ℕ)
last_six = (in_a, 5) ∷ (in_a, 10) ∷ (in_b, 5) ∷ (in_c, 5) ∷ (in_d, 5) ∷ (in_d, 10) ∷ []

-- Place c, from 0, of the 38 in half of group l: for k = 1 to 4 bits k and k + 5 of A, B, C and D in turn, then the six.
abbrev pub half_place : ℕ → ℕ → ℕ → Holds
half_place l half c =
    cond (nat_lt c 32)
    (bit_from (slice_index_or letters (c % 8 / 2) in_a) l half (c / 8 + 1 + 5 * (c % 2)))
    (bit_from (slice_index_or last_six (c - 32) (in_a, 0)).0 l half (slice_index_or last_six (c - 32) (in_a, 0)).1)

-- Bits 40 and 79 of groups 1 to 8.
abbrev pub at_40 : List Holds
at_40 = check_bit 1 1 ∷ service_bit 1 ∷ check_bit 1 3 ∷ check_bit 1 5 ∷ check_bit 2 1 ∷ service_bit 2 ∷ check_bit 2 3 ∷ check_bit 2 5 ∷ []

abbrev pub at_79 : List Holds
at_79 = check_bit 1 2 ∷ range_bit 9 ∷ check_bit 1 4 ∷ range_bit 10 ∷ check_bit 2 2 ∷ range_bit 11 ∷ check_bit 2 4 ∷ range_bit 12 ∷ []

-- The side bits: 39, 40, 79 and 80 of group l.
abbrev pub side_place : ℕ → ℕ → Holds
side_place l b =
    cond (b == 39) (range_bit l)
    (cond (b == 40) (slice_index_or at_40 (l - 1) (spare_bit l))
    (cond (b == 79) (slice_index_or at_79 (l - 1) (spare_bit l)) (spare_bit l)))

-- What lies at bit b of group l: bits 1 to 38 and 41 to 78 are the two halves.
unfoldable pub lies : ℕ → ℕ → Holds
lies l b = cond (nat_lt ((b - 1) % 40) 38) (half_place l ((b - 1) / 40) ((b - 1) % 40)) (side_place l b)

-- What lies at bit i of the whole frame, from 0.
abbrev pub lies_at : ℕ → Holds
lies_at i = lies (i / 80 + 1) (i % 80 + 1)

-- The place of bit b of a word among the 38 of a half, by its letter, A to D as 0 to 3.
abbrev pub column : ℕ → ℕ → ℕ
column letter b =
    cond (b == 5) (slice_index (32 ∷ 34 ∷ 35 ∷ 36 ∷ []) letter)
    (cond (b == 10) (slice_index (33 ∷ 0 ∷ 0 ∷ 37 ∷ []) letter)
    (cond (nat_lt b 5) (8 * (b - 1) + 2 * letter) (8 * (b - 6) + 2 * letter + 1)))

-- Group and bit of R1 to R12, of C1 to C5 of block 1 (those of block 2 lie four groups on), and of S and D.
abbrev pub range_places : List (ℕ × ℕ)
range_places = (1, 39) ∷ (2, 39) ∷ (3, 39) ∷ (4, 39) ∷ (5, 39) ∷ (6, 39) ∷ (7, 39) ∷ (8, 39) ∷ (2, 79) ∷ (4, 79) ∷ (6, 79) ∷ (8, 79) ∷ []

abbrev pub check_places : List (ℕ × ℕ)
check_places = (1, 40) ∷ (1, 79) ∷ (3, 40) ∷ (3, 79) ∷ (4, 40) ∷ []

abbrev pub service_places : List (ℕ × ℕ)
service_places = (2, 40) ∷ (6, 40) ∷ []

-- Where a bit lies: group and bit.
unfoldable pub place : Holds → ℕ × ℕ
place (sample_bit earlier block n b) = ((n - 1) / 4 + 1, 40 * ((n - 1) % 4 / 2) + column (2 * (earlier - 1) + (block - 1)) b + 1)
place (range_bit k) = slice_index_or range_places (k - 1) (0, 0)
place (check_bit block k) = (4 * (block - 1) + (slice_index_or check_places (k - 1) (0, 0)).0, (slice_index_or check_places (k - 1) (0, 0)).1)
place (service_bit k) = slice_index_or service_places (k - 1) (0, 0)
place (spare_bit l) = (l, 80)

-- The same as a bit of the whole frame, from 0.
abbrev pub index : Holds → ℕ
index h = 80 * ((place h).0 - 1) + ((place h).1 - 1)

-- What lies at a place and where a bit lies undo each other: at every place of a frame, and of every bit of a pair.
pub record PlacesUndoEachOther : Type 0 where
  pub places : (l b : ℕ) → 1 ≤ l → l ≤ 8 → 1 ≤ b → b ≤ 80 → place (lies l b) ≡ (l, b)
  pub samples : (block n b : ℕ) → IsBlock block → IsSample n → 1 ≤ b → b ≤ bits_of n → lies_at (index (travels block n b)) ≡ travels block n b
  pub ranges : (k : ℕ) → 1 ≤ k → k ≤ 12 → lies_at (index (range_bit k)) ≡ range_bit k
  pub checks : (block k : ℕ) → IsBlock block → 1 ≤ k → k ≤ 5 → lies_at (index (check_bit block k)) ≡ check_bit block k
