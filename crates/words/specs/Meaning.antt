-- What a word law means, as one value, and what each law owes of it.
use Rattle.std.specs.Prelude.{◌≡◌, ℕ, ◌-◌, ◌/◌, ◌^◌, ◌<◌, ◌≤◌, Bool, ◌&&◌, ℤ, pos, negsuc, ◌+ℤ◌, ◌≤ℤ◌, ◌<ℤ◌, ◌≢◌, int_le}

-- A law: its word length, its values, the word of each value, and of each word the cell (its lowest value and its width)
-- or the number by which reading it is refused.
pub record Meaning : Type 0 where
  pub bits : ℕ
  pub lowest : ℤ
  pub highest : ℤ
  pub word : ℤ → ℕ
  pub low : ℕ → ℤ
  pub width : ℕ → ℕ
  -- 0 for a word of some value
  pub refusal : ℕ → ℕ

-- v is one of the law's values.
pub record Inside (m : Meaning) (v : ℤ) : Type 0 where
  pub above : m.lowest ≤ℤ v
  pub below : v ≤ℤ m.highest

-- v lies in the cell of the word w.
pub record InCell (m : Meaning) (w : ℕ) (v : ℤ) : Type 0 where
  pub from : m.low w ≤ℤ v
  pub upto : v <ℤ (m.low w +ℤ pos (m.width w))

-- The cell rule, with the bounds on words: what whoever writes a law has to show.
pub record CellRule (m : Meaning) : Type 0 where
  -- a word has at most 16 bits
  pub few : m.bits ≤ 16
  -- each value lies in the cell of its word
  pub lies : (v : ℤ) → Inside m v → InCell m (m.word v) v
  -- every value in the cell of a word has that word
  pub back : (v : ℤ) (w : ℕ) → m.refusal w ≡ 0 → InCell m w v → m.word v ≡ w
  -- and is one of the law's values
  pub within : (v : ℤ) (w : ℕ) → m.refusal w ≡ 0 → InCell m w v → Inside m v
  -- words fit the word length
  pub short : (v : ℤ) → Inside m v → m.word v < 2 ^ m.bits
  -- the word of a value is read
  pub read : (v : ℤ) → Inside m v → m.refusal (m.word v) ≡ 0
  -- a word that is read belongs to some value: the first of its cell
  pub held : (w : ℕ) → m.refusal w ≡ 0 → Inside m (m.low w) × InCell m w (m.low w)
  -- a word of no value is refused by 7, 8 or 9
  pub named : (w : ℕ) → (m.refusal w ≢ 0) → (7 ≤ m.refusal w) × (m.refusal w ≤ 9)

-- An outlet: the law has every sample among its values.
pub record Wide (m : Meaning) : Type 0 where
  pub low : m.lowest ≤ℤ negsuc 8191
  pub high : pos 8191 ≤ℤ m.highest

-- Whether v is one of the law's values.
abbrev pub inside : Meaning → ℤ → Bool
inside m v = int_le m.lowest v && int_le v m.highest

-- What a word is read as: the middle of its cell, rounded down.
abbrev pub middle : Meaning → ℕ → ℤ
middle m w = m.low w +ℤ pos ((m.width w - 1) / 2)
