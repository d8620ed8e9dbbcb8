-- Check codes. A code of n positions, counted from 1, gives each set of positions its syndrome.
-- A set is a number of n bits, position 1 the highest; the sum modulo 2 of two sets is `bit_xor`.
use Rattle.std.specs.Prelude.{◌≡◌, ℕ, ◌-◌, ◌^◌, ◌≤◌, ◌≢◌, bit_xor}

-- The set that holds position k alone.
abbrev pub alone : ℕ → ℕ → ℕ
alone n k = 2 ^ (n - k)

-- k is one of n positions.
pub record Position (n k : ℕ) : Type 0 where
  pub from : 1 ≤ k
  pub upto : k ≤ n

-- The law: the syndrome of a sum is the sum of the syndromes, and single positions have different syndromes, none of them zero.
pub record Code (n : ℕ) (syndrome : ℕ → ℕ) : Type 0 where
  pub few : n ≤ 32
  pub sums : (a b : ℕ) → syndrome (bit_xor a b) ≡ bit_xor (syndrome a) (syndrome b)
  pub apart : (j k : ℕ) → Position n j → Position n k → syndrome (alone n j) ≡ syndrome (alone n k) → j ≡ k
  pub heard : (k : ℕ) → Position n k → syndrome (alone n k) ≢ 0
