-- The two ranges of a block. Its 32 samples and the follower stand as 33 values: value k, from 0, is sample k + 1.
use Rattle.std.specs.Prelude.{ℕ, zero, suc, ◌+◌, ◌*◌, ◌^◌, ◌<◌, ◌≤◌, Bool, true, cond, ◌&&◌, List, [], ◌∷◌, map, ℤ, pos, ◌-ℤ◌, ◌*ℤ◌, nat_lt, slice_index_or}
use Rattle.std.specs.Int.Signed.{mag}
use Rattle.std.specs.List.{range_with_len, All}

-- A law whose range 0 holds the values from -half to half - 1 holds at range r those from -half * 2^r to half * 2^r - 1.
-- (`mag v` is v, or -1 - v of a negative v.)
abbrev pub Holds : ℕ → ℕ → List ℤ → Type 0
Holds half r values = All (λ v. mag v < half * 2 ^ r) values

-- The smallest range that holds all of them.
pub record Smallest (half r : ℕ) (values : List ℤ) : Type 0 where
  pub holds : Holds half r values
  pub least : (k : ℕ) → k < r → Holds half k values → ⊥

-- The difference at an even sample, in half units, of it and its neighbours.
abbrev pub difference : ℤ → ℤ → ℤ → ℤ
difference before here after = ((pos 2 *ℤ here) -ℤ before) -ℤ after

-- The difference at sample 2k + 2; at sample 32 the follower is its neighbour.
abbrev pub difference_at : List ℤ → ℕ → ℤ
difference_at samples k = difference (slice_index_or samples (2 * k) (pos 0)) (slice_index_or samples (2 * k + 1) (pos 0)) (slice_index_or samples (2 * k + 2) (pos 0))

-- All sixteen.
unfoldable pub differences : List ℤ → List ℤ
differences samples = map (difference_at samples) (range_with_len 0 16)

-- Both ranges of a block: r is the smallest basic range that holds the samples and the follower, a the smallest additional
-- range that holds the differences. Additional range 0 holds from -512 * 2^r to 512 * 2^r - 1.
pub record Ranged (samples : List ℤ) (r a : ℕ) : Type 0 where
  pub basic : Smallest 512 r samples
  pub additional : Smallest (512 * 2 ^ r) a (differences samples)
  pub basic_bound : r ≤ 4
  pub additional_bound : a ≤ 2

-- The same ranges as numbers: the first that holds, of 0 up to the top one.
abbrev pub all_below : ℕ → List ℤ → Bool
all_below limit [] = true
all_below limit (v ∷ vs) = nat_lt (mag v) limit && all_below limit vs

-- The first range from r on that holds, of n more at the most.
abbrev pub first_range : ℕ → List ℤ → ℕ → ℕ → ℕ
first_range half values r zero = r
first_range half values r (suc n) = cond (all_below (half * 2 ^ r) values) r (first_range half values (r + 1) n)

unfoldable pub basic_range : List ℤ → ℕ
basic_range samples = first_range 512 samples 0 4

unfoldable pub additional_range : List ℤ → ℕ
additional_range samples = first_range (512 * 2 ^ basic_range samples) (differences samples) 0 2
