-- The greatest magnitude of some values.
use Rattle.std.specs.Prelude.{◌≡◌, ℕ, ◌<◌, ◌≤◌, ◌⊎◌, List, length, ℤ, pos, slice_index_or}
use Rattle.std.specs.Int.Signed.{mag}

pub record Peak (values : List ℤ) (m : ℕ) : Type 0 where
  pub bound : (k : ℕ) → k < length values → mag (slice_index_or values k (pos 0)) ≤ m
  pub reached : (m ≡ 0) ⊎ ((k : ℕ) × (k < length values) × (mag (slice_index_or values k (pos 0)) ≡ m))
