-- What a locator answers to a syndrome, over any check code.
use Rattle.std.specs.Prelude.{◌≡◌, ℕ, cond, ◌==◌, ◌≢◌, bit_xor}
use Rattle.guards.specs.Bits.{total}
use Rattle.guards.specs.Codes.{alone, Position}
use Rattle.guards.specs.declared.locator.Found.{Found}
use Rattle.guards.specs.declared.locator.Found.TheVariants.{Clean, At, Nowhere}

-- An answer's number and its position, 0 where it has none: 0 clean, 1 at a position, 2 nowhere.
abbrev pub outcome : Found → ℕ × ℕ
outcome Clean = (0, 0)
outcome (At k) = (1, k)
outcome Nowhere = (2, 0)

-- The position that has the syndrome s by itself, 0 where none has: a sum over all positions, of which at most one counts.
abbrev pub position_of : ℕ → (ℕ → ℕ) → ℕ → ℕ
position_of n syndrome s = total (λ k. cond (syndrome (alone n k) == s) k 0) 1 n

-- Clean for zero, the one position that has the syndrome, else nowhere.
abbrev pub located : ℕ → (ℕ → ℕ) → ℕ → ℕ × ℕ
located n syndrome s =
    cond (s == 0) (0, 0) (cond (position_of n syndrome s == 0) (2, 0) (1, position_of n syndrome s))

-- Where a set of syndrome zero is sent and position k is flipped, the answer is position k.
abbrev pub OneFlipped : ℕ → (ℕ → ℕ) → ℕ → Found → Type 0
OneFlipped n syndrome s found =
    (sent k : ℕ) → Position n k → syndrome sent ≡ 0 → s ≡ syndrome (bit_xor sent (alone n k)) → found ≡ At k

-- What each answer means.
abbrev pub Means : ℕ → (ℕ → ℕ) → ℕ → Found → Type 0
Means n syndrome s Clean = s ≡ 0
Means n syndrome s (At k) = Position n k × (syndrome (alone n k) ≡ s)
Means n syndrome s Nowhere = (s ≢ 0) × ((k : ℕ) → Position n k → syndrome (alone n k) ≢ s)
