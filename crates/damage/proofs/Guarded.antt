-- The 149 guarded bits of a block in a row: five of each odd sample, four of each even one, five checks.
use Rattle.std.proofs.Common.{◌≡◌, ℕ, ◌+◌, ◌-◌, ◌*◌, ◌/◌, ◌%◌, true, false, cond, ltb, map, refl, arith}
use Rattle.std.specs.List.{range_with_len}
use Rattle.guards.specs.Parities.{fronts}
use Rattle.frames.specs.Places.{Holds, range_bit, check_bit, IsBlock, IsSample, travels, place}
use Rattle.guards.specs.Counts.{same_at}
use Rattle.damage.proofs.Hits.{spread_test, Spread, spread_by_test}

abbrev pub in_row : {X : Type 0} → (ℕ → ℕ → X) → (ℕ → X) → ℕ → X
in_row h c x =
    cond (ltb x 80) (h (2 * (x / 5) + 1) (x % 5 + 1))
    (cond (ltb x 144) (h (2 * ((x - 80) / 4) + 2) ((x - 80) % 4 + 1)) (c (x - 144 + 1)))

abbrev pub guarded : ℕ → ℕ → Holds
guarded block = in_row (travels block) (check_bit block)

guarded_tests : map (λ block. spread_test (guarded block) 149) (range_with_len 1 2) ≡ map (λ _. true) (range_with_len 1 2)
unfolding place
guarded_tests = refl

pub guarded_spread : (block : ℕ) → IsBlock block → Spread (guarded block) 149
guarded_spread block i =
    spread_by_test (guarded block) 149 (same_at (λ block. spread_test (guarded block) 149) (λ _. true) 1 2 guarded_tests block i.from (omega (arith, i.upto)))

-- not so for all ten bits of a sample
ten_bits : spread_test (λ t. travels 1 1 (t + 1)) 10 ≡ false
unfolding place
ten_bits = refl

-- R1 to R12
range_test : spread_test (λ t. range_bit (t + 1)) 12 ≡ true
unfolding place
range_test = refl

pub range_spread : Spread (λ t. range_bit (t + 1)) 12
range_spread = spread_by_test (λ t. range_bit (t + 1)) 12 range_test

-- the guarded bits at the front of a sample's word, and the five after them
abbrev pub behind : ℕ → ℕ → ℕ → Holds
behind block n t = travels block n (fronts n + t + 1)

behind_tests : map (λ block. map (λ n. spread_test (behind block n) 5) (range_with_len 1 32)) (range_with_len 1 2) ≡ map (λ _. map (λ _. true) (range_with_len 1 32)) (range_with_len 1 2)
unfolding place
behind_tests = refl

pub behind_spread : (block n : ℕ) → IsBlock block → IsSample n → Spread (behind block n) 5
behind_spread block n i s =
    spread_by_test (behind block n) 5
    (same_at (λ n. spread_test (behind block n) 5) (λ _. true) 1 32
    (same_at (λ block. map (λ n. spread_test (behind block n) 5) (range_with_len 1 32)) (λ _. map (λ _. true) (range_with_len 1 32)) 1 2 behind_tests block i.from (omega (arith, i.upto)))
    n s.from (omega (arith, s.upto)))
