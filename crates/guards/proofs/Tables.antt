-- The tables of codes and of ranges keep their rule, each by one test over the whole table.
use Rattle.std.proofs.Common.{◌≡◌, ℕ, ◌<◌, ◌≤◌, Bool, true, eqb, List, [], ◌∷◌, get_or, refl, arith}
use Rattle.std.proofs.lemmas.Bool.{eqb-true}
use Rattle.guards.specs.RangeCodes.{range_code}
use Rattle.guards.specs.Counts.{below, each}

-- A code for each additional and basic range.
abbrev pub codes : List (List ℕ)
codes = (14 ∷ 13 ∷ 12 ∷ 11 ∷ 10 ∷ []) ∷ (9 ∷ 8 ∷ 7 ∷ 6 ∷ 5 ∷ []) ∷ (4 ∷ 3 ∷ 2 ∷ 1 ∷ 0 ∷ []) ∷ []

abbrev code_test : ℕ → ℕ → Bool
code_test a b = eqb (get_or (get_or codes a []) b 0) (range_code b a)

codes_test : below (λ a. below (code_test a) 5) 3 ≡ true
codes_test = refl

pub code_at : (a b : ℕ) → a ≤ 2 → b ≤ 4 → get_or (get_or codes a []) b 0 ≡ range_code b a
code_at a b h k = eqb-true _ _ (each (code_test a) 5 (each (λ a. below (code_test a) 5) 3 codes_test a (omega arith)) b (omega arith))

-- The ranges of each code.
abbrev pub ranges : List (List ℕ)
ranges =
    (4 ∷ 2 ∷ []) ∷ (3 ∷ 2 ∷ []) ∷ (2 ∷ 2 ∷ []) ∷ (1 ∷ 2 ∷ []) ∷ (0 ∷ 2 ∷ []) ∷ (4 ∷ 1 ∷ []) ∷ (3 ∷ 1 ∷ []) ∷ (2 ∷ 1 ∷ []) ∷ (1 ∷ 1 ∷ []) ∷ (0 ∷ 1 ∷ []) ∷ (4 ∷ 0 ∷ []) ∷ (3 ∷ 0 ∷ []) ∷ (2 ∷ 0 ∷ []) ∷ (1 ∷ 0 ∷ []) ∷ (0 ∷ 0 ∷ []) ∷ []

abbrev ranges_test : ℕ → Bool
ranges_test c = eqb (range_code (get_or (get_or ranges c []) 0 0) (get_or (get_or ranges c []) 1 0)) c

all_ranges : below ranges_test 15 ≡ true
all_ranges = refl

pub ranges_at : (c : ℕ) → c < 15 → range_code (get_or (get_or ranges c []) 0 0) (get_or (get_or ranges c []) 1 0) ≡ c
ranges_at c h = eqb-true _ _ (each ranges_test 15 all_ranges c h)

-- Ranges within bounds have codes of their own.
pub same_code : (b a b' a' : ℕ) → b ≤ 4 → b' ≤ 4 → a ≤ 2 → a' ≤ 2 → range_code b a ≡ range_code b' a' → (b ≡ b') × (a ≡ a')
same_code b a b' a' h h' k k' e = (omega arith, omega arith)
