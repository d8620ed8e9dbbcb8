-- Text as octets: decimal numbers, fields one space apart, lines.
use Rattle.std.specs.Prelude.{ℕ, zero, suc, ◌+◌, ◌/◌, ◌%◌, cond, List, [], ◌∷◌, ◌++◌, nat_lt}

-- The digits of a number, with no leading zeros; for numbers of so many digits at most.
unfoldable pub digits : ℕ → ℕ → List ℕ
digits zero n = []
digits (suc k) n = cond (nat_lt n 10) ((48 + n) ∷ []) (digits k (n / 10) ++ ((48 + n % 10) ∷ []))

-- No number of 64 bits has more than 20 digits.
abbrev pub decimal : ℕ → List ℕ
decimal n = digits 20 n

-- A space between one field and the next.
abbrev pub joined : List (List ℕ) → List ℕ
joined [] = []
joined (field ∷ []) = field
joined (field ∷ next ∷ fields) = field ++ 32 ∷ joined (next ∷ fields)

-- A line ends with octet 10.
abbrev pub line : List (List ℕ) → List ℕ
line fields = joined fields ++ 10 ∷ []
