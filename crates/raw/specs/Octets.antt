-- A raw file: 16-bit numbers, each as two octets, the high one first.
use Rattle.std.specs.Prelude.{ℕ, ◌+◌, ◌*◌, ◌/◌, ◌%◌, List, [], ◌∷◌, map, slice_index}
use Rattle.std.specs.List.{range_with_len, flat_map}

-- Number i stands in the octets 2i and 2i + 1.
abbrev pub number_at : List ℕ → ℕ → ℕ
number_at octets i = 256 * slice_index octets (2 * i) + slice_index octets (2 * i + 1)

-- The 64 numbers of a pair.
abbrev pub numbers_in : List ℕ → List ℕ
numbers_in octets = map (number_at octets) (range_with_len 0 64)

-- The two octets of a number, and the octets of numbers, one number after the other.
abbrev pub octets_of : ℕ → List ℕ
octets_of n = n / 256 ∷ n % 256 ∷ []

abbrev pub octets_in : List ℕ → List ℕ
octets_in numbers = flat_map octets_of numbers
