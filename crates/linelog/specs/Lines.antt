-- The two lines that tell of a pair.
use Rattle.std.specs.Prelude.{ℕ, ◌+◌, Bool, true, false, List, [], ◌∷◌, ◌++◌, Some, None, codes, Option}
use Rattle.decoder.specs.Findings.{word_of, number_of}
use Rattle.reception.specs.Given.{BlockTold, Told}
use Rattle.linelog.specs.Text.{decimal, line}

-- How many samples of a block are sound.
abbrev pub sound_samples : List Bool → ℕ
sound_samples [] = 0
sound_samples (true ∷ marks) = 1 + sound_samples marks
sound_samples (false ∷ marks) = sound_samples marks

-- The basic and the additional range, a dash for each where there are none.
abbrev pub range_fields : Option (ℕ × ℕ) → List (List ℕ)
range_fields (Some ranges) = decimal ranges.0 ∷ decimal ranges.1 ∷ []
range_fields None = codes "-" ∷ codes "-" ∷ []

-- Which block it is, of which pair of which circuit.
abbrev pub block_fields : ℕ → ℕ → ℕ → List (List ℕ)
block_fields circuit pair block = decimal circuit ∷ decimal pair ∷ decimal block ∷ []

-- What was found, by its word and its number, and how many samples are sound.
abbrev pub finding_fields : BlockTold → List (List ℕ)
finding_fields told = word_of told.verdict ∷ decimal (number_of told.verdict) ∷ decimal (sound_samples told.marks) ∷ []

abbrev pub block_line : ℕ → ℕ → ℕ → BlockTold → List ℕ
block_line circuit pair block told = line (block_fields circuit pair block ++ (range_fields told.ranges ++ finding_fields told))

unfoldable pub lines : ℕ → ℕ → Told → List ℕ
lines circuit pair told = block_line circuit pair 1 told.first ++ block_line circuit pair 2 told.second
