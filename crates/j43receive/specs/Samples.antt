-- Samples from words of the linear law, and their octets in a raw file.
use Rattle.std.specs.Prelude.{ℕ, cond, List, map, ℤ, pos, ◌==◌}
use Rattle.std.specs.Int.{w16, cast_unsigned}
use Rattle.raw.specs.Octets.{octets_in}
use Rattle.words.specs.Linear.{linear}
use Rattle.words.specs.Meaning.{middle}

-- What a word is read as; silence for a word of no value.
abbrev pub sample_of : ℕ → ℤ
sample_of w = cond (linear.refusal w == 0) (middle linear w) (pos 0)

abbrev pub sample_octets : List ℤ → List ℕ
sample_octets samples = octets_in (map (cast_unsigned w16) samples)
