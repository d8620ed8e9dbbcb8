-- What crosses the border, by the octets of a pair on both sides.
use Rattle.std.specs.Prelude.{ℕ, List, map, replicate, ℤ, pos}
use Rattle.std.specs.Int.{w16, cast_signed, cast_unsigned}
use Rattle.raw.specs.Octets.{numbers_in, octets_in}
use Rattle.words.specs.Answers.{Answer}
use Rattle.words.specs.Lists.{making_all, reading_all}
use Rattle.words.specs.Meaning.{middle}
use Rattle.words.specs.VariantB.{variant_b, gate_word}
use Rattle.j41gate.specs.declared.crossing.Direction.{Direction}
use Rattle.j41gate.specs.declared.crossing.Direction.TheVariants.{Encode, Decode}

-- Samples are signed numbers of 16 bits, words unsigned ones.
abbrev pub samples_in : List ℕ → List ℤ
samples_in octets = map (cast_signed w16) (numbers_in octets)

abbrev pub sample_octets : List ℤ → List ℕ
sample_octets samples = octets_in (map (cast_unsigned w16) samples)

-- Whether the pair crosses, or why not.
abbrev pub crossing : Direction → List ℕ → Answer (Unit {0})
crossing Encode octets = making_all variant_b (samples_in octets) 64
crossing Decode octets = reading_all variant_b (numbers_in octets) 64

-- The pair on the other side.
abbrev pub crossed : Direction → List ℕ → List ℕ
crossed Encode octets = octets_in (map gate_word (samples_in octets))
crossed Decode octets = sample_octets (map (middle variant_b) (numbers_in octets))

-- A silent pair on the other side.
abbrev pub silence : Direction → List ℕ
silence Encode = octets_in (replicate 64 (gate_word (pos 0)))
silence Decode = sample_octets (replicate 64 (pos 0))
