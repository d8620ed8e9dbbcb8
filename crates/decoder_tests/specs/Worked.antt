-- Values worked by hand, against the definitions.
use Rattle.std.specs.Prelude.{◌≡◌, ℕ, List, [], ◌∷◌, map, replicate, ℤ, pos, negsuc, ◌+ℤ◌, bit_xor}
use Rattle.words.specs.Signed.{basic, additional}
use Rattle.words.specs.VariantB.{variant_b}
use Rattle.guards.specs.Codes.{alone}
use Rattle.guards.specs.Division.{guard_syndrome}
use Rattle.guards.specs.Located.{located}
use Rattle.guards.specs.Mended.{range_found, mended}
use Rattle.guards.specs.Parities.{guard_of}
use Rattle.guards.specs.RangeCodes.{range_code}
use Rattle.guards.specs.RangeWord.{range_word}
use Rattle.blocks.specs.Ranges.{difference, basic_range, additional_range}
use Rattle.decoder.specs.Findings.{mute}
use Rattle.decoder.specs.Levels.{code_of, level, mean, sample}
use Rattle.decoder.specs.Verdicts.{by_guards}

-- The basic range of 33 times one value, and the additional range where silence follows on three samples.
abbrev pub range_of : ℤ → ℕ
range_of v = basic_range (replicate 33 v)

abbrev pub widest_of : ℤ → ℤ → ℤ → ℕ
widest_of x y z = additional_range (x ∷ y ∷ z ∷ replicate 30 (pos 0))

-- The range word of silence, and the same with some of R1 to R12 flipped.
abbrev pub silent : ℕ
silent = range_word (range_code 0 0) (range_code 0 0)

abbrev pub flipped : List ℕ → ℕ → ℕ
flipped [] word = word
flipped (k ∷ ks) word = flipped ks (bit_xor word (alone 12 k))

-- The code that the word of a sample carries at the basic range 4, and that of a difference at the additional range 2 there.
abbrev pub basic_code : ℤ → ℤ
basic_code v = code_of 512 ((basic 4).word v)

abbrev pub additional_code : ℤ → ℤ
additional_code d = code_of 256 ((additional 4 2).word d)

-- What an odd sample returns as, and the level of an even one between two others.
abbrev pub returned : ℤ → ℤ
returned v = sample (level 4 (basic_code v))

abbrev pub between : ℤ → ℤ → ℤ → ℤ
between before here after =
    level 6 (additional_code (difference before here after)) +ℤ mean (level 4 (basic_code before)) (level 4 (basic_code after))

-- Two samples of a block hurt at once, in their guarded bits.
abbrev pub both_hurt : ℕ → ℕ → ℕ
both_hurt m n = guard_syndrome (bit_xor (alone 29 (guard_of m)) (alone 29 (guard_of n)))

pub record Worked : Type 0 where
  -- 511, 512, -512, -513 and 8191
  pub ranges : map range_of (pos 511 ∷ pos 512 ∷ negsuc 511 ∷ negsuc 512 ∷ pos 8191 ∷ []) ≡ 0 ∷ 1 ∷ 0 ∷ 1 ∷ 4 ∷ []
  -- at range 0 the differences 511, 512 and 1024
  pub differences : difference (pos 1) (pos 256) (pos 0) ∷ difference (pos 0) (pos 256) (pos 0) ∷ difference (negsuc 0) (pos 511) (negsuc 0) ∷ [] ≡ pos 511 ∷ pos 512 ∷ pos 1024 ∷ []
  pub additional_ranges : widest_of (pos 1) (pos 256) (pos 0) ∷ widest_of (pos 0) (pos 256) (pos 0) ∷ widest_of (negsuc 0) (pos 511) (negsuc 0) ∷ [] ≡ 0 ∷ 1 ∷ 2 ∷ []
  -- 8191, -1 and -8192
  pub codes : map basic_code (pos 8191 ∷ negsuc 0 ∷ negsuc 8191 ∷ []) ≡ pos 511 ∷ negsuc 0 ∷ negsuc 511 ∷ []
  pub odd : map returned (pos 8191 ∷ negsuc 0 ∷ negsuc 8191 ∷ []) ≡ pos 8183 ∷ negsuc 8 ∷ negsuc 8184 ∷ []
  -- -8192 between 8191 and 8191: the difference is -32766, its code -256, and -8169 returns
  pub widest : difference (pos 8191) (negsuc 8191) (pos 8191) ≡ negsuc 32765
  pub widest_code : additional_code (negsuc 32765) ≡ negsuc 255
  pub middle : sample (between (pos 8191) (negsuc 8191) (pos 8191)) ≡ negsuc 8168
  -- three times 8191: the level of the middle one is above all samples
  pub loud : between (pos 8191) (pos 8191) (pos 8191) ≡ pos 32864
  pub held : sample (pos 32864) ≡ pos 8191
  -- samples 1 and 27
  pub hurt : both_hurt 1 27 ≡ 9
  pub muted : by_guards (located 29 guard_syndrome 9) ≡ mute 4
  -- silence: its range word, with R4 flipped, and with R1 and R12
  pub silence : silent ≡ 0b1110_1110_1000
  pub corrected : mended (flipped (4 ∷ []) silent) ≡ silent
  pub beyond : range_found (flipped (1 ∷ 12 ∷ []) silent) ≡ (2, 0)
  -- variant B: 0, 4095, 8191 and -8192
  pub gate : map variant_b.word (pos 0 ∷ pos 4095 ∷ pos 8191 ∷ negsuc 8191 ∷ []) ≡ 0b0001_0000_0001 ∷ 0b0110_1111_1111 ∷ 0b0111_1111_1110 ∷ 0b1111_1111_1111 ∷ []
