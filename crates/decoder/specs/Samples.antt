-- The levels and samples of a received block. Samples count from 1 to 32, and the follower, the first sample of the next block,
-- counts as 33.
use Rattle.std.specs.Prelude.{ℕ, ◌+◌, ◌-◌, ◌%◌, cond, List, [], ◌∷◌, map, slice_index_or, ℤ, pos, ◌+ℤ◌, ◌==◌}
use Rattle.std.specs.List.{range_with_len}
use Rattle.guards.specs.Words.{by_sample}
use Rattle.decoder.specs.declared.follower.Follower.{Follower}
use Rattle.decoder.specs.declared.follower.Follower.TheVariants.{Muted, Concealed, Sound}
use Rattle.decoder.specs.Findings.{Finding, mutes, conceals}
use Rattle.decoder.specs.Levels.{code_of, level, mean, sample}

-- A block as the receiver has it: what is found of it, its ranges, and the words of its odd and even samples.
pub record Received : Type 0 where
  pub found : Finding
  pub basic : ℕ
  pub additional : ℕ
  pub odd_words : List ℕ
  pub even_words : List ℕ

-- The code that arrived for a sample: odd samples have 512 codes of each sign, even ones 256.
abbrev pub code_at : Received → ℕ → ℤ
code_at b n = code_of (cond (n % 2 == 1) 512 256) (by_sample b.odd_words b.even_words n)

-- The level of an odd sample as it arrived.
abbrev pub plain : Received → ℕ → ℤ
plain b n = level b.basic (code_at b n)

-- In the place of a concealed odd sample stands the mean of its two nearest odd samples in the block; the first and the last
-- have one.
abbrev pub stand_in : (ℕ → ℤ) → ℕ → ℤ
stand_in at n = cond (n == 1) (at 3) (cond (n == 31) (at 29) (mean (at (n - 2)) (at (n + 2))))

abbrev pub odd_level : Received → ℕ → ℤ
odd_level b n = cond (conceals b.found n) (stand_in (plain b) n) (plain b n)

-- What the word of an even sample adds: nothing where it is concealed.
abbrev pub share : Received → ℕ → ℤ
share b n = cond (conceals b.found n) (pos 0) (level (b.basic + b.additional) (code_at b n))

-- The level after the block: the follower's, concealed or not, or where the next block is muted the block's own last one.
abbrev pub after : Follower → ℤ → ℤ
after Muted own = own
after (Concealed l) own = l
after (Sound l) own = l

abbrev pub side : Received → Follower → ℕ → ℤ
side b next n = cond (n == 33) (after next (odd_level b 31)) (odd_level b n)

-- An even sample's level is its share and the mean of the levels on both sides.
abbrev pub level_at : Received → Follower → ℕ → ℤ
level_at b next n = cond (n % 2 == 1) (odd_level b n) (share b n +ℤ mean (side b next (n - 1)) (side b next (n + 1)))

abbrev pub sample_at : Received → Follower → ℕ → ℤ
sample_at b next n = cond (mutes b.found) (pos 0) (sample (level_at b next n))

-- The samples 2k + 1 and 2k + 2, from the levels on the sides of the even samples and from the shares of these.
abbrev pub pair_of : List ℤ → List ℤ → ℕ → List ℤ
pair_of sides shares k =
    sample (slice_index_or sides k (pos 0)) ∷ sample (slice_index_or shares k (pos 0) +ℤ mean (slice_index_or sides k (pos 0)) (slice_index_or sides (k + 1) (pos 0))) ∷ []

unfoldable pub samples_of : Received → Follower → List ℤ
samples_of b next = map (λ i. sample_at b next (i + 1)) (range_with_len 0 32)

-- What the block before this one needs to know of it.
abbrev pub follower_of : Received → Follower
follower_of b =
    cond (mutes b.found) Muted (cond (conceals b.found 1) (Concealed (odd_level b 1)) (Sound (odd_level b 1)))
