-- The row of a pair's samples as the code has it: 64 of them, none too large for an outlet, and those of the definition.
use Rattle.std.proofs.Common.{◌≡◌, ℕ, ◌+◌, ◌^◌, ◌<◌, List, ◌++◌, length, get_or, ℤ, pos, sym, ap, ◌∙◌, subst, arith}
use lib.Signed.{mag}
use Rattle.std.proofs.lemmas.List.{length-append}
use Rattle.std.proofs.lemmas.List.FromFn.{length-map-range_with_len}
use Rattle.decoder.specs.declared.follower.Follower.{Follower}
use Rattle.decoder.specs.Samples.{Received, samples_of, sample_at, follower_of}
use Rattle.reception.specs.Given.{pair_samples}
use Rattle.reception.proofs.Joining.{holds_of_both}

all_of_a_block : (b : Received) (next : Follower) → length (samples_of b next) ≡ 32
unfolding samples_of
all_of_a_block b next = length-map-range_with_len (λ i. sample_at b next (i + 1)) 0 32

-- what the code has of one block: its follower and its samples
pub record BlockSampled (block next : Received) (follower : Follower) (samples : List ℤ) : Type 0 where
  pub followed : follower ≡ follower_of next
  pub value : samples ≡ samples_of block follower
  pub small : (k : ℕ) → mag (get_or samples k (pos 0)) < 2 ^ 13

module _ (block next : Received) (follower : Follower) (samples : List ℤ) (s : BlockSampled block next follower samples) where
  all_sampled : length samples ≡ 32
  all_sampled = ap length s.value ∙ all_of_a_block block follower

  same_sampled : samples ≡ samples_of block (follower_of next)
  same_sampled = s.value ∙ ap (samples_of block) s.followed

module _ (first second next : Received) (f g : Follower) (xs ys row : List ℤ) (a : BlockSampled first second f xs) (b : BlockSampled second next g ys) (joined : row ≡ xs ++ ys) where
  pub row_whole : length row ≡ 64
  row_whole = ap length joined ∙ length-append xs ys ∙ omega (arith, all_sampled first second f xs a, all_sampled second next g ys b)

  pub row_small : (k : ℕ) → mag (get_or row k (pos 0)) < 2 ^ 13
  row_small k =
      subst (λ (zs : List ℤ). mag (get_or zs k (pos 0)) < 2 ^ 13) (sym joined)
      (holds_of_both (λ v. mag v < 2 ^ 13) xs ys a.small b.small k)

  pub row_same : row ≡ pair_samples first second next
  row_same =
      let here = same_sampled first second f xs a in
      let there = same_sampled second next g ys b in
      cc
