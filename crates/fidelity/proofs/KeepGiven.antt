-- A pair given, sample by sample: the mark tells whether it is sound, and the cell of its word holds it.
use Rattle.std.proofs.Common.{◌≡◌, ℕ, ◌+◌, ◌-◌, ◌<◌, Bool, false, List, ◌++◌, map, length, get_or, ℤ, pos, negsuc, ◌≤ℤ◌, sym, ap, ◌∙◌, subst, arith, length-append}
use Rattle.std.proofs.lemmas.List.FromFn.{get_or-map-range_with_len, length-map-range_with_len}
use Rattle.std.proofs.lemmas.List.{get_or-map, get_or_append_left, get_or-append_right}
use Rattle.std.proofs.lemmas.Int.{ints, clamps}
use Rattle.std.proofs.lemmas.Bool.{cond_both}
use Rattle.words.specs.Meaning.{Meaning, Inside, InCell, CellRule, Wide}
use Rattle.frames.specs.Places.{IsSample}
use Rattle.decoder.specs.declared.follower.Follower.{Follower}
use Rattle.decoder.specs.Findings.{Finding, mutes}
use Rattle.decoder.specs.Levels.{sample}
use Rattle.decoder.specs.Samples.{Received, level_at, sample_at, samples_of}
use Rattle.decoder.specs.Marks.{sound, marks_of}
use Rattle.closeness.specs.Codes.{value}
use Rattle.fidelity.specs.Kept.{place_of}

pub mark_is : (found : Finding) (follower : Bool) (n : ℕ) → IsSample n → get_or (marks_of found follower) (n - 1) false ≡ sound found follower n
unfolding marks_of
mark_is found follower n is =
    let place : n - 1 + 1 ≡ n = omega (arith, is.from) in
    get_or-map-range_with_len (λ i. sound found follower (i + 1)) 0 32 (n - 1) (n - 1) false (omega (arith, is.from, is.upto)) (omega arith) ∙ ap (sound found follower) place

-- the words of two blocks of 32 samples each
module _ (word : ℤ → ℕ) (xs ys : List ℤ) (all_x : length xs ≡ 32) (all_y : length ys ≡ 32) (n : ℕ) (is : IsSample n) where
  place_in : (k : ℕ) → k < 64 → get_or (map word (xs ++ ys)) k 0 ≡ word (get_or (xs ++ ys) k (pos 0))
  place_in k h = get_or-map word (xs ++ ys) k (pos 0) 0 (omega (arith, length-append xs ys, all_x, all_y))

  pub first_word : get_or (map word (xs ++ ys)) (place_of 1 n) 0 ≡ word (value xs n)
  first_word =
      let place : place_of 1 n ≡ n - 1 = omega arith in
      ap (λ k. get_or (map word (xs ++ ys)) k 0) place
      ∙ place_in (n - 1) (omega (arith, is.upto)) ∙ ap word (get_or_append_left xs ys (pos 0) (n - 1) (omega (arith, all_x, is.from, is.upto)))

  pub second_word : get_or (map word (xs ++ ys)) (place_of 2 n) 0 ≡ word (value ys n)
  second_word =
      let place : place_of 2 n - 32 ≡ n - 1 = omega arith in
      place_in (place_of 2 n) (omega (arith, is.upto))
      ∙ ap word (get_or-append_right xs ys 32 (place_of 2 n) (pos 0) all_x (omega arith) ∙ ap (λ k. get_or ys k (pos 0)) place)

module _ (b : Received) (next : Follower) where
  pub all_samples : length (samples_of b next) ≡ 32
  unfolding samples_of
  all_samples = length-map-range_with_len (λ i. sample_at b next (i + 1)) 0 32

  sample_is : (n : ℕ) → IsSample n → value (samples_of b next) n ≡ sample_at b next (n - 1 + 1)
  unfolding samples_of
  sample_is n is = get_or-map-range_with_len (λ i. sample_at b next (i + 1)) 0 32 (n - 1) (n - 1) (pos 0) (omega (arith, is.from, is.upto)) (omega arith)

  module _ (outlet : Meaning) (rule : CellRule outlet) (wide : Wide outlet) where
    held_inside : (y : ℤ) → negsuc 8191 ≤ℤ y → y ≤ℤ pos 8191 → Inside outlet y
    held_inside y low high = record { above = omega (arith, ints, wide.low); below = omega (arith, ints, wide.high) }

    pub in_cell : (n : ℕ) → IsSample n → InCell outlet (outlet.word (value (samples_of b next) n)) (value (samples_of b next) n)
    in_cell n is = rule.lies (value (samples_of b next) n) (subst (Inside outlet) (sym (sample_is n is))
        (cond_both (mutes b.found) (pos 0) (sample (level_at b next (n - 1 + 1))) (Inside outlet)
        (λ _. held_inside (pos 0) (omega (arith, ints)) (omega (arith, ints)))
        (λ _. held_inside (sample (level_at b next (n - 1 + 1))) (omega (arith, ints, clamps)) (omega (arith, ints, clamps)))))
