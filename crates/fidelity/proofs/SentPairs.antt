-- A pair as it is sent: its blocks are blocks of samples, it carries their words, checks and range codes, all within their lengths.
use Rattle.std.proofs.Common.{◌≡◌, ℕ, ◌+◌, ◌^◌, ◌<◌, Bool, true, false, cond, eqb, List, ◌++◌, get_or, ℤ, pos, sym, refl, subst, arith}
use lib.Signed.{mag}
use Rattle.std.specs.List.{AllByRecursion}
use Rattle.std.proofs.ByRecursion.{All-get_or, All-from_get_or, All-append}
use Rattle.std.proofs.lemmas.List.FromFn.{get_or-map-range_with_len, length-map-range_with_len}
use Rattle.std.proofs.lemmas.Bool.{cond_both}
use Rattle.guards.specs.Division.{checks_of}
use Rattle.guards.specs.Parities.{bits_of, parities}
use Rattle.guards.specs.RangeCodes.{range_code}
use Rattle.guards.specs.RangeWord.{range_word}
use Rattle.guards.specs.Laws.{range_word_sent}
use Rattle.guards.proofs.Guarding.{checks_below}
use Rattle.blocks.specs.Ranges.{basic_range, additional_range}
use Rattle.blocks.specs.Coding.{coded}
use Rattle.frames.specs.Frame.{WellCoded}
use Rattle.pairs.specs.Sending.{IsPair, block_from, first_block, second_block, words_of, sent_pair, codes_of}
use Rattle.pairs.proofs.Placed.{everywhere}
use Rattle.fidelity.specs.Kept.{block_put}
use Rattle.fidelity.proofs.SentBlocks.{Samples, word_sent}

abbrev Small : ℤ → Type 0
Small v = mag v < 2 ^ 13

from_samples : (values : List ℤ) (place : ℕ) → AllByRecursion Small values → Samples (block_from values place)
unfolding block_from
from_samples values place all =
    let at = λ (k : ℕ). get_or values (place + k) (pos 0) in
    let small : (k : ℕ) → Small (get_or values k (pos 0)) = everywhere Small values (pos 0) (omega arith) (λ k h. All-get_or Small values k (pos 0) h all) in
    record {
      all = length-map-range_with_len at 0 33;
      bounded = everywhere Small (block_from values place) (pos 0) (omega arith) (λ k h.
          subst Small (sym (get_or-map-range_with_len at 0 33 k k (pos 0) (omega (arith, length-map-range_with_len at 0 33)) (omega arith))) (small (place + k)));
    }

pair_samples : (values : List ℤ) → IsPair values → AllByRecursion Small values
pair_samples values p = All-from_get_or Small values (pos 0) p.bounded

-- the range code of a block
abbrev pub code_for : List ℤ → ℕ
code_for put = range_code (basic_range put) (additional_range put)

-- words and checks of one of two blocks
words_by : (first : Bool) (x y : List ℤ) → (λ n. cond first (words_of (coded x) n) (words_of (coded y) n)) ≡ words_of (coded (cond first x y))
words_by true x y = refl
words_by false x y = refl

checks_by : (first : Bool) (x y : List ℤ)
    → cond first (checks_of (parities (words_of (coded x)))) (checks_of (parities (words_of (coded y)))) ≡ checks_of (parities (words_of (coded (cond first x y))))
checks_by true x y = refl
checks_by false x y = refl

module _ (pairs : ℕ → List ℤ) (M : ℕ) where
  -- what pair M carries of a block
  pub words_sent : (block : ℕ) → (codes_of pairs M).word block ≡ words_of (coded (block_put pairs M block))
  unfolding sent_pair
  words_sent block = words_by (eqb block 1) (first_block (pairs M)) (second_block (pairs M) (pairs (M + 1)))

  pub checks_sent : (block : ℕ) → (codes_of pairs M).checks block ≡ checks_of (parities (words_of (coded (block_put pairs M block))))
  unfolding sent_pair
  checks_sent block = checks_by (eqb block 1) (first_block (pairs M)) (second_block (pairs M) (pairs (M + 1)))

  pub ranges_sent : (codes_of pairs M).ranges ≡ range_word (code_for (block_put pairs M 1)) (code_for (block_put pairs M 2))
  unfolding sent_pair coded
  ranges_sent = refl

  module _ (own : IsPair (pairs M)) (next : IsPair (pairs (M + 1))) where
    pub samples_put : (block : ℕ) → Samples (block_put pairs M block)
    samples_put block =
        let first = pair_samples (pairs M) own in
        cond_both (eqb block 1) (first_block (pairs M)) (second_block (pairs M) (pairs (M + 1))) Samples
        (λ _. from_samples (pairs M) 0 first)
        (λ _. from_samples (pairs M ++ pairs (M + 1)) 32 (All-append Small (pairs M) (pairs (M + 1)) first (pair_samples (pairs (M + 1)) next)))

    pub well_coded : WellCoded (codes_of pairs M)
    well_coded = record {
      words = λ block n i is. subst (λ (w : ℕ → ℕ). w n < 2 ^ bits_of n) (sym (words_sent block)) (word_sent (block_put pairs M block) (samples_put block) n is).short;
      range_word = subst (λ (w : ℕ). w < 2 ^ 12) (sym ranges_sent)
          (range_word_sent (code_for (block_put pairs M 1)) (code_for (block_put pairs M 2)) (omega arith) (omega arith)).small;
      check_words = λ block i. subst (λ (c : ℕ). c < 2 ^ 5) (sym (checks_sent block)) (checks_below (parities (words_of (coded (block_put pairs M block)))));
    }
