-- A frame of pairs that are known by their lists is the frame of the pairs.
use Rattle.std.proofs.Common.{◌≡◌, ℕ, ◌+◌, ◌-◌, ◌<◌, true, false, cond, eqb, List, [], map, get_or, sym, refl, ap, ◌∙◌, arith}
use Rattle.std.specs.List.{range_with_len}
use Rattle.std.proofs.lemmas.List.FromFn.{get_or-map-range_with_len}
use Rattle.frames.specs.Places.{IsBlock, IsSample, delay}
use Rattle.frames.specs.Frame.{Pair, SamePair, woven, frame_of}
use Rattle.frames.specs.Content.{listed}
use Rattle.frames.proofs.Same.{octets_same}
use Rattle.circuit.specs.Putting.{pair_from}

module _ (p : Pair) where
  word_from : (block n : ℕ) → IsBlock block → IsSample n → p.word block n ≡ (pair_from (listed p)).word block n
  word_from block n b s =
      let i : block - 1 < 2 = omega (arith, b.from, b.upto) in
      let e : 1 + (block - 1) ≡ block = omega (arith, b.from) in
      let k : n - 1 < 32 = omega (arith, s.from, s.upto) in
      let f : 1 + (n - 1) ≡ n = omega (arith, s.from) in
      sym (ap (λ (row : List ℕ). get_or row (n - 1) 0) (get_or-map-range_with_len (λ b. map (p.word b) (range_with_len 1 32)) 1 2 (block - 1) block [] i e)
      ∙ get_or-map-range_with_len (p.word block) 1 32 (n - 1) n 0 k f)

  checks_from : (block : ℕ) → IsBlock block → p.checks block ≡ (pair_from (listed p)).checks block
  checks_from block b = sym (get_or-map-range_with_len p.checks 1 2 (block - 1) block 0 (omega (arith, b.from, b.upto)) (omega (arith, b.from)))

  pub from_lists : SamePair p (pair_from (listed p))
  from_lists = record { words = word_from; range_word = refl; check_words = checks_from }

module _ (own one two one' two' : Pair) (a : SamePair one one') (b : SamePair two two') where
  woven_same : SamePair (woven own one two) (woven own one' two')
  woven_same = record {
    words = λ block n is_block is_sample.
        elim (eqb (delay block n) 1) as (λ t. cond t (one.word block n) (two.word block n) ≡ cond t (one'.word block n) (two'.word block n)) [
          | true ↦ a.words block n is_block is_sample
          | false ↦ b.words block n is_block is_sample
        ];
    range_word = refl;
    check_words = λ block is_block. refl;
  }

  pub frame_same : frame_of own one two ≡ frame_of own one' two'
  unfolding frame_of
  frame_same = octets_same (woven own one two) (woven own one' two') woven_same

pub frame_from_lists : (own one two : Pair) → frame_of own one two ≡ frame_of own (pair_from (listed one)) (pair_from (listed two))
frame_from_lists own one two = frame_same own one two (pair_from (listed one)) (pair_from (listed two)) (from_lists one) (from_lists two)
