-- What a frame's octets carry is what they were made of; undamaged frames read back as the pairs that were sent.
use Rattle.std.proofs.Common.{◌≡◌, ℕ, ◌+◌, ◌-◌, ◌/◌, ◌%◌, ◌^◌, ◌<◌, ◌≤◌, cond, eqb, ltb, ◌⊎◌, List, sym, refl, ap, ◌∙◌, subst, inl, inr, add-sub_cancel, arith}
use Rattle.std.proofs.lemmas.Bool.{le-ltb, cond-false}
use Rattle.guards.specs.Bits.{bit_in}
use Rattle.guards.specs.Parities.{bits_of}
use Rattle.frames.specs.Places.{Holds, sample_bit, range_bit, check_bit, service_bit, spare_bit, IsBlock, IsSample, delay, travels, lies, lies_at, index}
use Rattle.frames.specs.Frame.{Pair, WellCoded, SamePair, carried, octets_of, bit_at, heard, woven, frame_of, blank, before, heard_pair, ReadsBack, ThreeFramesDecide}
use Rattle.guards.specs.Rows.{number_same}
use Rattle.frames.proofs.Rows.{number_of_bits, read_back}
use Rattle.frames.proofs.Turns.{LiesThere, sample_lies, check_lies, range_lies}

pub carried_bit : (p : Pair) (h : Holds) → carried p h ≤ 1
carried_bit p (sample_bit e block n b) = omega arith
carried_bit p (range_bit k) = omega arith
carried_bit p (check_bit block k) = omega arith
carried_bit p (service_bit k) = omega arith
carried_bit p (spare_bit l) = omega arith

pub bit_of_octets : (p : Pair) (i : ℕ) → i < 640 → bit_at (octets_of p) i ≡ carried p (lies_at i)
unfolding octets_of
bit_of_octets p i h = read_back (λ i. carried p (lies_at i)) (λ i. carried_bit p (lies_at i)) i h

-- bit 80 of each group carries nothing
pub spare_carried : (p : Pair) (i : ℕ) → 79 ≤ i % 80 → carried p (lies_at i) ≡ 0
unfolding lies
spare_carried p i h = let e : i % 80 + 1 ≡ 80 = omega arith in ap (λ b. carried p (lies (i / 80 + 1) b)) e

-- what is heard where a bit lies is what the frame carries for it
pub bit_there : (p : Pair) (h : Holds) → LiesThere h → bit_at (octets_of p) (index h) ≡ carried p h
bit_there p h there = bit_of_octets p (index h) there.inside ∙ ap (carried p) there.found

-- what a frame's octets say of a word, of the range word and of checks
pub heard_word : (p : Pair) (block n : ℕ) → IsBlock block → IsSample n → p.word block n < 2 ^ bits_of n → (heard (octets_of p)).word block n ≡ p.word block n
heard_word p block n i s small =
    number_same (λ t. bit_at (octets_of p) (index (travels block n (t + 1)))) (λ t. bit_in (bits_of n) (p.word block n) (t + 1)) (bits_of n)
    (λ t h. bit_there p (travels block n (t + 1)) (sample_lies block n (t + 1) i s (omega arith) (omega arith)))
    ∙ number_of_bits (p.word block n) (bits_of n) small

pub heard_ranges : (p : Pair) → p.ranges < 2 ^ 12 → (heard (octets_of p)).ranges ≡ p.ranges
heard_ranges p small =
    number_same (λ t. bit_at (octets_of p) (index (range_bit (t + 1)))) (λ t. bit_in 12 p.ranges (t + 1)) 12
    (λ t h. bit_there p (range_bit (t + 1)) (range_lies (t + 1) (omega arith) (omega arith)))
    ∙ number_of_bits p.ranges 12 small

pub heard_checks : (p : Pair) (block : ℕ) → IsBlock block → p.checks block < 2 ^ 5 → (heard (octets_of p)).checks block ≡ p.checks block
heard_checks p block i small =
    number_same (λ t. bit_at (octets_of p) (index (check_bit block (t + 1)))) (λ t. bit_in 5 (p.checks block) (t + 1)) 5
    (λ t h. bit_there p (check_bit block (t + 1)) (check_lies block (t + 1) i (omega arith) (omega arith)))
    ∙ number_of_bits (p.checks block) 5 small

-- one frame reads back
pub heard_back : (p : Pair) → WellCoded p → SamePair (heard (octets_of p)) p
heard_back p well = record {
  words = λ block n i s. heard_word p block n i s (well.words block n i s);
  range_word = heard_ranges p well.range_word;
  check_words = λ block i. heard_checks p block i (well.check_words block i);
}

before_is : (pairs : ℕ → Pair) (N d : ℕ) → before pairs (N + d) d ≡ pairs N
before_is pairs N d = cond-false (ltb (N + d) d) blank (pairs (N + d - d)) (le-ltb (N + d) d (omega arith)) ∙ ap pairs (add-sub_cancel N d)

-- the pair that a sample's frame takes it from is its own
taken : (pairs : ℕ → Pair) (N block n d : ℕ) → (d ≡ 1) ⊎ (d ≡ 2) → cond (eqb d 1) ((before pairs (N + d) 1).word block n) ((before pairs (N + d) 2).word block n) ≡ (pairs N).word block n
taken pairs N block n d (inl e) = subst (λ (d : ℕ). cond (eqb d 1) ((before pairs (N + d) 1).word block n) ((before pairs (N + d) 2).word block n) ≡ (pairs N).word block n) (sym e) (ap (λ p. p.word block n) (before_is pairs N 1))
taken pairs N block n d (inr e) = subst (λ (d : ℕ). cond (eqb d 1) ((before pairs (N + d) 1).word block n) ((before pairs (N + d) 2).word block n) ≡ (pairs N).word block n) (sym e) (ap (λ p. p.word block n) (before_is pairs N 2))

delays : (block n : ℕ) → (delay block n ≡ 1) ⊎ (delay block n ≡ 2)
delays block n = search arith

pub reads_back : ReadsBack
unfolding frame_of
reads_back pairs N well = record {
  words = λ block n i s.
      let d : ℕ = delay block n in
      let e = taken pairs N block n d (delays block n) in
      heard_word (woven (pairs (N + d)) (before pairs (N + d) 1) (before pairs (N + d) 2)) block n i s (subst (λ (w : ℕ). w < 2 ^ bits_of n) (sym e) (well.words block n i s)) ∙ e;
  range_word = heard_ranges (woven (pairs N) (before pairs N 1) (before pairs N 2)) well.range_word;
  check_words = λ block i. heard_checks (woven (pairs N) (before pairs N 1) (before pairs N 2)) block i (well.check_words block i);
}

pub three_frames_decide : ThreeFramesDecide
three_frames_decide f g N e = record {
  words = λ block n i s. ap (λ o. (heard o).word block n) (e (N + delay block n) (omega arith) (omega arith));
  range_word = ap (λ o. (heard o).ranges) (e N (omega arith) (omega arith));
  check_words = λ block i. ap (λ o. (heard o).checks block) (e N (omega arith) (omega arith));
}

-- a pair heard from its three frames: the weaving is undone by the same weaving
gathered : (frames : ℕ → List ℕ) (N block n d : ℕ) → (d ≡ 1) ⊎ (d ≡ 2) → (heard (frames (N + d))).word block n ≡ cond (eqb d 1) ((heard (frames (N + 1))).word block n) ((heard (frames (N + 2))).word block n)
gathered frames N block n d (inl e) = subst (λ (d : ℕ). (heard (frames (N + d))).word block n ≡ cond (eqb d 1) ((heard (frames (N + 1))).word block n) ((heard (frames (N + 2))).word block n)) (sym e) refl
gathered frames N block n d (inr e) = subst (λ (d : ℕ). (heard (frames (N + d))).word block n ≡ cond (eqb d 1) ((heard (frames (N + 1))).word block n) ((heard (frames (N + 2))).word block n)) (sym e) refl

pub heard_woven : (frames : ℕ → List ℕ) (N : ℕ) → SamePair (heard_pair frames N) (woven (heard (frames N)) (heard (frames (N + 1))) (heard (frames (N + 2))))
heard_woven frames N = record {
  words = λ block n i s. gathered frames N block n (delay block n) (delays block n);
  range_word = refl;
  check_words = λ block i. refl;
}
