-- A frame is well coded by its types, its octets are 80 and never all ones, and reading them gives it back.
use Rattle.std.proofs.Common.{◌≡◌, ℕ, zero, suc, ◌+◌, ◌-◌, ◌*◌, ◌/◌, ◌%◌, ◌^◌, ◌<◌, ◌≤◌, false, eqb, ltb, ◌⊎◌, List, [], ◌∷◌, length, get_or, sym, refl, ap, ◌∙◌, subst, inl, inr, arith}
use Rattle.std.proofs.lemmas.List.FromFn.{get_or-map-range_with_len, length-map-range_with_len}
use Rattle.std.proofs.lemmas.Bool.{and_left, and_right, cases_lt, cond-true, cond-false, cond_both, eq-eqb, ne_eqb, lt-ltb, le-ltb}
use Rattle.words.specs.Answers.{gives}
use Rattle.guards.specs.Bits.{number}
use Rattle.guards.specs.Parities.{bits_of}
use Rattle.frames.specs.declared.content.GuardedBlock.{GuardedBlock}
use Rattle.frames.specs.declared.content.Frame.{Frame}
use Rattle.frames.specs.Places.{lies_at}
use Rattle.frames.specs.Frame.{Pair, WellCoded, carried, packed, octets_of, heard}
use Rattle.frames.specs.Content.{word_in, pair_in, listed}
use Rattle.frames.specs.Answers.{all_ones, reading}
use Rattle.frames.proofs.Reading.{heard_back, spare_carried}
use Rattle.frames.proofs.Same.{listed_same}

-- the types' bounds
word_by : (block : GuardedBlock) (n : ℕ) → (0 < n % 2) ⊎ (n % 2 ≤ 0) → word_in block n < 2 ^ bits_of n
word_by block n (inl h) =
    let b : bits_of n ≡ 10 = omega arith in
    subst (λ (k : ℕ). word_in block n < 2 ^ k) (sym b)
    (subst (λ (w : ℕ). w < 2 ^ 10) (sym (cond-true (ltb 0 (n % 2)) (get_or block.odd.words (n / 2) 0) (get_or block.even.words (n / 2 - 1) 0) (lt-ltb _ _ h))) (block.odd.short (n / 2)))
word_by block n (inr h) =
    let b : bits_of n ≡ 9 = omega arith in
    subst (λ (k : ℕ). word_in block n < 2 ^ k) (sym b)
    (subst (λ (w : ℕ). w < 2 ^ 9) (sym (cond-false (ltb 0 (n % 2)) (get_or block.odd.words (n / 2) 0) (get_or block.even.words (n / 2 - 1) 0) (le-ltb _ _ h))) (block.even.short (n / 2 - 1)))

pub word_short : (block : GuardedBlock) (n : ℕ) → word_in block n < 2 ^ bits_of n
word_short block n = word_by block n (cases_lt 0 (n % 2))

pub well_in : (f : Frame) → WellCoded (pair_in f)
well_in f = record {
  words = λ block n _ _. cond_both (eqb block 1) (word_in f.first n) (word_in f.second n) (λ w. w < 2 ^ bits_of n) (λ _. word_short f.first n) (λ _. word_short f.second n);
  range_word = f.twelve;
  check_words = λ block _. cond_both (eqb block 1) f.first.checks f.second.checks (λ w. w < 2 ^ 5) (λ _. f.first.five) (λ _. f.second.five);
}

-- not all bits are 1 where an octet is not 255
pub ones_not : (octets : List ℕ) (k : ℕ) → k < length octets → (get_or octets k 0 ≡ 255 → ⊥) → all_ones octets ≡ false
ones_not [] k h ne = absurd (omega arith)
ones_not (x ∷ xs) zero h ne = and_left (eqb x 255) (all_ones xs) (ne_eqb x 255 ne)
ones_not (x ∷ xs) (suc k) h ne = and_right (eqb x 255) (all_ones xs) (ones_not xs k (omega arith) ne)

-- the octets of a frame
pub eighty : (p : Pair) → length (octets_of p) ≡ 80
unfolding octets_of packed
eighty p = length-map-range_with_len (λ j. number (λ t. carried p (lies_at (8 * j + t))) 8) 0 80

-- the last bit of octet 10 is the spare one of group 1
tenth : (p : Pair) → get_or (octets_of p) 9 0 ≡ 255 → ⊥
unfolding octets_of packed
tenth p e =
    let s : carried p (lies_at 79) ≡ 0 = spare_carried p 79 (omega arith) in
    let d = get_or-map-range_with_len (λ j. number (λ t. carried p (lies_at (8 * j + t))) 8) 0 80 9 9 0 (omega arith) refl in
    omega (arith, d, e, s)

pub never_ones : (p : Pair) → all_ones (octets_of p) ≡ false
never_ones p = ones_not (octets_of p) 9 (omega (arith, eighty p)) (tenth p)

-- what is written reads back
pub reads_itself : (f : Frame) → reading (octets_of (pair_in f)) ≡ gives (listed (pair_in f))
reads_itself f =
    let p = pair_in f in
    cond-true (eqb (length (octets_of p)) 80) _ _ (eq-eqb _ _ (eighty p)) ∙ cond-false (all_ones (octets_of p)) _ _ (never_ones p)
    ∙ ap gives (listed_same (heard (octets_of p)) p (heard_back p (well_in f)))
