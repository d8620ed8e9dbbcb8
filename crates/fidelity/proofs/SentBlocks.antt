-- A block of samples as it is coded: its ranges hold its samples and differences, its words keep their lengths, and each word tells
-- the code of its sample.
use Rattle.std.proofs.Common.{◌≡◌, ℕ, zero, suc, ◌+◌, ◌-◌, ◌*◌, ◌/◌, ◌%◌, ◌^◌, ◌<◌, ◌≤◌, cond, eqb, ◌⊎◌, List, length, get_or, ℤ, pos, negsuc, sym, ap, ◌∙◌, subst, ⊎_elim, arith}
use lib.Signed.{mag}
use Rattle.std.proofs.lemmas.Nat.{pow_pos, div_below}
use Rattle.std.proofs.lemmas.List.{get_or-map}
use Rattle.std.proofs.lemmas.List.Elements.{All-get_or, All-from_get_or}
use Rattle.std.proofs.lemmas.List.FromFn.{get_or-map-range_with_len, length-map-range_with_len}
use Rattle.std.proofs.lemmas.Bool.{cond-true, cond-false, cond_both, eq-eqb, ne_eqb, lt-ltb, le-ltb}
use Rattle.words.specs.Signed.{signed_word, basic, additional}
use Rattle.blocks.specs.Ranges.{Holds, all_below, first_range, basic_range, additional_range, difference, difference_at, differences}
use Rattle.blocks.specs.Coding.{odd_samples, coded}
use Rattle.blocks.proofs.Ranging.{held_test, wide}
use Rattle.blocks.proofs.Peaked.{differences_held}
use Rattle.guards.specs.Parities.{bits_of}
use Rattle.frames.specs.Places.{IsSample}
use Rattle.pairs.specs.Sending.{words_of}
use Rattle.decoder.specs.Levels.{code_of}
use Rattle.closeness.specs.Codes.{code, value, code_sent}
use Rattle.closeness.proofs.Codes.{whole}

-- 33 values, all of them samples
pub record Samples (put : List ℤ) : Type 0 where
  pub all : length put ≡ 33
  pub bounded : (k : ℕ) → mag (get_or put k (pos 0)) < 2 ^ 13

-- the first range that holds is at most the last one, and holds if that does
record First (half last : ℕ) (values : List ℤ) (first : ℕ) : Type 0 where
  upto : first ≤ last
  holds : Holds half last values → Holds half first values

first_of : (half last : ℕ) (values : List ℤ) (n r : ℕ) → r + n ≡ last → First half last values (first_range half values r n)
first_of half last values zero r e =
    let is : r ≡ last = omega arith in
    record { upto = omega arith; holds = subst (λ (k : ℕ). Holds half k values) (sym is) }
first_of half last values (suc n) r e =
    cond_both (all_below (half * 2 ^ r) values) r (first_range half values (r + 1) n) (First half last values)
    (λ yes. record { upto = omega arith; holds = λ _. (held_test (half * 2 ^ r) values).0 yes })
    (λ _. first_of half last values n (r + 1) (omega arith))

-- what the ranges of a block hold
pub record RangesHold (put : List ℤ) : Type 0 where
  pub basic_bound : basic_range put ≤ 4
  pub additional_bound : additional_range put ≤ 2
  pub samples : Holds 512 (basic_range put) put
  pub differences : Holds (512 * 2 ^ basic_range put) (additional_range put) (differences put)

pub ranges_hold : (put : List ℤ) → Samples put → RangesHold put
unfolding basic_range additional_range
ranges_hold put s =
    let r = first_of 512 4 put 4 0 (omega arith) in
    let a = first_of (512 * 2 ^ basic_range put) 2 (differences put) 2 0 (omega arith) in
    let held = r.holds (All-from_get_or (λ v. mag v < 512 * 2 ^ 4) put (pos 0) (λ k h. s.bounded k)) in
    record {
      basic_bound = r.upto;
      additional_bound = a.upto;
      samples = held;
      differences = a.holds (differences_held put (basic_range put) s.all held);
    }

-- the halves of a sample's words: 512 codes of each sign of an odd one, 256 of an even one
abbrev pub half_of : ℕ → ℕ
half_of n = cond (eqb (n % 2) 1) 512 256

-- a word of a value that its range holds fits its length
short_word : (half width : ℕ) (v : ℤ) → 0 < width → mag v < half * width → signed_word half width v < 2 * half
short_word half width (pos m) w h = omega (arith, div_below m width half w h)
short_word half width (negsuc m) w h = omega (arith, div_below m width half w h)

-- the word of a sample, and the code that it tells
pub record WordSent (put : List ℤ) (n : ℕ) : Type 0 where
  pub short : words_of (coded put) n < 2 ^ bits_of n
  pub tells : (s : ℕ) → code_of (half_of n) (words_of (coded put) n) ≡ code_sent (basic_range put) (additional_range put) s put n

module _ (put : List ℤ) (samples : Samples put) (n : ℕ) (is : IsSample n) where
  odd_word : n % 2 ≡ 1 → words_of (coded put) n ≡ signed_word 512 (2 ^ basic_range put) (value put n)
  unfolding coded odd_samples
  odd_word odd =
      let at = λ (k : ℕ). get_or put (2 * k) (pos 0) in
      let k : n / 2 < 16 = omega (arith, is.upto) in
      let m : 2 * (n / 2) ≡ n - 1 = omega arith in
      cond-true _ _ _ (lt-ltb 0 (n % 2) (omega arith))
      ∙ get_or-map (basic (basic_range put)).word (odd_samples put) (n / 2) (pos 0) 0 (omega (arith, length-map-range_with_len at 0 16))
      ∙ ap (basic (basic_range put)).word (get_or-map-range_with_len at 0 16 (n / 2) (n / 2) (pos 0) k (omega arith) ∙ ap (λ (i : ℕ). get_or put i (pos 0)) m)

  odd_sent : n % 2 ≡ 1 → WordSent put n
  odd_sent odd =
      let r = basic_range put in
      let v = value put n in
      let word = odd_word odd in
      let held : mag v < 512 * 2 ^ r =
      All-get_or (λ v. mag v < 512 * 2 ^ r) put (n - 1) (pos 0) (omega (arith, is.upto, samples.all)) (ranges_hold put samples).samples in
      let length : 2 ^ bits_of n ≡ 2 ^ 10 = ap (λ (k : ℕ). 2 ^ (9 + k)) odd in
      let yes = eq-eqb (n % 2) 1 odd in
      record {
        short = omega (arith, word, length, short_word 512 (2 ^ r) v (pow_pos r) held);
        tells = λ s.
            let own : cond (eqb n 33) s r ≡ r = cond-false _ _ _ (ne_eqb n 33 (λ e. omega (arith, is.upto))) in
            ap (λ (h : ℕ). code_of h (words_of (coded put) n)) (cond-true _ _ _ yes) ∙ ap (code_of 512) word ∙ whole 512 (2 ^ r) v (pow_pos r) held
            ∙ sym (cond-true _ _ _ yes ∙ ap (λ (k : ℕ). code (2 ^ k) v) own);
      }

  -- the difference at an even sample
  abbrev here : ℤ
  here = difference (value put (n - 1)) (value put n) (value put (n + 1))

  difference_here : n % 2 ≡ 0 → get_or (differences put) (n / 2 - 1) (pos 0) ≡ here
  unfolding differences
  difference_here even =
      let i : ℕ = n / 2 - 1 in
      let k : i < 16 = omega (arith, is.upto) in
      let before : 2 * i ≡ n - 1 - 1 = omega (arith, is.from) in
      let own : 2 * i + 1 ≡ n - 1 = omega (arith, is.from) in
      let after : 2 * i + 2 ≡ n + 1 - 1 = omega (arith, is.from) in
      let at = λ (k : ℕ). get_or put k (pos 0) in
      get_or-map-range_with_len (difference_at put) 0 16 i i (pos 0) k (omega arith)
      ∙ ap (λ (j : ℕ). difference (at j) (at (2 * i + 1)) (at (2 * i + 2))) before
      ∙ ap (λ (j : ℕ). difference (at (n - 1 - 1)) (at j) (at (2 * i + 2))) own
      ∙ ap (λ (j : ℕ). difference (at (n - 1 - 1)) (at (n - 1)) (at j)) after

  sixteen : length (differences put) ≡ 16
  unfolding differences
  sixteen = length-map-range_with_len (difference_at put) 0 16

  even_word : n % 2 ≡ 0 → words_of (coded put) n ≡ signed_word 256 (2 ^ (basic_range put + additional_range put + 1)) here
  unfolding coded
  even_word even =
      cond-false _ _ _ (le-ltb 0 (n % 2) (omega arith))
      ∙ get_or-map (additional (basic_range put) (additional_range put)).word (differences put) (n / 2 - 1) (pos 0) 0 (omega (arith, sixteen, is.upto))
      ∙ ap (additional (basic_range put) (additional_range put)).word (difference_here even)

  even_sent : n % 2 ≡ 0 → WordSent put n
  even_sent even =
      let r = basic_range put in
      let a = additional_range put in
      let width = 2 ^ (r + a + 1) in
      let word = even_word even in
      let held : mag here < 256 * width =
      subst (λ (v : ℤ). mag v < 256 * width) (difference_here even) (subst (λ (limit : ℕ). mag (get_or (differences put) (n / 2 - 1) (pos 0)) < limit) (sym (wide put samples.all r a))
      (All-get_or (λ v. mag v < 512 * 2 ^ r * 2 ^ a) (differences put) (n / 2 - 1) (pos 0) (omega (arith, sixteen, is.upto)) (ranges_hold put samples).differences)) in
      let length : 2 ^ bits_of n ≡ 2 ^ 9 = ap (λ (k : ℕ). 2 ^ (9 + k)) even in
      let no = ne_eqb (n % 2) 1 (λ e. omega arith) in
      record {
        short = omega (arith, word, length, short_word 256 width here (pow_pos (r + a + 1)) held);
        tells = λ s.
            ap (λ (h : ℕ). code_of h (words_of (coded put) n)) (cond-false _ _ _ no) ∙ ap (code_of 256) word ∙ whole 256 width here (pow_pos (r + a + 1)) held
            ∙ sym (cond-false _ _ _ no);
      }

  pub word_sent : WordSent put n
  word_sent = ⊎_elim even_sent odd_sent (either n)
    where
      either : (n : ℕ) → (n % 2 ≡ 0) ⊎ (n % 2 ≡ 1)
      either n = search arith
