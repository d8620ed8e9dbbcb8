-- The cell rule of every law of a sign and a magnitude, over the number of codes and the width, and what making and
-- reading answer by the magnitude.
use Rattle.std.specs.Prelude.{◌≡◌, ℕ, ◌+◌, ◌-◌, ◌*◌, ◌/◌, ◌^◌, ◌<◌, ◌≤◌, cond, ℤ, pos, negsuc, ◌+ℤ◌, ◌-ℤ◌, ◌≤ℤ◌, ◌<ℤ◌, nat_lt}
use Rattle.std.proofs.Common.{refl, sym, ap, subst, ◌∙◌, ⊎_elim, arith, add-mul}
use Rattle.std.specs.Int.Signed.{mag}
use Rattle.words.specs.declared.faults.Layer.TheVariants.{Word}
use Rattle.words.specs.Answers.{making, reading, gives, refuses}
use Rattle.std.proofs.lemmas.Int.{ints}
use Rattle.std.proofs.lemmas.Bool.Decides.{nat_tests}
use Rattle.std.proofs.lemmas.Bool.{lt-ltb, le-ltb, cond-true, cond-false, cases_lt}
use Rattle.std.proofs.lemmas.Nat.{div_below, mod_below, div-add-mod', div-mul-add, mul-le, pow_pos}
use Rattle.words.specs.Meaning.{Inside, InCell, CellRule}
use Rattle.words.specs.Signed.{signed, signed_low, signed_word, basic, additional}

module _ (bits half width : ℕ) (hp : 0 < half) (wp : 0 < width) (few : bits ≤ 16) (fit : 2 * half ≡ 2 ^ bits) where
  low_pos : (w : ℕ) → w < half → signed_low half width w ≡ pos (w * width)
  low_pos w h = cond-true _ _ _ (lt-ltb w half h)

  low_neg : (w : ℕ) → half ≤ w → signed_low half width w ≡ negsuc ((w - half) * width + (width - 1))
  low_neg w h = cond-false _ _ _ (le-ltb w half h)

  -- the cell of the word with code n of either sign, over a value's magnitude a
  at_pos : (w a : ℕ) → w < half → w * width ≤ a → a < w * width + width → InCell (signed bits half width) w (pos a)
  at_pos w a h l u =
      record {
        from = subst (λ (z : ℤ). z ≤ℤ pos a) (sym (low_pos w h)) (omega (arith, ints));
        upto = subst (λ (z : ℤ). pos a <ℤ (z +ℤ pos width)) (sym (low_pos w h)) (omega (arith, ints));
      }

  at_neg : (w a : ℕ) → half ≤ w → (w - half) * width ≤ a → a < (w - half) * width + width → InCell (signed bits half width) w (negsuc a)
  at_neg w a h l u =
      record {
        from = subst (λ (z : ℤ). z ≤ℤ negsuc a) (sym (low_neg w h)) (omega (arith, ints));
        upto = subst (λ (z : ℤ). negsuc a <ℤ (z +ℤ pos width)) (sym (low_neg w h)) (omega (arith, ints));
      }

  fits : (a : ℕ) → a ≤ half * width - 1 → a / width < half
  fits a h = div_below a width half wp (omega (arith, mul-le 1 1 half width hp wp))

  lies : (v : ℤ) → Inside (signed bits half width) v → InCell (signed bits half width) (signed_word half width v) v
  lies (pos a) i =
      at_pos (a / width) a (fits a (omega (arith, ints, i.below)))
      (omega (arith, div-add-mod' a width)) (omega (arith, div-add-mod' a width, mod_below a width wp))
  lies (negsuc a) i =
      let e : (half + a / width) - half ≡ a / width = omega arith in
      at_neg (half + a / width) a (omega arith)
      (rw e (omega (arith, div-add-mod' a width))) (rw e (omega (arith, div-add-mod' a width, mod_below a width wp)))

  short_mag : (w : ℕ) → w < 2 * half → half ≤ w → w - half < half
  short_mag w h k = omega arith

  word_below : (v : ℤ) → Inside (signed bits half width) v → signed_word half width v < 2 * half
  word_below (pos a) i = omega (arith, fits a (omega (arith, ints, i.below)))
  word_below (negsuc a) i = omega (arith, fits a (omega (arith, ints, i.above)))

  known : (w : ℕ) → w < 2 * half → ◌≡◌ {A = ℕ} (cond (nat_lt w (2 * half)) 0 7) 0
  known w h = cond-true _ _ _ (lt-ltb w (2 * half) h)

  below_from : (w : ℕ) → ◌≡◌ {A = ℕ} (cond (nat_lt w (2 * half)) 0 7) 0 → w < 2 * half
  below_from w e = grind (arith, nat_tests)

  -- the quotient is the code
  quotient : (a n : ℕ) → n * width ≤ a → a < n * width + width → a / width ≡ n
  quotient a n l u =
      let e : n * width + (a - n * width) ≡ a = omega arith in
      ap (λ x. x / width) (sym e) ∙ div-mul-add n width (a - n * width) (omega arith)

  back : (v : ℤ) (w : ℕ) → ◌≡◌ {A = ℕ} (cond (nat_lt w (2 * half)) 0 7) 0 → InCell (signed bits half width) w v → signed_word half width v ≡ w
  back v w e i = ⊎_elim (λ lt. first v lt (subst (λ (z : ℤ). z ≤ℤ v) (low_pos w lt) i.from) (subst (λ (z : ℤ). v <ℤ (z +ℤ pos width)) (low_pos w lt) i.upto))
      (λ ge. second v ge (subst (λ (z : ℤ). z ≤ℤ v) (low_neg w ge) i.from) (subst (λ (z : ℤ). v <ℤ (z +ℤ pos width)) (low_neg w ge) i.upto))
      (cases_lt w half)
    where
      first : (v : ℤ) → w < half → pos (w * width) ≤ℤ v → v <ℤ (pos (w * width) +ℤ pos width) → signed_word half width v ≡ w
      first (pos a) lt l u = quotient a w (omega (arith, ints)) (omega (arith, ints))
      first (negsuc a) lt l u = absurd (omega (arith, ints))

      second : (v : ℤ) → half ≤ w → negsuc ((w - half) * width + (width - 1)) ≤ℤ v → v <ℤ (negsuc ((w - half) * width + (width - 1)) +ℤ pos width) → signed_word half width v ≡ w
      second (pos a) ge l u = absurd (omega (arith, ints))
      second (negsuc a) ge l u = ap (λ x. half + x) (quotient a (w - half) (omega (arith, ints)) (omega (arith, ints))) ∙ omega arith

  short : (v : ℤ) → Inside (signed bits half width) v → signed_word half width v < 2 ^ bits
  short v i = omega (arith, fit, word_below v i)

  -- the top of a cell is no further than the last value
  top : (n : ℕ) → n < half → n * width + width ≤ half * width
  top n h = omega (arith, mul-le (n + 1) width half width (omega arith) (omega arith), add-mul n 1 width)

  within : (v : ℤ) (w : ℕ) → ◌≡◌ {A = ℕ} (cond (nat_lt w (2 * half)) 0 7) 0 → InCell (signed bits half width) w v → Inside (signed bits half width) v
  within v w e i =
      ⊎_elim
      (λ lt. up (top w lt) (subst (λ (z : ℤ). z ≤ℤ v) (low_pos w lt) i.from) (subst (λ (z : ℤ). v <ℤ (z +ℤ pos width)) (low_pos w lt) i.upto))
      (λ ge. down (top (w - half) (omega (arith, below_from w e))) (subst (λ (z : ℤ). z ≤ℤ v) (low_neg w ge) i.from) (subst (λ (z : ℤ). v <ℤ (z +ℤ pos width)) (low_neg w ge) i.upto))
      (cases_lt w half)
    where
      up : w * width + width ≤ half * width → pos (w * width) ≤ℤ v → v <ℤ (pos (w * width) +ℤ pos width) → Inside (signed bits half width) v
      up t l u = record { above = omega (arith, ints); below = omega (arith, ints) }

      down : (w - half) * width + width ≤ half * width → negsuc ((w - half) * width + (width - 1)) ≤ℤ v → v <ℤ (negsuc ((w - half) * width + (width - 1)) +ℤ pos width) → Inside (signed bits half width) v
      down t l u = record { above = omega (arith, ints); below = omega (arith, ints) }

  held : (w : ℕ) → ◌≡◌ {A = ℕ} (cond (nat_lt w (2 * half)) 0 7) 0 → Inside (signed bits half width) (signed_low half width w) × InCell (signed bits half width) w (signed_low half width w)
  held w e = ⊎_elim
      (λ lt. let p = top w lt in
      subst (λ (z : ℤ). Inside (signed bits half width) z × InCell (signed bits half width) w z) (sym (low_pos w lt))
      (record { above = omega (arith, ints); below = omega (arith, ints) }, at_pos w (w * width) lt (omega arith) (omega arith)))
      (λ ge. let n : w - half < half = omega (arith, below_from w e) in
      let p = top (w - half) n in
      subst (λ (z : ℤ). Inside (signed bits half width) z × InCell (signed bits half width) w z) (sym (low_neg w ge))
      (record { above = omega (arith, ints); below = omega (arith, ints) }, at_neg w ((w - half) * width + (width - 1)) ge (omega arith) (omega arith)))
      (cases_lt w half)

  named : (w : ℕ) → (◌≡◌ {A = ℕ} (cond (nat_lt w (2 * half)) 0 7) 0 → ⊥) → 7 ≤ cond (nat_lt w (2 * half)) 0 7
  named w n = grind (arith, nat_tests)

  named_top : (w : ℕ) → (◌≡◌ {A = ℕ} (cond (nat_lt w (2 * half)) 0 7) 0 → ⊥) → cond (nat_lt w (2 * half)) 0 7 ≤ 9
  named_top w n = grind (arith, nat_tests)

  pub signed_rule : CellRule (signed bits half width)
  signed_rule = record {
    few = few;
    lies = lies;
    back = back;
    within = within;
    short = short;
    read = λ v i. known _ (word_below v i);
    held = held;
    named = λ w n. (named w n, named_top w n);
  }

-- the two laws that J.43 uses
pub basic_rule : (r : ℕ) → CellRule (basic r)
basic_rule r = signed_rule 10 512 (2 ^ r) (omega arith) (pow_pos r) (omega arith) refl

pub additional_rule : (r a : ℕ) → CellRule (additional r a)
additional_rule r a = let e = r + a + 1 in signed_rule 9 256 (2 ^ e) (omega arith) (pow_pos e) (omega arith) refl

-- what making and reading answer; the number of bits counts for nothing here
module _ (bits half width : ℕ) where
  pub refused : (v : ℤ) → 0 < half * width → half * width ≤ mag v → refuses 2 0 Word ≡ making (signed bits half width) v
  refused (pos a) k h = grind (arith, nat_tests)
  refused (negsuc a) k h = grind (arith, nat_tests)

  read_is : (w : ℕ) → w < 2 * half → gives (signed_low half width w +ℤ pos ((width - 1) / 2)) ≡ reading (signed bits half width) w
  read_is w h = grind (arith, nat_tests)

  pub read_pos : (w : ℕ) (z : ℤ) → w < half → z ≡ pos (w * width + (width - 1) / 2) → gives z ≡ reading (signed bits half width) w
  read_pos w z h e =
      let l : signed_low half width w ≡ pos (w * width) = cond-true _ _ _ (lt-ltb w half h) in
      ap gives (e ∙ sym (ap (λ x. x +ℤ pos ((width - 1) / 2)) l)) ∙ read_is w (omega arith)

  pub read_neg : (w : ℕ) (z : ℤ) → 0 < width → half ≤ w → w < 2 * half → z ≡ (pos 0 -ℤ pos ((w - half) * width + (width - (width - 1) / 2))) → gives z ≡ reading (signed bits half width) w
  read_neg w z wp h k e =
      let l : signed_low half width w ≡ negsuc ((w - half) * width + (width - 1)) = cond-false _ _ _ (le-ltb w half h) in
      let q : z ≡ negsuc ((w - half) * width + (width - 1)) +ℤ pos ((width - 1) / 2) = omega (arith, ints, e) in
      ap gives (q ∙ sym (ap (λ x. x +ℤ pos ((width - 1) / 2)) l)) ∙ read_is w k
