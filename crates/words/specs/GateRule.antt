-- The cell rule of variant B: by the segments of magnitudes, then by the eleven bits of each sign, then by the word.
use Rattle.std.specs.Prelude.{◌≡◌, ℕ, ◌+◌, ◌-◌, ◌*◌, ◌/◌, ◌%◌, ◌^◌, ◌<◌, ◌≤◌, true, false, ℤ, pos, negsuc, ◌+ℤ◌, ◌-ℤ◌, ◌≤ℤ◌, ◌<ℤ◌, ◌≢◌, nat_lt}
use Rattle.std.proofs.Common.{sym, ap, subst, ◌∙◌, ⊎_elim, arith, rules}
use Rattle.std.proofs.lemmas.Int.{ints}
use Rattle.std.proofs.lemmas.Bool.Decides.{nat_tests}
use Rattle.std.proofs.lemmas.Bool.{lt-ltb, le-ltb, cond-true, cond-false, cases_lt, eq-eqb}
use Rattle.words.specs.Meaning.{Inside, InCell, CellRule, Wide}
use Rattle.words.specs.VariantB.{variant_b, code_of, first_of, step_of, parity, front_of, gate_word, gate_low, gate_width, gate_refusal}
use Rattle.words.specs.Answers.{gives, reading}
use Rattle.words.specs.Segments.{code_below, code_in, code_back}

parity_below : (x : ℕ) → parity x < 2
parity_below x = omega arith

half_word : (x p : ℕ) → p < 2 → (2 * x + p) / 2 ≡ x
half_word x p h = omega arith

halved : (v : ℤ) → gate_word v / 2 ≡ front_of v
halved v = half_word (front_of v) (parity (front_of v)) (parity_below (front_of v))

-- the eleven bits are the code from 128 on, or from 1152 on
split : (c : ℕ) → 128 * (c / 128 + 1) + c % 128 ≡ 128 + c
split c = omega arith

front_pos : (a : ℕ) → front_of (pos a) ≡ 128 + code_of a
front_pos a = let e = split (code_of a) in omega (arith, e)

front_neg : (a : ℕ) → front_of (negsuc a) ≡ 1152 + code_of a
front_neg a = let e = split (code_of a) in omega (arith, e)

-- a cell by the eleven bits
abbrev InX : ℕ → ℤ → Type 0
InX x v = (gate_low x ≤ℤ v) × (v <ℤ (gate_low x +ℤ pos (gate_width x)))

module _ (f m : ℕ) where
  up : (a : ℕ) → f ≤ a → a < f + m → (pos f ≤ℤ pos a) × (pos a <ℤ (pos f +ℤ pos m))
  up a l u = (omega (arith, ints), omega (arith, ints))

  down : (a : ℕ) → f ≤ a → a < f + m → (negsuc (f + (m - 1)) ≤ℤ negsuc a) × (negsuc a <ℤ (negsuc (f + (m - 1)) +ℤ pos m))
  down a l u = (omega (arith, ints), omega (arith, ints))

  un_up : (v : ℤ) (P : ℤ → Type 0) → pos f ≤ℤ v → v <ℤ (pos f +ℤ pos m) → ((a : ℕ) → f ≤ a → a < f + m → P (pos a)) → P v
  un_up (pos a) P l u k = k a (omega (arith, ints)) (omega (arith, ints))
  un_up (negsuc a) P l u k = absurd (omega (arith, ints))

  un_down : 0 < m → (v : ℤ) (P : ℤ → Type 0) → negsuc (f + (m - 1)) ≤ℤ v → v <ℤ (negsuc (f + (m - 1)) +ℤ pos m) → ((a : ℕ) → f ≤ a → a < f + m → P (negsuc a)) → P v
  un_down h (pos a) P l u k = absurd (omega (arith, ints))
  un_down h (negsuc a) P l u k = k a (omega (arith, ints)) (omega (arith, ints))

step_pos : (c : ℕ) → 0 < step_of c
step_pos c = grind (arith, nat_tests)

first_top : (c : ℕ) → c < 896 → first_of c + step_of c ≤ 8192
first_top c h = grind (arith, nat_tests)

-- the cell at eleven bits of each sign
pos_cell : (c : ℕ) → c < 896 → (P : ℤ → ℕ → Type 0) → P (pos (first_of c)) (step_of c) → P (gate_low (128 + c)) (gate_width (128 + c))
pos_cell c h P p =
    let b : nat_lt (128 + c) 1024 ≡ true = lt-ltb (128 + c) 1024 (omega arith) in
    let e : (128 + c) - 128 ≡ c = omega arith in
    let l : gate_low (128 + c) ≡ pos (first_of c) = cond-true _ _ _ b ∙ ap (λ n. pos (first_of n)) e in
    let w : gate_width (128 + c) ≡ step_of c = cond-true _ _ _ b ∙ ap step_of e in
    subst (λ (z : ℤ). P z (gate_width (128 + c))) (sym l) (subst (λ (n : ℕ). P (pos (first_of c)) n) (sym w) p)

neg_cell : (c : ℕ) → c < 896 → (P : ℤ → ℕ → Type 0) → P (negsuc (first_of c + (step_of c - 1))) (step_of c) → P (gate_low (1152 + c)) (gate_width (1152 + c))
neg_cell c h P p =
    let b : nat_lt (1152 + c) 1024 ≡ false = le-ltb (1152 + c) 1024 (omega arith) in
    let e : (1152 + c) - 1152 ≡ c = omega arith in
    let l : gate_low (1152 + c) ≡ negsuc (first_of c + (step_of c - 1)) = cond-false _ _ _ b ∙ ap (λ n. negsuc (first_of n + (step_of n - 1))) e in
    let w : gate_width (1152 + c) ≡ step_of c = cond-false _ _ _ b ∙ ap step_of e in
    subst (λ (z : ℤ). P z (gate_width (1152 + c))) (sym l) (subst (λ (n : ℕ). P (negsuc (first_of c + (step_of c - 1))) n) (sym w) p)

lies_x : (v : ℤ) → Inside variant_b v → InX (front_of v) v
lies_x (pos a) i =
    let h : a < 8192 = omega (arith, ints, i.below) in
    let P : ℕ → Type 0 = λ x. InX x (pos a) in
    subst P (sym (front_pos a)) (pos_cell (code_of a) (code_below a h) (λ z n. (z ≤ℤ pos a) × (pos a <ℤ (z +ℤ pos n))) (up (first_of (code_of a)) (step_of (code_of a)) a (code_in a h).0 (code_in a h).1))
lies_x (negsuc a) i =
    let h : a < 8192 = omega (arith, ints, i.above) in
    let P : ℕ → Type 0 = λ x. InX x (negsuc a) in
    subst P (sym (front_neg a)) (neg_cell (code_of a) (code_below a h) (λ z n. (z ≤ℤ negsuc a) × (negsuc a <ℤ (z +ℤ pos n))) (down (first_of (code_of a)) (step_of (code_of a)) a (code_in a h).0 (code_in a h).1))

lies : (v : ℤ) → Inside variant_b v → InCell variant_b (gate_word v) v
lies v i =
    let p : InX (gate_word v / 2) v = subst (λ (x : ℕ). InX x v) (sym (halved v)) (lies_x v i) in
    record { from = p.0; upto = p.1 }

facts : (w : ℕ) → gate_refusal w ≡ 0 → (w < 4096) × (w % 2 ≡ parity (w / 2)) × (128 ≤ w / 2 % 1024)
facts w e = (grind (arith, nat_tests), grind (arith, nat_tests), grind (arith, nat_tests))

-- a word that is read has one of two forms
module _ (w : ℕ) (e : gate_refusal w ≡ 0) (P : ℕ → Type 0) where
  forms : ((c : ℕ) → c < 896 → w / 2 ≡ 128 + c → P (128 + c)) → ((c : ℕ) → c < 896 → w / 2 ≡ 1152 + c → P (1152 + c)) → P (w / 2)
  forms p n =
      let f = facts w e in
      ⊎_elim
      (λ lt. let q : w / 2 ≡ 128 + (w / 2 - 128) = omega arith in subst P (sym q) (p (w / 2 - 128) (omega arith) q))
      (λ ge. let q : w / 2 ≡ 1152 + (w / 2 - 1152) = omega arith in subst P (sym q) (n (w / 2 - 1152) (omega arith) q))
      (cases_lt (w / 2) 1024)

again : (v : ℤ) (w : ℕ) → gate_refusal w ≡ 0 → front_of v ≡ w / 2 → gate_word v ≡ w
again v w e q =
    let f = facts w e in
    ap (λ x. 2 * x + parity x) q ∙ omega (arith, f.1)

back : (v : ℤ) (w : ℕ) → gate_refusal w ≡ 0 → InCell variant_b w v → gate_word v ≡ w
back v w e i =
    forms w e (λ x. gate_low x ≤ℤ v → v <ℤ (gate_low x +ℤ pos (gate_width x)) → gate_word v ≡ w)
    (λ c h q. pos_cell c h (λ z n. z ≤ℤ v → v <ℤ (z +ℤ pos n) → gate_word v ≡ w)
    (λ l u. un_up (first_of c) (step_of c) v (λ v. gate_word v ≡ w) l u (λ a lo hi. again (pos a) w e (front_pos a ∙ ap (λ n. 128 + n) (code_back a c h lo hi) ∙ sym q))))
    (λ c h q. neg_cell c h (λ z n. z ≤ℤ v → v <ℤ (z +ℤ pos n) → gate_word v ≡ w)
    (λ l u. un_down (first_of c) (step_of c) (step_pos c) v (λ v. gate_word v ≡ w) l u (λ a lo hi. again (negsuc a) w e (front_neg a ∙ ap (λ n. 1152 + n) (code_back a c h lo hi) ∙ sym q))))
    i.from i.upto

within : (v : ℤ) (w : ℕ) → gate_refusal w ≡ 0 → InCell variant_b w v → Inside variant_b v
within v w e i =
    forms w e (λ x. gate_low x ≤ℤ v → v <ℤ (gate_low x +ℤ pos (gate_width x)) → Inside variant_b v)
    (λ c h q. pos_cell c h (λ z n. z ≤ℤ v → v <ℤ (z +ℤ pos n) → Inside variant_b v)
    (λ l u. let t = first_top c h in record { above = omega (arith, ints, t); below = omega (arith, ints, t) }))
    (λ c h q. neg_cell c h (λ z n. z ≤ℤ v → v <ℤ (z +ℤ pos n) → Inside variant_b v)
    (λ l u. let t = first_top c h in let p = step_pos c in record { above = omega (arith, ints, t); below = omega (arith, ints, t) }))
    i.from i.upto

eleven_in : (v : ℤ) → Inside variant_b v → (128 ≤ front_of v % 1024) × (front_of v < 2048)
eleven_in (pos a) i = let h = code_below a (omega (arith, ints, i.below)) in (omega (arith, h, front_pos a), omega (arith, h, front_pos a))
eleven_in (negsuc a) i = let h = code_below a (omega (arith, ints, i.above)) in (omega (arith, h, front_neg a), omega (arith, h, front_neg a))

short : (v : ℤ) → Inside variant_b v → gate_word v < 2 ^ 12
short v i = omega (arith, eleven_in v i, parity_below (front_of v))

refuses_no : (w p : ℕ) → w < 4096 → w % 2 ≡ p → p ≡ parity (w / 2) → 128 ≤ w / 2 % 1024 → gate_refusal w ≡ 0
refuses_no w p a b c d = grind (arith, nat_tests)

read : (v : ℤ) → Inside variant_b v → gate_refusal (gate_word v) ≡ 0
read v i =
    let x = front_of v in
    refuses_no (gate_word v) (parity x) (short v i) (omega (arith, parity_below x)) (sym (ap parity (halved v)))
    (subst (λ (n : ℕ). 128 ≤ n % 1024) (sym (halved v)) (eleven_in v i).0)

inside_up : (f m : ℕ) → 0 < m → f + m ≤ 8192 → Inside variant_b (pos f) × Inside variant_b (negsuc (f + (m - 1)))
inside_up f m h k =
    (record { above = omega (arith, ints); below = omega (arith, ints) }, record { above = omega (arith, ints); below = omega (arith, ints) })

held : (w : ℕ) → gate_refusal w ≡ 0 → Inside variant_b (gate_low (w / 2)) × InCell variant_b w (gate_low (w / 2))
held w e =
    let p : Inside variant_b (gate_low (w / 2)) × InX (w / 2) (gate_low (w / 2)) =
    forms w e (λ x. Inside variant_b (gate_low x) × InX x (gate_low x))
    (λ c h q. pos_cell c h (λ z n. Inside variant_b z × ((z ≤ℤ z) × (z <ℤ (z +ℤ pos n))))
    ((inside_up (first_of c) (step_of c) (step_pos c) (first_top c h)).0, up (first_of c) (step_of c) (first_of c) (omega arith) (omega (arith, step_pos c))))
    (λ c h q. neg_cell c h (λ z n. Inside variant_b z × ((z ≤ℤ z) × (z <ℤ (z +ℤ pos n))))
    ((inside_up (first_of c) (step_of c) (step_pos c) (first_top c h)).1, down (first_of c) (step_of c) (first_of c + (step_of c - 1)) (omega arith) (omega (arith, step_pos c)))) in
    (p.0, record { from = p.1.0; upto = p.1.1 })

named : (w : ℕ) → (gate_refusal w ≢ 0) → 7 ≤ gate_refusal w
named w n = grind (arith, nat_tests)

named_top : (w : ℕ) → (gate_refusal w ≢ 0) → gate_refusal w ≤ 9
named_top w n = grind (arith, nat_tests)

pub gate_rule : CellRule variant_b
gate_rule = record {
  few = omega arith;
  lies = lies;
  back = back;
  within = within;
  short = short;
  read = read;
  held = held;
  named = λ w n. (named w n, named_top w n);
}

pub gate_wide : Wide variant_b
gate_wide = search rules

pub read_neg : (w p f m : ℕ) (z : ℤ) → w < 4096 → w % 2 ≡ p → p ≡ parity (w / 2) → 128 ≤ w / 2 % 1024 → 1024 ≤ w / 2
    → f ≡ first_of (w / 2 - 1152) → m ≡ step_of (w / 2 - 1152) → 0 < m → z ≡ (pos 0 -ℤ pos ((f + m) - (m - 1) / 2)) → gives z ≡ reading variant_b w
read_neg w p f m z a b c d ge ef em h ez =
    let x = w / 2 in
    let t : nat_lt x 1024 ≡ false = le-ltb x 1024 ge in
    let l : gate_low x ≡ negsuc (f + (m - 1)) = cond-false _ _ _ t ∙ sym (ap (λ n. negsuc (n + (m - 1))) ef ∙ ap (λ n. negsuc (first_of (x - 1152) + (n - 1))) em) in
    let k : gate_width x ≡ m = cond-false _ _ _ t ∙ sym em in
    let q : z ≡ (negsuc (f + (m - 1)) +ℤ pos ((m - 1) / 2)) = omega (arith, ints, ez) in
    ap gives (q ∙ sym (ap (λ y. y +ℤ pos ((gate_width x - 1) / 2)) l ∙ ap (λ n. negsuc (f + (m - 1)) +ℤ pos ((n - 1) / 2)) k))
    ∙ sym (cond-true _ _ _ (eq-eqb (gate_refusal w) 0 (refuses_no w p a b c d)))
