-- Cells of a sheet: what one write leaves at each of them, and what the writing of whole words leaves.
use Rattle.std.proofs.Common.{◌≡◌, ℕ, zero, suc, ◌+◌, ◌-◌, ◌*◌, ◌/◌, ◌%◌, ◌^◌, ◌<◌, ◌≤◌, Bool, true, false, cond, ◌&&◌, eqb, ltb, ◌⊎◌, List, length, get_or, set, replicate, sym, refl, ap, ◌∙◌, inl, inr, add-one, arith, get_or-set_other, get_or-set_same}
use lib.Bits.{bit_and}
use Rattle.std.proofs.lemmas.Nat.{and_mask}
use Rattle.std.proofs.lemmas.List.{get_or_past}
use Rattle.std.proofs.lemmas.Bool.{cases_eq, cases_lt, cases_order, cond-true, cond-false, eq-eqb, ne_eqb, eqb-true, eqb-false, lt-ltb, le-ltb}
use Rattle.guards.specs.Bits.{bit_in}
use Rattle.frames.specs.Sheet.{bit_of, bit_of_cell, start_of, half_of, offset_in, over_bits, over}
use Rattle.guards.specs.Rows.{Bits}

set_by : (xs : List ℕ) (i v c : ℕ) → i < length xs → (c ≡ i) ⊎ (c ≡ i → ⊥) → get_or (set xs i v) c 0 ≡ cond (eqb c i) v (get_or xs c 0)
set_by xs i v c h (inl e) = ap (λ j. get_or (set xs i v) j 0) e ∙ rw get_or-set_same (sym (cond-true (eqb c i) v (get_or xs c 0) (eq-eqb c i e)))
set_by xs i v c h (inr ne) = rw get_or-set_other (sym (cond-false (eqb c i) v (get_or xs c 0) (ne_eqb c i ne)))

pub cell_after_set : (xs : List ℕ) (i v c : ℕ) → i < length xs → get_or (set xs i v) c 0 ≡ cond (eqb c i) v (get_or xs c 0)
cell_after_set xs i v c h = set_by xs i v c h (cases_eq c i)

-- a bit as the code takes it
pub bit_by_shift : (n w k : ℕ) → bit_and (w / 2 ^ (n - 1 - k)) 1 ≡ bit_in n w (k + 1)
bit_by_shift n w k = let e : n - 1 - k ≡ n - (k + 1) = omega arith in and_mask (w / 2 ^ (n - 1 - k)) 1 ∙ ap (λ j. w / 2 ^ j % 2) e

-- one bit more of a word
pub over_more : (xs : List ℕ) (start : ℕ) (places : List ℕ) (w k c v : ℕ) → start + get_or places k 0 < length xs → get_or xs c 0 ≡ over_bits start places w k c v
    → get_or (set xs (start + get_or places k 0) (bit_and (w / 2 ^ (length places - 1 - k)) 1)) c 0 ≡ over_bits start places w (k + 1) c v
over_more xs start places w k c v h e =
    cell_after_set xs (start + get_or places k 0) (bit_and (w / 2 ^ (length places - 1 - k)) 1) c h
    ∙ ap (λ b. cond (eqb c (start + get_or places k 0)) b (get_or xs c 0)) (bit_by_shift (length places) w k)
    ∙ ap (cond (eqb c (start + get_or places k 0)) (bit_in (length places) w (k + 1))) e
    ∙ sym (ap (λ j. over_bits start places w j c v) (add-one k))

-- a place in half i is the cell that lies so far into that half
module _ (i c p : ℕ) (short : p < 38) where
  in_half : c ≡ start_of i + p → (half_of c ≡ i) × (offset_in c ≡ 0 + p)
  in_half e =
      let q : c / 79 ≡ i / 2 = omega arith in
      let r : c % 79 ≡ 40 * (i % 2) + p = omega arith in
      (omega arith, omega arith)

  from_half : half_of c ≡ i → offset_in c ≡ 0 + p → c ≡ start_of i + p
  from_half e o = omega arith

  half_test : (a b : Bool) → eqb (half_of c) i ≡ a → eqb (offset_in c) (0 + p) ≡ b → eqb c (start_of i + p) ≡ (a && b)
  half_test true true s t = eq-eqb _ _ (from_half (eqb-true _ _ s) (eqb-true _ _ t))
  half_test true false s t = ne_eqb _ _ (λ e. eqb-false _ _ t (in_half e).1)
  half_test false b s t = ne_eqb _ _ (λ e. eqb-false _ _ s (in_half e).0)

nested : (t a b : Bool) (x y v : ℕ) → t ≡ (a && b) → cond t x (cond a y v) ≡ cond a (cond b x y) v
nested t true true x y v e = ap (λ t. cond t x y) e
nested t true false x y v e = ap (λ t. cond t x y) e
nested t false b x y v e = ap (λ t. cond t x v) e

either : (a : Bool) (v : ℕ) → v ≡ cond a v v
either true v = refl
either false v = refl

-- a word written into half i
half_bits : (i : ℕ) (columns : List ℕ) (w k c v : ℕ) → ((k : ℕ) → get_or columns k 0 < 38)
    → over_bits (start_of i) columns w k c v ≡ cond (eqb (half_of c) i) (over_bits 0 columns w k (offset_in c) v) v
half_bits i columns w zero c v h = either (eqb (half_of c) i) v
half_bits i columns w (suc k) c v h =
    ap (cond (eqb c (start_of i + get_or columns k 0)) (bit_in (length columns) w (k + 1))) (half_bits i columns w k c v h)
    ∙ nested (eqb c (start_of i + get_or columns k 0)) (eqb (half_of c) i) (eqb (offset_in c) (0 + get_or columns k 0)) (bit_in (length columns) w (k + 1)) (over_bits 0 columns w k (offset_in c) v) v
    (half_test i c (get_or columns k 0) (h k) (eqb (half_of c) i) (eqb (offset_in c) (0 + get_or columns k 0)) refl refl)

-- one half more of a letter's words
abbrev pub over_halves : List ℕ → List ℕ → ℕ → ℕ → ℕ → ℕ
over_halves columns words i c v = cond (ltb (half_of c) i) (over 0 columns (get_or words (half_of c) 0) (offset_in c) v) v

halves_by : (columns words : List ℕ) (i c v : ℕ) → (half_of c ≡ i) ⊎ ((half_of c < i) ⊎ (i < half_of c))
    → cond (eqb (half_of c) i) (over 0 columns (get_or words i 0) (offset_in c) (over_halves columns words i c v)) (over_halves columns words i c v) ≡ over_halves columns words (i + 1) c v
halves_by columns words i c v (inl e) =
    cond-true (eqb (half_of c) i) _ _ (eq-eqb _ _ e)
    ∙ ap (over 0 columns (get_or words i 0) (offset_in c)) (cond-false (ltb (half_of c) i) _ v (le-ltb _ _ (omega arith)))
    ∙ ap (λ j. over 0 columns (get_or words j 0) (offset_in c) v) (sym e)
    ∙ sym (cond-true (ltb (half_of c) (i + 1)) _ v (lt-ltb _ _ (omega arith)))
halves_by columns words i c v (inr (inl l)) =
    cond-false (eqb (half_of c) i) _ _ (ne_eqb _ _ (omega arith))
    ∙ cond-true (ltb (half_of c) i) _ v (lt-ltb _ _ l) ∙ sym (cond-true (ltb (half_of c) (i + 1)) _ v (lt-ltb _ _ (omega arith)))
halves_by columns words i c v (inr (inr g)) =
    cond-false (eqb (half_of c) i) _ _ (ne_eqb _ _ (omega arith))
    ∙ cond-false (ltb (half_of c) i) _ v (le-ltb _ _ (omega arith)) ∙ sym (cond-false (ltb (half_of c) (i + 1)) _ v (le-ltb _ _ (omega arith)))

pub halves_more : (columns words : List ℕ) (i c v x : ℕ) → ((k : ℕ) → get_or columns k 0 < 38) → x ≡ over_halves columns words i c v
    → over (start_of i) columns (get_or words i 0) c x ≡ over_halves columns words (i + 1) c v
halves_more columns words i c v x h e =
    ap (over (start_of i) columns (get_or words i 0) c) e
    ∙ half_bits i columns (get_or words i 0) (length columns) c (over_halves columns words i c v) h
    ∙ halves_by columns words i c v (cases_order (half_of c) i)

-- cells that hold the bits of a row, and beyond them get_or answers 0
small_by : (row : ℕ → ℕ) → Bits row → (cells : List ℕ) (c : ℕ) → length cells ≡ 632 → ((c : ℕ) → c < 632 → get_or cells c 0 ≡ row (bit_of_cell c)) → (c < 632) ⊎ (632 ≤ c) → get_or cells c 0 ≤ 1
small_by row b cells c long e (inl h) = omega (arith, e c h, b (bit_of_cell c))
small_by row b cells c long e (inr h) = omega (arith, get_or_past cells c 0 (omega arith))

pub cells_small : (row : ℕ → ℕ) → Bits row → (cells : List ℕ) → length cells ≡ 632 → ((c : ℕ) → c < 632 → get_or cells c 0 ≡ row (bit_of_cell c)) → (c : ℕ) → get_or cells c 0 ≤ 1
cells_small row b cells long e c = small_by row b cells c long e (cases_lt c 632)

-- cells that all hold 0
pub zeros_small : (n c : ℕ) → get_or (replicate n 0) c 0 ≤ 1
zeros_small zero c = omega arith
zeros_small (suc n) zero = omega arith
zeros_small (suc n) (suc c) = zeros_small n c

-- the row that they stand for
pub row_of_cells : (row : ℕ → ℕ) (cells : List ℕ) → ((c : ℕ) → c < 632 → get_or cells c 0 ≡ row (bit_of_cell c)) → (i : ℕ) → i < 640 → i % 80 < 79 → bit_of cells i ≡ row i
row_of_cells row cells e i h s =
    let c : ℕ = 79 * (i / 80) + i % 80 in
    let back : bit_of_cell c ≡ i = omega arith in
    cond-false (eqb (i % 80) 79) 0 (get_or cells c 0) (ne_eqb _ _ (omega arith)) ∙ e c (omega arith) ∙ ap row back

-- bit 80 of each group is 0
pub spare_cell : (cells : List ℕ) (i : ℕ) → 79 ≤ i % 80 → bit_of cells i ≡ 0
spare_cell cells i h = cond-true (eqb (i % 80) 79) 0 (get_or cells (79 * (i / 80) + i % 80) 0) (eq-eqb _ _ (omega arith))
