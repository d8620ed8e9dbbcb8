-- The marks as the code makes them, clearing some of 32, against their definition: one computed table for odd samples, one for pairs.
use Rattle.std.proofs.Common.{◌≡◌, ℕ, ◌+◌, ◌-◌, ◌*◌, ◌/◌, ◌<◌, Bool, true, false, cond, not, ◌&&◌, ◌||◌, eqb, ltb, List, [], map, get_or, set, replicate, sym, refl, ap, ◌∙◌, arith}
use Rattle.std.specs.List.{range_with_len}
use Rattle.std.proofs.lemmas.List.FromFn.{get_or-map-range_with_len}
use Rattle.decoder.specs.Findings.{Finding, mute, clean, check, odd, pair}
use Rattle.decoder.specs.Marks.{marks_of}
use Rattle.decoder.proofs.Concealing.{OddNumber, PairNumber}

abbrev pub all : List Bool
all = replicate 32 true

abbrev pub odd_cleared : ℕ → List Bool
odd_cleared n = set (set (cond (ltb 1 n) (set all (n - 2) false) all) (n - 1) false) n false

abbrev pub pair_cleared : ℕ → List Bool
pair_cleared j = set (set all (4 * j - 3) false) (4 * j - 1) false

-- two functions whose tables are equal, at a place
read : {A : Type 0} (f g : ℕ → A) (n : ℕ) (d : A) → map f (range_with_len 0 n) ≡ map g (range_with_len 0 n) → (k : ℕ) → k < n → f k ≡ g k
read f g n d table k h =
    sym (get_or-map-range_with_len f 0 n k k d h (omega arith)) ∙ ap (λ xs. get_or xs k d) table ∙ get_or-map-range_with_len g 0 n k k d h (omega arith)

odds : map (λ k. odd_cleared (2 * k + 1)) (range_with_len 0 16) ≡ map (λ k. marks_of (odd (2 * k + 1)) true) (range_with_len 0 16)
unfolding marks_of
odds = refl

pairs : map (λ k. pair_cleared (k + 1)) (range_with_len 0 8) ≡ map (λ k. marks_of (pair (k + 1)) true) (range_with_len 0 8)
unfolding marks_of
pairs = refl

pub odd_marks : (n : ℕ) → OddNumber n → odd_cleared n ≡ marks_of (odd n) true
odd_marks n h =
    let rest = h.odd in
    let upto = h.upto in
    let e : 2 * (n / 2) + 1 ≡ n = omega arith in
    ap odd_cleared (sym e)
    ∙ read (λ k. odd_cleared (2 * k + 1)) (λ k. marks_of (odd (2 * k + 1)) true) 16 [] odds (n / 2) (omega arith)
    ∙ ap (λ m. marks_of (odd m) true) e

pub pair_marks : (j : ℕ) → PairNumber j → pair_cleared j ≡ marks_of (pair j) true
pair_marks j h =
    let from = h.from in
    let upto = h.upto in
    let e : j - 1 + 1 ≡ j = omega arith in
    ap pair_cleared (sym e)
    ∙ read (λ k. pair_cleared (k + 1)) (λ k. marks_of (pair (k + 1)) true) 8 [] pairs (j - 1) (omega arith)
    ∙ ap (λ m. marks_of (pair m) true) e

never : (x y : Bool) → (x && (y && false)) ≡ false
never true true = refl
never true false = refl
never false y = refl

-- a follower that is not sound takes the last mark, whatever is found of the block
pub last_cleared : (found : Finding) → set (marks_of found true) 31 false ≡ marks_of found false
unfolding marks_of
last_cleared (mute k) = refl
last_cleared clean = refl
last_cleared (check i) = refl
last_cleared (odd n) = rw (never (not (eqb 32 n)) (not (eqb 31 n)))
last_cleared (pair j) = rw (never (not (eqb 32 (4 * j - 2) || eqb 32 (4 * j))) (not (eqb 31 (4 * j - 2) || eqb 31 (4 * j))))
