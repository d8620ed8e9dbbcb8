-- Rules of all numbers in a range, by lists that antt computes.
use Rattle.std.specs.Prelude.{◌≡◌, ℕ, zero, suc, ◌+◌, ◌-◌, ◌<◌, ◌≤◌, Bool, true, ◌&&◌, ◌∷◌, map, slice_index_or, refl}
use Rattle.std.proofs.Common.{sym, ap, ◌∙◌, arith}
use Rattle.std.specs.List.{range_with_len}
use Rattle.std.proofs.lemmas.List.FromFn.{get_or-map-range_with_len}
use Rattle.std.proofs.lemmas.Bool.Decides.{Decides-below_and}

-- two rows that agree as lists agree at each place
pub same_at : {X : Type 0} (f g : ℕ → X) (a n : ℕ) → map f (range_with_len a n) ≡ map g (range_with_len a n) → (j : ℕ) → a ≤ j → j < a + n → f j ≡ g j
same_at f g a n e j low high =
    let i : j - a < n = omega arith in
    let s : a + (j - a) ≡ j = omega arith in
    sym (get_or-map-range_with_len f a n (j - a) j (f j) i s) ∙ ap (λ xs. slice_index_or xs (j - a) (f j)) e ∙ get_or-map-range_with_len g a n (j - a) j (f j) i s

-- and rows that agree at each place agree as lists
pub same_map : {X : Type 0} (f g : ℕ → X) (a n : ℕ) → ((j : ℕ) → a ≤ j → j < a + n → f j ≡ g j) → map f (range_with_len a n) ≡ map g (range_with_len a n)
same_map f g a zero e = refl
same_map f g a (suc n) e =
    ap (λ x. x ∷ map f (range_with_len (a + 1) n)) (e a (omega arith) (omega arith)) ∙ ap (λ xs. g a ∷ xs) (same_map f g (a + 1) n (λ j l h. e j (omega arith) (omega arith)))

-- a test of all numbers below n
abbrev pub below : (ℕ → Bool) → ℕ → Bool
below p zero = true
below p (suc n) = p n && below p n

pub each : (p : ℕ → Bool) (n : ℕ) → below p n ≡ true → (k : ℕ) → k < n → p k ≡ true
each p n e = (Decides-below_and p (λ k. p k ≡ true) (below p) (λ k. (λ h. h, λ h. h)) refl (λ _. refl) n).0 e
