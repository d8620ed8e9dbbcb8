-- The first value that is no sample.
use Rattle.std.proofs.Common.{◌≡◌, ℕ, zero, suc, ◌+◌, ◌^◌, ◌<◌, ◌≤◌, List, [], ◌∷◌, length, get_or, refl, ℤ, pos, Some, None, Option, sym, ap, ◌∙◌, arith}
use Rattle.std.specs.Option.{MatchOption}
use Rattle.std.specs.List.{AllWithin, HoldsAt}
use lib.Signed.{mag}
use Rattle.std.proofs.lemmas.Bool.{cond-true, cond-false, lt-ltb, le-ltb}
use Rattle.std.proofs.lemmas.Bool.Decides.{nat_tests}
use Rattle.circuit.specs.Putting.{first_outside}

pub all_inside : (xs : List ℤ) (n : ℕ) → ((k : ℕ) → k < length xs → mag (get_or xs k (pos 0)) < 2 ^ 13) → first_outside n xs ≡ None
all_inside [] n p = refl
all_inside (x ∷ xs) n p = cond-true _ _ _ (lt-ltb _ (2 ^ 13) (p 0 (omega arith))) ∙ all_inside xs (n + 1) (λ k h. p (suc k) (omega arith))

pub one_outside : (xs : List ℤ) (n i : ℕ) → i < length xs → ((k : ℕ) → k < i → mag (get_or xs k (pos 0)) < 2 ^ 13) → 2 ^ 13 ≤ mag (get_or xs i (pos 0)) → first_outside n xs ≡ Some (n + i)
one_outside [] n i h p o = absurd (omega arith)
one_outside (x ∷ xs) n zero h p o = let e : n ≡ n + 0 = omega arith in cond-false _ _ _ (le-ltb _ (2 ^ 13) o) ∙ ap Some e
one_outside (x ∷ xs) n (suc i) h p o =
    let e : n + 1 + i ≡ n + suc i = omega arith in
    cond-true _ _ _ (lt-ltb _ (2 ^ 13) (p 0 (omega arith))) ∙ one_outside xs (n + 1) i (omega arith) (λ k l. p (suc k) (omega arith)) o ∙ ap Some e

-- what a search answers
pub first_is : (xs : List ℤ) (r : Option ℕ)
    → MatchOption r (AllWithin (λ v. mag v < 2 ^ 13) xs 0 (length xs)) (λ i. (i < length xs) × HoldsAt (λ v. 2 ^ 13 ≤ mag v) xs i × AllWithin (λ v. mag v < 2 ^ 13) xs 0 i)
    → r ≡ first_outside 0 xs
first_is xs None all = sym (all_inside xs 0 (λ k h. all k (pos 0) (omega arith) h))
first_is xs (Some i) found =
    let e : 0 + i ≡ i = omega arith in
    sym (one_outside xs 0 i found.0 (λ k l. found.2 k (pos 0) (omega arith) l) (found.1 (pos 0)) ∙ ap Some e)

-- where there is none, each value is a sample
pub none_outside : (xs : List ℤ) (i : ℕ) → first_outside i xs ≡ None → (k : ℕ) → mag (get_or xs k (pos 0)) < 2 ^ 13
none_outside [] i e k = omega arith
none_outside (x ∷ xs) i e zero = grind (arith, nat_tests)
none_outside (x ∷ xs) i e (suc k) = none_outside xs (i + 1) (let t : first_outside (i + 1) xs ≡ None = grind (arith, nat_tests) in t) k
