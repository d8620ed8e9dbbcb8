-- No sample of variant B is moved by more than 16.
use Rattle.std.proofs.Common.{◌≡◌, ℕ, zero, suc, ◌+◌, ◌-◌, ◌*◌, ◌/◌, ◌<◌, ◌≤◌, Bool, true, ◌&&◌, ltb, List, [], ◌∷◌, length, ℤ, pos, negsuc, ◌+ℤ◌, is_ok, Ok, Err, Result, sym, refl, ap, ◌∙◌, arith}
use Rattle.std.specs.List.{All}
use Rattle.std.proofs.lemmas.Int.{ints}
use Rattle.std.proofs.lemmas.Bool.{cond-true, eq-eqb}
use Rattle.std.proofs.lemmas.Bool.Decides.{nat_tests, Decides-ltb, Decides-below_and}
use Rattle.words.specs.declared.faults.WordFault.{WordFault}
use Rattle.words.specs.Answers.{answer, gives}
use Rattle.words.specs.Lists.{first_refused, unmade, making_all}
use Rattle.words.specs.VariantB.{variant_b, front_of, parity, gate_low, gate_width}
use Rattle.j41gate.specs.Trial.{distance, moved}

-- the parity bit does not matter to what a word is read as
half : (front : ℕ) → (2 * front + parity front) / 2 ≡ front
half front = omega arith

-- how far v is moved, by the eleven bits of its word
abbrev moved_by : ℤ → ℕ
moved_by v = distance v (gate_low (front_of v) +ℤ pos ((gate_width (front_of v) - 1) / 2))

moved_by_is : (v : ℤ) → moved variant_b v ≡ moved_by v
moved_by_is v = ap (λ x. distance v (gate_low x +ℤ pos ((gate_width x - 1) / 2))) (half (front_of v))

-- computed for every magnitude, with both signs
abbrev all_close : (ℕ → ℤ) → ℕ → Bool
all_close sign zero = true
all_close sign (suc n) = ltb (moved_by (sign n)) 17 && all_close sign n

positive : all_close pos 8192 ≡ true
positive = refl

negative : all_close negsuc 8192 ≡ true
negative = refl

moved_small : (sign : ℕ → ℤ) → all_close sign 8192 ≡ true → (a : ℕ) → a < 8192 → moved_by (sign a) < 17
moved_small sign e =
    (Decides-below_and (λ a. ltb (moved_by (sign a)) 17) (λ a. moved_by (sign a) < 17) (all_close sign) (λ a. Decides-ltb (moved_by (sign a)) 17) refl (λ _. refl) 8192).0 e

near_one : (v : ℤ) → unmade variant_b v ≡ 0 → moved variant_b v ≤ 16
near_one (pos a) e =
    let lt : a < 8192 = grind (arith, ints, nat_tests) in
    let n = moved_small pos positive a lt in
    omega (arith, moved_by_is (pos a))
near_one (negsuc a) e =
    let lt : a < 8192 = grind (arith, ints, nat_tests) in
    let n = moved_small negsuc negative a lt in
    omega (arith, moved_by_is (negsuc a))

near_each : (vs : List ℤ) (i : ℕ) → first_refused (unmade variant_b) i vs ≡ gives tt → All (λ v. moved variant_b v ≤ 16) vs
near_each [] i e k d h = absurd (omega arith)
near_each (v ∷ vs) i e zero d h = near_one v (let z : unmade variant_b v ≡ 0 = grind (arith, nat_tests) in z)
near_each (v ∷ vs) i e (suc k) d h =
    near_each vs (i + 1) (let t : first_refused (unmade variant_b) (i + 1) vs ≡ gives tt = grind (arith, nat_tests) in t) k d (omega arith)

pub near_all : (r : Result (Unit {0}) WordFault) (vs : List ℤ) → length vs ≡ 64 → answer r ≡ making_all variant_b vs 64 → is_ok r ≡ true → All (λ v. moved variant_b v ≤ 16) vs
near_all (Ok x) vs n a o = near_each vs 0 (sym (a ∙ cond-true _ _ _ (eq-eqb 64 (length vs) (sym n))))
near_all (Err f) vs n a o = absurd (let z : ◌≡◌ {A = ℕ} 0 1 = cc in omega arith)
