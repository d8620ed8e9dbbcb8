-- What is concealed where, and the level that stands in for a concealed one.
use Rattle.std.proofs.Common.{◌≡◌, ℕ, ◌+◌, ◌-◌, ◌*◌, ◌/◌, ◌%◌, ◌<◌, ◌≤◌, true, false, cond, eqb, List, length, get_or, set, ℤ, pos, sym, refl, ap, ◌∙◌, arith}
use Rattle.std.proofs.lemmas.Bool.Decides.{nat_tests}
use Rattle.std.proofs.lemmas.Grind.{common_steps}
use Rattle.decoder.specs.declared.verdict.Verdict.{Verdict}
use Rattle.decoder.specs.declared.verdict.Verdict.TheVariants.{Mute, Clean, Check, Odd, Pair}
use Rattle.decoder.specs.Findings.{odd, pair, finding, is_numbered, conceals}
use Rattle.decoder.specs.Samples.{Received, plain, stand_in, odd_level}

-- the numbers of a hurt odd sample and of a hurt pair
pub record OddNumber (n : ℕ) : Type 0 where
  pub odd : n % 2 ≡ 1
  pub upto : n ≤ 31

pub odd_number : (v : Verdict) (n : ℕ) → v ≡ Odd n → is_numbered (finding v) ≡ true → OddNumber n
odd_number v n e t = let h : is_numbered (odd n) ≡ true = rw e at t in record { odd = grind (arith, nat_tests); upto = grind (arith, nat_tests) }

pub record PairNumber (j : ℕ) : Type 0 where
  pub from : 1 ≤ j
  pub upto : j ≤ 8

pub pair_number : (v : Verdict) (j : ℕ) → v ≡ Pair j → is_numbered (finding v) ≡ true → PairNumber j
pair_number v j e t = let h : is_numbered (pair j) ≡ true = rw e at t in record { from = grind (arith, nat_tests); upto = grind (arith, nat_tests) }

-- odd samples are concealed by no verdict but theirs, and even ones by none but a pair's
pub odd_kept : (v : Verdict) → ((n : ℕ) → v ≡ Odd n → ⊥) → (k : ℕ) → conceals (finding v) (2 * k + 1) ≡ false
odd_kept (Mute cause) other k = refl
odd_kept Clean other k = refl
odd_kept (Check i) other k = refl
odd_kept (Odd n) other k = absurd (other n refl)
odd_kept (Pair j) other k = grind (arith, nat_tests)

-- what stands in for an odd sample leans on odd samples alone
pub stand_in_same : (f g : ℕ → ℤ) (i : ℕ) → i < 16 → ((k : ℕ) → k < 16 → f (2 * k + 1) ≡ g (2 * k + 1)) → stand_in f (2 * i + 1) ≡ stand_in g (2 * i + 1)
stand_in_same f g i upto same = grind (arith, nat_tests, same (i - 1), same (i + 1))

-- one of the levels concealed, by what stands at the other places
one_concealed : (f g : ℕ → ℤ) (i : ℕ) (xs : List ℤ) (x : ℤ) → i < length xs → x ≡ g (2 * i + 1) → (k : ℕ) → get_or xs k (pos 0) ≡ f (2 * k + 1)
    → get_or (set xs i x) k (pos 0) ≡ cond (eqb (2 * k + 1) (2 * i + 1)) (g (2 * k + 1)) (f (2 * k + 1))
one_concealed f g i xs x within is k at = grind (arith, common_steps, nat_tests)

-- one level concealed among those of the odd samples
pub one_stands_in : (b : Received) (i : ℕ) (xs : List ℤ) (x : ℤ) → b.found ≡ odd (2 * i + 1) → i < 16 → length xs ≡ 16
    → ((k : ℕ) → k < 16 → get_or xs k (pos 0) ≡ plain b (2 * k + 1)) → x ≡ stand_in (λ n. get_or xs (n / 2) (pos 0)) (2 * i + 1)
    → (k : ℕ) → k < 16 → get_or (set xs i x) k (pos 0) ≡ odd_level b (2 * k + 1)
one_stands_in b i xs x found upto len all is k lt =
    let same : (j : ℕ) → j < 16 → get_or xs ((2 * j + 1) / 2) (pos 0) ≡ plain b (2 * j + 1) =
    λ j l. let half : (2 * j + 1) / 2 ≡ j = omega arith in ap (λ n. get_or xs n (pos 0)) half ∙ all j l in
    let here = is ∙ stand_in_same (λ n. get_or xs (n / 2) (pos 0)) (plain b) i upto same in
    one_concealed (plain b) (stand_in (plain b)) i xs x (omega arith) here k (all k lt)
    ∙ ap (λ f. cond (conceals f (2 * k + 1)) (stand_in (plain b) (2 * k + 1)) (plain b (2 * k + 1))) (sym found)
