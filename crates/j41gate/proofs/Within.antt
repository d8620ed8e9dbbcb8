-- What is read under variant B is a sample, so it fits 16 bits.
use Rattle.std.proofs.Common.{◌≡◌, ℕ, zero, suc, ◌+◌, ◌<◌, Bool, true, cond, ◌&&◌, ltb, List, [], ◌∷◌, map, length, get_or, replicate, ℤ, pos, is_ok, Ok, Err, Result, sym, refl, ◌∙◌, subst, arith, w16, SFits}
use lib.Signed.{mag}
use Rattle.std.proofs.lemmas.Bool.Decides.{nat_tests, Decides-ltb, Decides-below_and}
use Rattle.std.proofs.lemmas.Bool.{cond-true, eq-eqb}
use Rattle.std.proofs.lemmas.List.{get_or-replicate}
use Rattle.words.specs.declared.faults.WordFault.{WordFault}
use Rattle.words.specs.Answers.{answer, gives}
use Rattle.words.specs.Lists.{first_refused, reading_all}
use Rattle.words.specs.Meaning.{middle}
use Rattle.words.specs.VariantB.{variant_b}

-- computed for every word of 12 bits
abbrev fits : ℕ → Bool
fits w = ltb (mag (middle variant_b w)) 8192

abbrev all_fit : ℕ → Bool
all_fit zero = true
all_fit (suc n) = fits n && all_fit n

twelve_bits : all_fit 4096 ≡ true
twelve_bits = refl

read_small : (w : ℕ) → variant_b.refusal w ≡ 0 → mag (middle variant_b w) < 8192
read_small w z =
    (Decides-below_and fits (λ k. mag (middle variant_b k) < 8192) all_fit (λ k. Decides-ltb (mag (middle variant_b k)) 8192) refl (λ _. refl) 4096).0 twelve_bits w
    (let lt : w < 4096 = grind (arith, nat_tests) in lt)

read_fits : (ws : List ℕ) (i : ℕ) → first_refused variant_b.refusal i ws ≡ gives tt → (k : ℕ) → k < length ws → SFits w16 (get_or (map (middle variant_b) ws) k (pos 0))
read_fits [] i e k h = absurd (omega arith)
read_fits (w ∷ ws) i e zero h = record { sfits = let s = read_small w (grind (arith, nat_tests)) in omega arith }
read_fits (w ∷ ws) i e (suc k) h = read_fits ws (i + 1) (let t : first_refused variant_b.refusal (i + 1) ws ≡ gives tt = grind (arith, nat_tests) in t) k (omega arith)

-- the values that `expand` leaves, whatever it answers
pub expanded_fits : (r : Result (Unit {0}) WordFault) (ws : List ℕ) (vs : List ℤ) → length ws ≡ 64 → answer r ≡ reading_all variant_b ws 64 → vs ≡ cond (is_ok r) (map (middle variant_b) ws) (replicate 64 (pos 0)) → (i : ℕ) → i < 64 → SFits w16 (get_or vs i (pos 0))
expanded_fits (Ok x) ws vs n a e i h =
    subst (λ l. SFits w16 (get_or l i (pos 0))) (sym e)
    (read_fits ws 0 (sym (a ∙ cond-true _ _ _ (eq-eqb 64 (length ws) (omega arith)))) i (omega arith))
expanded_fits (Err f) ws vs n a e i h =
    subst (λ l. SFits w16 (get_or l i (pos 0))) (sym e)
    (subst (SFits w16) (sym (get_or-replicate 64 i (pos 0) (pos 0) h)) (record { sfits = omega arith }))
