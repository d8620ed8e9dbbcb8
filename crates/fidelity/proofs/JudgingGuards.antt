-- What the guards of a received block tell, where at most one of them is hit: the verdict is clean or points at that one, and the
-- words that it does not conceal are near those sent.
use Rattle.std.proofs.Common.{◌≡◌, ℕ, ◌+◌, ◌-◌, ◌*◌, ◌%◌, ◌^◌, ◌<◌, ◌≤◌, Bool, true, false, cond, eqb, ltb, ◌⊎◌, List, map, sym, refl, ap, ◌∙◌, subst, inl, inr, arith}
use lib.Bits.{bit_xor}
use Rattle.std.specs.List.{range_with_len}
use Rattle.std.proofs.lemmas.Bool.{cond-true, eq-eqb, eqb-false, ltb-true, ltb-false}
use Rattle.guards.specs.Bits.{bit_in, total}
use Rattle.guards.specs.Codes.{alone}
use Rattle.guards.specs.Division.{guard_syndrome}
use Rattle.guards.specs.Parities.{bits_of, guard_of, guard_bit, guards}
use Rattle.guards.specs.Words.{by_sample}
use Rattle.guards.specs.Counts.{same_at}
use Rattle.guards.specs.Rows.{number_same}
use Rattle.guards.proofs.Guarding.{word_bits}
use Rattle.guards.specs.Laws.{guard_law}
use Rattle.guards.proofs.Locating.{located_at, one_flipped}
use Rattle.frames.specs.Places.{IsSample}
use Rattle.damage.specs.Damage.{Near, Hurt, whole, hurt}
use Rattle.decoder.specs.Findings.{clean, conceals, tells_ranges}
use Rattle.decoder.specs.Verdicts.{hurt_at, by_guards}
use Rattle.reception.specs.Blocks.{guards_found}

-- guard bits look at the 32 words alone
module _ (w v : ℕ → ℕ) (c d : ℕ) (words : (n : ℕ) → IsSample n → w n ≡ v n) (checks : c ≡ d) where
  sum_like : (n bits : ℕ) → IsSample n → total (word_bits w n) 1 bits ≡ total (word_bits v n) 1 bits
  sum_like n bits is = ap (λ (x : ℕ). total (bit_in (bits_of n) x) 1 bits) (words n is)

  bit_like : (k : ℕ) → 1 ≤ k → k ≤ 29 → (p q : Bool) → ltb k 17 ≡ p → ltb k 25 ≡ q
      → cond p (total (word_bits w (2 * k - 1)) 1 5 % 2)
      (cond q ((total (word_bits w (4 * (k - 16) - 2)) 1 4 + total (word_bits w (4 * (k - 16))) 1 4) % 2) (bit_in 5 c (k - 24)))
      ≡ cond p (total (word_bits v (2 * k - 1)) 1 5 % 2)
      (cond q ((total (word_bits v (4 * (k - 16) - 2)) 1 4 + total (word_bits v (4 * (k - 16))) 1 4) % 2) (bit_in 5 d (k - 24)))
  bit_like k lo hi true q t u =
      let l : k < 17 = ltb-true k 17 t in
      ap (λ (x : ℕ). x % 2) (sum_like (2 * k - 1) 5 (record { from = omega arith; upto = omega arith }))
  bit_like k lo hi false true t u =
      let j = 4 * (k - 16) in
      let l : 17 ≤ k = ltb-false k 17 t in
      let h : k < 25 = ltb-true k 25 u in
      ap (λ (x : ℕ). (x + total (word_bits w j) 1 4) % 2) (sum_like (j - 2) 4 (record { from = omega arith; upto = omega arith }))
      ∙ ap (λ (x : ℕ). (total (word_bits v (j - 2)) 1 4 + x) % 2) (sum_like j 4 (record { from = omega arith; upto = omega arith }))
  bit_like k lo hi false false t u = ap (λ (x : ℕ). bit_in 5 x (k - 24)) checks

  pub guards_like : guards w c ≡ guards v d
  unfolding guards
  guards_like =
      number_same (λ t. guard_bit (word_bits w) (bit_in 5 c) (t + 1)) (λ t. guard_bit (word_bits v) (bit_in 5 d) (t + 1)) 29
      (λ t h. bit_like (t + 1) (omega arith) (omega arith) (ltb (t + 1) 17) (ltb (t + 1) 25) refl refl)

-- so a block that is hurt beside some words is hurt beside words like them
pub hurt_like : (k : ℕ) (w v : ℕ → ℕ) (c d : ℕ) (w' : ℕ → ℕ) (c' : ℕ) → ((n : ℕ) → IsSample n → w n ≡ v n) → c ≡ d → Hurt k w c w' c' → Hurt k v d w' c'
hurt_like k w v c d w' c' words checks (whole e near) =
    whole (e ∙ guards_like w v c d words checks) (λ n is. subst (λ (x : ℕ). Near x (w' n)) (words n is) (near n is))
hurt_like k w v c d w' c' words checks (hurt lo hi e near) =
    hurt lo hi (e ∙ ap (λ (g : ℕ). bit_xor g (2 ^ (29 - k))) (guards_like w v c d words checks))
    (λ n is other. subst (λ (x : ℕ). Near x (w' n)) (words n is) (near n is other))

-- what a verdict that points at guard k leaves: ranges, and all samples but those under it
ranges_left : map (λ k. tells_ranges (hurt_at k)) (range_with_len 1 29) ≡ map (λ _. true) (range_with_len 1 29)
ranges_left = refl

concealed : map (λ k. map (λ n. conceals (hurt_at k) n) (range_with_len 1 32)) (range_with_len 1 29) ≡ map (λ k. map (λ n. eqb (guard_of n) k) (range_with_len 1 32)) (range_with_len 1 29)
concealed = refl

not_covered : (k n : ℕ) → 1 ≤ k → k ≤ 29 → IsSample n → conceals (hurt_at k) n ≡ false → guard_of n ≡ k → ⊥
not_covered k n lo hi is none =
    let row = same_at (λ k. map (λ n. conceals (hurt_at k) n) (range_with_len 1 32)) (λ k. map (λ n. eqb (guard_of n) k) (range_with_len 1 32)) 1 29 concealed k lo (omega arith) in
    eqb-false (guard_of n) k (sym (same_at (λ n. conceals (hurt_at k) n) (λ n. eqb (guard_of n) k) 1 32 row n is.from (omega (arith, is.upto))) ∙ none)

-- the words w as sent and w' as received, by what the locator answers
pub record GuardsRight (k : ℕ) (w w' : ℕ → ℕ) (found : ℕ × ℕ) : Type 0 where
  pub verdict : (by_guards found ≡ clean) ⊎ ((1 ≤ k) × (k ≤ 29) × (by_guards found ≡ hurt_at k))
  pub ranges : tells_ranges (by_guards found) ≡ true
  pub near : (n : ℕ) → IsSample n → conceals (by_guards found) n ≡ false → Near (w n) (w' n)

module _ (odd even : List ℕ) (w' : ℕ → ℕ) (c' : ℕ) (lists : (n : ℕ) → IsSample n → by_sample odd even n ≡ w' n) where
  found_clean : guard_syndrome (guards w' c') ≡ 0 → guards_found odd even c' ≡ (0, 0)
  unfolding guards_found
  found_clean z =
      cond-true _ _ _ (eq-eqb (guard_syndrome (guards (by_sample odd even) c')) 0 (ap guard_syndrome (guards_like (by_sample odd even) w' c' c' lists refl) ∙ z))

  found_at : (k : ℕ) → 1 ≤ k → k ≤ 29 → guard_syndrome (guards w' c') ≡ guard_syndrome (alone 29 k) → guards_found odd even c' ≡ (1, k)
  unfolding guards_found
  found_at k lo hi e =
      located_at guard_law (guard_syndrome (guards (by_sample odd even) c')) k (record { from = lo; upto = hi })
      (sym (ap guard_syndrome (guards_like (by_sample odd even) w' c' c' lists refl) ∙ e))

  pub guards_right : (k : ℕ) (w : ℕ → ℕ) (c : ℕ) → guard_syndrome (guards w c) ≡ 0 → Hurt k w c w' c' → GuardsRight k w w' (guards_found odd even c')
  guards_right k w c z (whole e near) =
      subst (GuardsRight k w w') (sym (found_clean (ap guard_syndrome e ∙ z))) (record { verdict = inl refl; ranges = refl; near = λ n is _. near n is })
  guards_right k w c z (hurt lo hi e near) =
      subst (GuardsRight k w w') (sym (found_at k lo hi (ap guard_syndrome e ∙ one_flipped guard_law (guards w c) k z)))
      (record {
        verdict = inr (lo, hi, refl);
        ranges = same_at (λ k. tells_ranges (hurt_at k)) (λ _. true) 1 29 ranges_left k lo (omega arith);
        near = λ n is none. near n is (not_covered k n lo hi is none);
      })
