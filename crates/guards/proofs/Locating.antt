-- What the law of a check code says of the locator: the syndrome of one flipped position, and what each answer means.
use Rattle.std.proofs.Common.{◌≡◌, ℕ, zero, suc, ◌+◌, ◌<◌, ◌≤◌, cond, eqb, ◌⊎◌, sym, refl, ap, ◌∙◌, inl, inr, arith}
use lib.Bits.{bit_xor, xor_zero_l, xor_assoc, xor_comm}
use Rattle.std.proofs.lemmas.Bool.{cond-true, cond-false, eq-eqb, ne_eqb}
use Rattle.guards.specs.Bits.{total}
use Rattle.guards.specs.Codes.{alone, Position, Code}
use Rattle.guards.specs.Located.{position_of, located, OneFlipped}
use Rattle.guards.specs.RangeWord.{range_syndrome, range_word_syndrome}
use Rattle.guards.specs.Laws.{range_law, inverted}
use Rattle.guards.specs.declared.locator.Found.TheVariants.{At, Nowhere}

-- sums with nothing, and with one entry that counts
total_none : (f : ℕ → ℕ) (a n : ℕ) → ((x : ℕ) → a ≤ x → x < a + n → f x ≡ 0) → total f a n ≡ 0
total_none f a zero e = refl
total_none f a (suc n) e = omega (arith, total_none f a n (λ x l h. e x l (omega arith)), e (a + n) (omega arith) (omega arith))

last_of : (a n k : ℕ) → k < a + suc n → (k < a + n) ⊎ (k ≡ a + n)
last_of a n k h = search arith

total_one : (f : ℕ → ℕ) (a n k : ℕ) → a ≤ k → k < a + n → ((x : ℕ) → a ≤ x → x < a + n → (x ≡ k → ⊥) → f x ≡ 0) → total f a n ≡ f k
total_one f a zero k l h e = absurd (omega arith)
total_one f a (suc n) k l h e = by (last_of a n k h) (λ m. total_one f a n k l m (λ x p q. e x p (omega arith)))
  where
    by : (k < a + n) ⊎ (k ≡ a + n) → (k < a + n → total f a n ≡ f k) → total f a (suc n) ≡ f k
    by (inl m) r = omega (arith, r m, e (a + n) (omega arith) (omega arith) (omega arith))
    by (inr s) r = omega (arith, total_none f a n (λ x p q. e x p (omega arith) (omega arith)), ap f s)

module _ {n : ℕ} {s : ℕ → ℕ} (law : Code n s) where
  -- the syndrome of what was sent clean and has one position flipped
  pub one_flipped : (sent k : ℕ) → s sent ≡ 0 → s (bit_xor sent (alone n k)) ≡ s (alone n k)
  one_flipped sent k z = law.sums sent (alone n k) ∙ ap (λ x. bit_xor x (s (alone n k))) z ∙ xor_zero_l (s (alone n k))

  module _ (x : ℕ) where
    -- the position that has the syndrome is located
    pub located_at : (k : ℕ) → Position n k → s (alone n k) ≡ x → located n s x ≡ (1, k)
    located_at k p e =
        let heard : x ≡ 0 → ⊥ = λ z. law.heard k p (e ∙ z) in
        let row : ℕ → ℕ = λ j. cond (eqb (s (alone n j)) x) j 0 in
        let only : (j : ℕ) → 1 ≤ j → j < 1 + n → (j ≡ k → ⊥) → row j ≡ 0 =
        λ j lo hi ne. cond-false (eqb (s (alone n j)) x) j 0 (ne_eqb (s (alone n j)) x (λ f. ne (law.apart j k (record { from = lo; upto = omega arith }) p (f ∙ sym e)))) in
        let here : position_of n s x ≡ k =
        total_one row 1 n k p.from (omega (arith, p.upto)) only ∙ cond-true (eqb (s (alone n k)) x) k 0 (eq-eqb (s (alone n k)) x e) in
        cond-false (eqb x 0) _ _ (ne_eqb x 0 heard)
        ∙ cond-false (eqb (position_of n s x) 0) _ _ (ne_eqb (position_of n s x) 0 (omega (arith, here, p.from)))
        ∙ ap (λ j. (1, j)) here

    -- where no position has it, nowhere is
    pub located_nowhere : (x ≡ 0 → ⊥) → ((k : ℕ) → Position n k → s (alone n k) ≡ x → ⊥) → located n s x ≡ (2, 0)
    located_nowhere heard none =
        let row : ℕ → ℕ = λ j. cond (eqb (s (alone n j)) x) j 0 in
        let nothing : position_of n s x ≡ 0 =
        total_none row 1 n (λ j lo hi. cond-false (eqb (s (alone n j)) x) j 0 (ne_eqb (s (alone n j)) x (none j (record { from = lo; upto = omega arith })))) in
        cond-false (eqb x 0) _ _ (ne_eqb x 0 heard) ∙ cond-true (eqb (position_of n s x) 0) _ _ (eq-eqb (position_of n s x) 0 nothing)

    -- what one flipped position allows the answer to be
    pub flipped_at : (k : ℕ) → Position n k → s (alone n k) ≡ x → OneFlipped n s x (At k)
    flipped_at k p e sent j q z f = ap At (law.apart k j p q (e ∙ f ∙ one_flipped sent j z))

    pub flipped_nowhere : ((k : ℕ) → Position n k → s (alone n k) ≡ x → ⊥) → OneFlipped n s x Nowhere
    flipped_nowhere none sent j q z f = absurd (none j q (sym (f ∙ one_flipped sent j z)))

-- a range word sent clean with one bit flipped
pub range_word_flipped : (sent k : ℕ) → range_word_syndrome sent ≡ 0 → range_word_syndrome (bit_xor sent (alone 12 k)) ≡ range_syndrome (alone 12 k)
range_word_flipped sent k z =
    let p : ℕ = alone 12 k in
    let turned : bit_xor (bit_xor sent p) 15 ≡ bit_xor (bit_xor sent 15) p = xor_assoc sent p 15 ∙ ap (bit_xor sent) (xor_comm p 15) ∙ sym (xor_assoc sent 15 p) in
    inverted (bit_xor sent p) ∙ ap range_syndrome turned ∙ one_flipped range_law (bit_xor sent 15) k (sym (inverted sent) ∙ z)
