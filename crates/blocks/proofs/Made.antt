-- The words of sixteen values that a law holds: what fills their places is the list of them, and each fits the word length.
use Rattle.std.proofs.Common.{◌≡◌, ℕ, ◌^◌, ◌<◌, ◌≤◌, List, map, length, get_or, ℤ, pos, sym, ◌∙◌, subst, ⊎_elim, arith}
use Rattle.std.specs.List.{range_with_len}
use Rattle.std.proofs.lemmas.Bool.{cases_lt}
use Rattle.std.proofs.lemmas.List.{get_or_past, get_or-map, length-map}
use Rattle.std.proofs.lemmas.List.FromFn.{fill_by_all}
use Rattle.std.proofs.lemmas.Nat.{pow_pos}
use Rattle.words.specs.Meaning.{Meaning, Inside, CellRule}

module _ (m : Meaning) (xs : List ℤ) (n : length xs ≡ 16) where
  abbrev pub word_at : ℕ → ℕ
  word_at k = m.word (get_or xs k (pos 0))

  pub all_words : (ws : List ℕ) → ws ≡ map word_at (range_with_len 0 16) → ws ≡ map m.word xs
  all_words ws e = e ∙ sym (fill_by_all word_at (map m.word xs) 16 0 (length-map xs m.word ∙ n) (λ k h. get_or-map m.word xs k (pos 0) 0 (omega arith)))

  pub short_words : CellRule m → ((k : ℕ) → k < 16 → Inside m (get_or xs k (pos 0))) → (ws : List ℕ) → ws ≡ map m.word xs → (k : ℕ) → get_or ws k 0 < 2 ^ m.bits
  short_words rule inside ws e k =
      let P : ℕ → Type 0 = λ w. w < 2 ^ m.bits in
      subst (λ (ls : List ℕ). P (get_or ls k 0)) (sym e)
      (⊎_elim
      (λ (lt : k < length xs). subst P (sym (get_or-map m.word xs k (pos 0) 0 lt)) (rule.short (get_or xs k (pos 0)) (inside k (omega arith))))
      (λ (ge : length xs ≤ k). subst P (sym (get_or_past (map m.word xs) k 0 (omega (arith, length-map xs m.word)))) (pow_pos m.bits))
      (cases_lt k (length xs)))
