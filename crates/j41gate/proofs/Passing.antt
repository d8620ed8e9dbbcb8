-- Where words were made of all values, they are read again: by the cell rule, for any law.
use Rattle.std.proofs.Common.{◌≡◌, ℕ, ◌+◌, List, [], ◌∷◌, map, length, ℤ, sym, refl, ap, ◌∙◌, arith}
use Rattle.std.proofs.lemmas.Int.{ints}
use Rattle.std.proofs.lemmas.Bool.Decides.{nat_tests}
use Rattle.std.proofs.lemmas.Bool.{cond-true, eq-eqb}
use Rattle.std.proofs.lemmas.List.{length-map}
use Rattle.words.specs.Answers.{gives}
use Rattle.words.specs.Lists.{first_refused, unmade, making_all, reading_all}
use Rattle.words.specs.Meaning.{Meaning, CellRule, Inside, middle}
use Rattle.j41gate.specs.Trial.{distances, moved, largest, after, passing}

moved_is : (m : Meaning) (vs : List ℤ) → distances vs (map (middle m) (map m.word vs)) ≡ map (moved m) vs
moved_is m [] = refl
moved_is m (v ∷ vs) = ap (λ l. moved m v ∷ l) (moved_is m vs)

inside_is : (m : Meaning) (v : ℤ) → unmade m v ≡ 0 → Inside m v
inside_is m v e = record { above = grind (arith, ints, nat_tests); below = grind (arith, ints, nat_tests) }

module _ (m : Meaning) (rule : CellRule m) where
  made_read : (vs : List ℤ) (i j : ℕ) → first_refused (unmade m) i vs ≡ gives tt → first_refused m.refusal j (map m.word vs) ≡ gives tt
  made_read [] i j e = refl
  made_read (v ∷ vs) i j e =
      let made : unmade m v ≡ 0 = grind (arith, nat_tests) in
      let rest : first_refused (unmade m) (i + 1) vs ≡ gives tt = grind (arith, nat_tests) in
      cond-true _ _ _ (eq-eqb (m.refusal (m.word v)) 0 (rule.read v (inside_is m v made))) ∙ made_read vs (i + 1) (j + 1) rest

  -- 64 values that have words
  pub all_read : (vs : List ℤ) → gives tt ≡ making_all m vs 64 → length vs ≡ 64 → reading_all m (map m.word vs) 64 ≡ gives tt
  all_read vs e n =
      let words : length (map m.word vs) ≡ 64 = length-map vs m.word ∙ n in
      let made : first_refused (unmade m) 0 vs ≡ gives tt = sym (e ∙ cond-true _ _ _ (eq-eqb 64 (length vs) (sym n))) in
      cond-true _ _ _ (eq-eqb 64 (length (map m.word vs)) (sym words)) ∙ made_read vs 0 0 made

-- what the trial answers where both calls passed
pub passed : (m : Meaning) (samples values back : List ℤ) (words : List ℕ) (most : ℕ) → values ≡ samples → gives tt ≡ making_all m values 64 → words ≡ map m.word values → back ≡ map (middle m) words → most ≡ largest (distances values back) → gives most ≡ passing m samples
passed m samples values back words most same made made_is read_is far =
    let again : back ≡ map (middle m) (map m.word values) = read_is ∙ ap (map (middle m)) made_is in
    ap gives (far ∙ ap (λ l. largest (distances values l)) again ∙ ap largest (moved_is m values))
    ∙ ap (λ a. after a (largest (map (moved m) values))) made
    ∙ ap (passing m) same
