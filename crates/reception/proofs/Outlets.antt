-- An outlet refuses no sample, so that 64 samples are companded wherever there is room for 64 words.
use Rattle.std.proofs.Common.{◌≡◌, ℕ, suc, ◌+◌, ◌^◌, ◌<◌, Bool, true, false, cond, eqb, List, [], ◌∷◌, map, length, get_or, ℤ, pos, negsuc, is_ok, Ok, Err, Result, refl, ap, ◌∙◌, arith}
use lib.Signed.{mag}
use Rattle.std.proofs.lemmas.Int.{ints}
use Rattle.std.proofs.lemmas.Bool.{cond-true, eq-eqb}
use Rattle.words.specs.declared.faults.WordFault.{WordFault}
use Rattle.words.specs.declared.faults.Layer.TheVariants.{Word}
use Rattle.words.specs.Meaning.{Meaning, Wide, inside}
use Rattle.words.specs.Answers.{Answer, gives, refuses, answer}
use Rattle.words.specs.Lists.{unmade, first_refused, making_all}

is_inside : (m : Meaning) → Wide m → (v : ℤ) → mag v < 2 ^ 13 → inside m v ≡ true
is_inside m w (pos a) h = grind (arith, ints, w.low, w.high)
is_inside m w (negsuc a) h = grind (arith, ints, w.low, w.high)

made : (m : Meaning) → Wide m → (v : ℤ) → mag v < 2 ^ 13 → unmade m v ≡ 0
made m w v h = cond-true (inside m v) 0 2 (is_inside m w v h)

none_refused : (m : Meaning) → Wide m → (samples : List ℤ) (i : ℕ) → ((k : ℕ) → mag (get_or samples k (pos 0)) < 2 ^ 13) → first_refused (unmade m) i samples ≡ gives tt
none_refused m w [] i small = refl
none_refused m w (v ∷ vs) i small = cond-true _ _ _ (eq-eqb (unmade m v) 0 (made m w v (small 0))) ∙ none_refused m w vs (i + 1) (λ k. small (suc k))

-- accepted exactly where there is room
accepted : (r : Result (Unit {0}) WordFault) (room : Bool) (n : ℕ) → answer r ≡ cond room (gives tt) (refuses 6 n Word) → is_ok r ≡ room
accepted (Ok x) true n e = refl
accepted (Ok x) false n e = let z : ◌≡◌ {A = ℕ} 0 1 = cc in absurd (omega arith)
accepted (Err x) true n e = let z : ◌≡◌ {A = ℕ} 0 1 = cc in absurd (omega arith)
accepted (Err x) false n e = refl

module _ (m : Meaning) (w : Wide m) (samples : List ℤ) (all : length samples ≡ 64) (small : (k : ℕ) → mag (get_or samples k (pos 0)) < 2 ^ 13) where
  by_room : (n : ℕ) → making_all m samples n ≡ cond (eqb n 64) (gives tt) (refuses 6 n Word)
  by_room n =
      ap (λ (l : ℕ). cond (eqb n l) (first_refused (unmade m) 0 samples) (refuses 6 n Word)) all
      ∙ ap (λ (a : Answer (Unit {0})). cond (eqb n 64) a (refuses 6 n Word)) (none_refused m w samples 0 small)

  pub companded : (r : Result (Unit {0}) WordFault) (before now : List ℕ) → answer r ≡ making_all m samples (length before)
      → now ≡ cond (is_ok r) (map m.word samples) before → now ≡ cond (eqb (length before) 64) (map m.word samples) before
  companded r before now a b =
      b ∙ ap (λ (t : Bool). cond t (map m.word samples) before) (accepted r (eqb (length before) 64) (length before) (a ∙ by_room (length before)))
