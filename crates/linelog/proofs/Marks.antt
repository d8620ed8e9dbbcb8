-- Counting sound samples, one mark after the other.
use Rattle.std.proofs.Common.{◌≡◌, ℕ, ◌+◌, ◌<◌, Bool, true, false, List, [], ◌∷◌, ◌++◌, length, get_or, take, refl, ap, ◌∙◌, arith}
use Rattle.std.proofs.lemmas.List.{take_more}
use Rattle.linelog.specs.Lines.{sound_samples}

push_true : (marks : List Bool) → sound_samples (marks ++ true ∷ []) ≡ sound_samples marks + 1
push_true [] = refl
push_true (true ∷ marks) = omega (arith, push_true marks)
push_true (false ∷ marks) = push_true marks

push_false : (marks : List Bool) → sound_samples (marks ++ false ∷ []) ≡ sound_samples marks
push_false [] = refl
push_false (true ∷ marks) = ap (λ n. 1 + n) (push_false marks)
push_false (false ∷ marks) = push_false marks

pub one_more : (marks : List Bool) (i : ℕ) → i < length marks → get_or marks i false ≡ true → sound_samples (take (i + 1) marks) ≡ sound_samples (take i marks) + 1
one_more marks i inside is = ap sound_samples (take_more marks i false inside ∙ ap (λ m. take i marks ++ m ∷ []) is) ∙ push_true (take i marks)

pub no_more : (marks : List Bool) (i : ℕ) → i < length marks → get_or marks i false ≡ false → sound_samples (take (i + 1) marks) ≡ sound_samples (take i marks)
no_more marks i inside is = ap sound_samples (take_more marks i false inside ∙ ap (λ m. take i marks ++ m ∷ []) is) ∙ push_false (take i marks)
