-- The fields of a line, each behind the other.
use Rattle.std.proofs.Common.{◌≡◌, ℕ, List, [], ◌∷◌, ◌++◌, Some, None, Option, append_assoc, refl}
use Rattle.linelog.specs.Text.{line}
use Rattle.linelog.specs.Lines.{range_fields}
use Rattle.linelog.specs.Written.{spaced}

pub spread : (circuit pair block word number sound : List ℕ) (ranges : Option (ℕ × ℕ))
    → line ((circuit ∷ pair ∷ block ∷ []) ++ (range_fields ranges ++ (word ∷ number ∷ sound ∷ []))) ≡ circuit ++ 32 ∷ (pair ++ 32 ∷ (block ++ 32 ∷ (spaced (range_fields ranges) ++ (word ++ 32 ∷ (number ++ 32 ∷ (sound ++ 10 ∷ []))))))
spread circuit pair block word number sound (Some ranges) = simp append_assoc refl
spread circuit pair block word number sound None = simp append_assoc refl
