-- Two rows in one.
use Rattle.std.proofs.Common.{◌≡◌, ℕ, zero, suc, List, [], ◌∷◌, ◌++◌, length, get_or, drop, ℤ, pos, ap, ◌∙◌, arith}
use borrow.Rule.Slice.PartMut.{put_mid, post_of}
use Rattle.std.proofs.lemmas.List.{take_at, drop_at, drop_all, append-nil}

-- the second half of a row written over
pub half_written : (first second rest : List ℤ) → length first ≡ 32 → length rest ≡ 32 → put_mid 32 32 (first ++ rest) second ≡ first ++ second
half_written first second rest n m =
    ap (λ xs. xs ++ (second ++ post_of 32 32 (first ++ rest))) (take_at first rest 32 n)
    ∙ ap (λ xs. first ++ (second ++ xs)) (ap (drop 32) (drop_at first rest 32 n) ∙ drop_all 32 rest (omega (arith, m)))
    ∙ ap (λ xs. first ++ xs) (append-nil second)

-- what holds at every place of both, past their ends too, holds of the row
pub holds_of_both : (P : ℤ → Type 0) (first second : List ℤ) → ((k : ℕ) → P (get_or first k (pos 0))) → ((k : ℕ) → P (get_or second k (pos 0))) → (k : ℕ) → P (get_or (first ++ second) k (pos 0))
holds_of_both P [] second p q k = q k
holds_of_both P (x ∷ first) second p q zero = p 0
holds_of_both P (x ∷ first) second p q (suc k) = holds_of_both P first second (λ j. p (suc j)) q k
