-- Facts of every place of a list, past its end too; and 33 samples cut out of a longer row are a block of it.
use Rattle.std.proofs.Common.{◌≡◌, ℕ, zero, suc, ◌+◌, ◌^◌, ◌<◌, ◌≤◌, List, [], ◌∷◌, ◌++◌, length, get_or, take, drop, ℤ, pos, sym, ap, ◌∙◌, subst, ⊎_elim, arith}
use Rattle.std.proofs.lemmas.Bool.{cases_lt}
use lib.Signed.{mag}
use Rattle.std.proofs.lemmas.List.{length-take-le, length-drop, length-append, get_or-take, get_or-drop, get_or_past, take_more, take-append-le, drop-append-le, get_or-append_right}
use Rattle.std.proofs.lemmas.List.FromFn.{fill_by_all}
use Rattle.pairs.specs.Sending.{block_from}

-- what holds of each element, and of the default, holds at every place
pub everywhere : {X : Type 0} (P : X → Type 0) (xs : List X) (d : X) → P d → ((k : ℕ) → k < length xs → P (get_or xs k d)) → (k : ℕ) → P (get_or xs k d)
everywhere P xs d none all k =
    ⊎_elim
    (λ (lt : k < length xs). all k lt)
    (λ (ge : length xs ≤ k). subst P (sym (get_or_past xs k d ge)) none)
    (cases_lt k (length xs))

-- what holds at every place of two rows holds at every place of both in one
pub in_both : (P : ℤ → Type 0) (xs ys : List ℤ) → ((k : ℕ) → P (get_or xs k (pos 0))) → ((k : ℕ) → P (get_or ys k (pos 0))) → (k : ℕ) → P (get_or (xs ++ ys) k (pos 0))
in_both P [] ys p q k = q k
in_both P (x ∷ xs) ys p q zero = p 0
in_both P (x ∷ xs) ys p q (suc k) = in_both P xs ys (λ j. p (suc j)) q k

-- all of a row from a place on, and the first of the next one
pub and_one_more : (xs ys rest : List ℤ) → length xs ≡ 64 → 0 < length ys → rest ≡ take 32 (drop 32 xs) → rest ++ get_or ys 0 (pos 0) ∷ [] ≡ take 33 (drop 32 (xs ++ ys))
and_one_more xs ys rest n h is =
    let all : length (drop 32 xs) ≡ 32 = length-drop 32 xs ∙ omega (arith, n) in
    let more : 32 < length (drop 32 xs ++ ys) = omega (arith, all, length-append (drop 32 xs) ys) in
    ap (λ zs. zs ++ get_or ys 0 (pos 0) ∷ []) (is ∙ sym (take-append-le 32 (drop 32 xs) ys (omega (arith, all))))
    ∙ ap (λ z. take 32 (drop 32 xs ++ ys) ++ z ∷ []) (sym (get_or-append_right (drop 32 xs) ys 32 32 (pos 0) all (omega arith)))
    ∙ sym (take_more (drop 32 xs ++ ys) 32 (pos 0) more)
    ∙ ap (take 33) (sym (drop-append-le 32 xs ys (omega (arith, n))))

module _ (xs row : List ℤ) (place : ℕ) (room : place + 33 ≤ length xs) (cut : row ≡ take 33 (drop place xs)) where
  pub long : length row ≡ 33
  long = ap length cut ∙ length-take-le 33 (drop place xs) (omega (arith, room, length-drop place xs))

  at : (k : ℕ) → k < 33 → get_or row k (pos 0) ≡ get_or xs (place + k) (pos 0)
  at k h = ap (λ ys. get_or ys k (pos 0)) cut ∙ get_or-take 33 (drop place xs) k (pos 0) h ∙ get_or-drop place xs k (pos 0)

  pub is_block : row ≡ block_from xs place
  unfolding block_from
  is_block = fill_by_all (λ k. get_or xs (place + k) (pos 0)) row 33 (pos 0) long at

  pub small : ((k : ℕ) → mag (get_or xs k (pos 0)) < 2 ^ 13) → (k : ℕ) → mag (get_or row k (pos 0)) < 2 ^ 13
  small all = everywhere (λ v. mag v < 2 ^ 13) row (pos 0) (omega arith) (λ k h. subst (λ v. mag v < 2 ^ 13) (sym (at k (omega (arith, h, long)))) (all (place + k)))
