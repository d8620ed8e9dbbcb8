-- Arrays made by calls, at each place or at each element of another array, where a call leaves the closure as it was.
use Rattle.std.proofs.Common.{◌≡◌, ℕ, zero, suc, ◌+◌, ◌<◌, ◌≤◌, List, map, length, get_or, sym, ap, ◌∙◌, subst, ⊎_elim, arith}
use Rattle.std.proofs.lemmas.Bool.{cases_eq}
use Rattle.std.proofs.lemmas.List.{length-map, get_or-map, same_lists}
use Rattle.std.proofs.lemmas.List.FromFn.{fill_by_all}
use Rattle.std.specs.Array.{IsFromFnResult, IsFromFnResultFrom, IsMapOf, MapsFrom}
use Rattle.std.specs.List.{range_with_len}
use denote.Param.Members.{Mut, Called}

-- By `array::from_fn`, of n places: what every call promises holds at each place.
module _ {F B : Type 0} (P : ℕ → B → Type 0) (g : Mut F (ℕ × Unit {0}) B) (f : F) (n : ℕ) (d : B)
    (gives : (i : ℕ) (y : B) (q : F) → i < n → Called g f (i, tt) y q → P i y × (q ≡ f)) (ys : List B) where
  each_from : (i m : ℕ) → i + m ≡ n → IsFromFnResultFrom g f ys i m → (k : ℕ) → i ≤ k → k < n → P k (get_or ys k d)
  each_from i zero all c k from upto = absurd (omega arith)
  each_from i (suc m) all c k from upto =
      let one = gives i c.1 c.0 (omega arith) c.3 in
      ⊎_elim
      (λ (here : i ≡ k). subst (λ (j : ℕ). P j (get_or ys j d)) here (subst (P i) (sym (c.2.1 d)) one.0))
      (λ (later : i ≡ k → ⊥).
      each_from (i + 1) m (omega arith) (subst (λ (q : F). IsFromFnResultFrom g q ys (i + 1) m) one.1 c.4) k (omega arith) upto)
      (cases_eq i k)

  pub each_made : IsFromFnResult g f ys n → (k : ℕ) → k < n → P k (get_or ys k d)
  each_made c k h = each_from 0 n (omega arith) c.each k (omega arith) h

-- By `array::from_fn`, where a call at place i gives h i.
module _ {F B : Type 0} (g : Mut F (ℕ × Unit {0}) B) (f : F) (h : ℕ → B) (n : ℕ) (d : B)
    (gives : (i : ℕ) (y : B) (q : F) → i < n → Called g f (i, tt) y q → (y ≡ h i) × (q ≡ f)) where
  pub made : (ys : List B) → IsFromFnResult g f ys n → ys ≡ map h (range_with_len 0 n)
  made ys r = fill_by_all h ys n d r.long (each_made (λ i y. y ≡ h i) g f n d gives ys r)

-- By `map`, where a call at x gives v x.
module _ {F A B : Type 0} (g : Mut F (A × Unit {0}) B) (f : F) (v : A → B)
    (gives : (x : A) (y : B) (q : F) → Called g f (x, tt) y q → (y ≡ v x) × (q ≡ f)) (xs : List A) (ys : List B) where
  mapped_from : (i n : ℕ) → MapsFrom g f xs ys i n → (k : ℕ) (d : B) → i ≤ k → k < i + n → k < length xs → get_or ys k d ≡ get_or (map v xs) k d
  mapped_from i zero m k d from upto inside = absurd (omega arith)
  mapped_from i (suc n) m k d from upto inside =
      let one = gives m.1 m.2 m.0 m.5 in
      ⊎_elim
      (λ (here : i ≡ k).
      subst (λ (j : ℕ). get_or ys j d ≡ get_or (map v xs) j d) here
      (m.4.1 d ∙ one.0 ∙ sym (get_or-map v xs i m.1 d (omega arith) ∙ ap v m.3.0)))
      (λ (later : i ≡ k → ⊥).
      mapped_from (i + 1) n (subst (λ (q : F). MapsFrom g q xs ys (i + 1) n) one.1 m.6) k d (omega arith) (omega arith) inside)
      (cases_eq i k)

  pub mapped : (n : ℕ) → length xs ≡ n → IsMapOf g f xs ys n → ys ≡ map v xs
  mapped n all m =
      same_lists ys (map v xs) (omega (arith, m.long, length-map xs v)) (λ k d h. mapped_from 0 n m.each k d (omega arith) (omega (arith, m.long)) (omega (arith, m.long)))
