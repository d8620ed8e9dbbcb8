-- The search of a list for its first refusal, step by step; what one call says of one element; and a list written from
-- another, element by element.
use Rattle.std.proofs.Common.{◌≡◌, ℕ, zero, suc, ◌+◌, ◌<◌, ◌≤◌, List, [], ◌∷◌, ◌++◌, map, length, get_or, take, drop, set, sym, ap, ◌∙◌, arith}
use Rattle.std.proofs.lemmas.Bool.Decides.{nat_tests}
use Rattle.std.proofs.lemmas.Bool.{eq-eqb, ne_eqb, cond-true, cond-false}
use Rattle.std.proofs.lemmas.List.{drop_more, drop_all, length-map, length-take-le, set_at, map_more, append_assoc, append-nil, take_all}
use Rattle.words.specs.Answers.{gives, refuses}
use Rattle.words.specs.declared.faults.Layer.{Layer}
use Rattle.words.specs.declared.faults.Layer.TheVariants.{Word}
use Rattle.words.specs.Lists.{first_refused, said}

module _ {X : Type 0} (f : X → ℕ) (xs : List X) (i : ℕ) where
  pub refusal_more : (d : X) → i < length xs → f (get_or xs i d) ≡ 0 → first_refused f i (drop i xs) ≡ first_refused f (i + 1) (drop (i + 1) xs)
  refusal_more d h z = ap (first_refused f i) (drop_more xs i d h) ∙ cond-true _ _ _ (eq-eqb (f (get_or xs i d)) 0 z)

  pub refusal_stop : (d : X) (n : ℕ) → i < length xs → f (get_or xs i d) ≡ n → 0 < n → first_refused f i (drop i xs) ≡ refuses n i Word
  refusal_stop d n h z p =
      ap (first_refused f i) (drop_more xs i d h)
      ∙ cond-false _ _ _ (ne_eqb (f (get_or xs i d)) 0 (λ q. omega arith)) ∙ ap (λ y. refuses y i Word) z

  pub refusal_end : length xs ≤ i → first_refused f i (drop i xs) ≡ gives tt
  refusal_end h = ap (first_refused f i) (drop_all i xs h)

pub refusal_all : {X : Type 0} (f : X → ℕ) (xs : List X) (i : ℕ) → first_refused f i xs ≡ gives tt → (k : ℕ) (d : X) → k < length xs → f (get_or xs k d) ≡ 0
refusal_all f [] i e k d h = absurd (omega arith)
refusal_all f (x ∷ xs) i e zero d h = grind (arith, nat_tests)
refusal_all f (x ∷ xs) i e (suc k) d h = refusal_all f xs (i + 1) (let t : first_refused f (i + 1) xs ≡ gives tt = grind (arith, nat_tests) in t) k d (omega arith)

module _ {A B : Type 0} (f : A → ℕ) (g : A → B) (x : A) where
  pub said_no : (n p : ℕ) (l : Layer) → refuses n p l ≡ said f g x → (f x ≡ n) × (0 < n) × (l ≡ Word)
  said_no n p l e = grind (arith, nat_tests)

  pub said_yes : (y : B) → gives y ≡ said f g x → (f x ≡ 0) × (y ≡ g x)
  said_yes y e = grind (arith, nat_tests)

-- where all were tried, none is refused
pub none_left : {A B : Type 0} (f : A → ℕ) (g : A → B) (xs : List A) (i : ℕ) (x : A) (n p : ℕ) (l : Layer) → first_refused f 0 xs ≡ gives tt → i < length xs → x ≡ get_or xs i x → refuses n p l ≡ said f g x → ⊥
none_left f g xs i x n p l all h at e =
    let no = said_no f g x n p l e in
    let yes = ap f at ∙ refusal_all f xs 0 all i x h in
    omega arith

-- one element more of a list that is written from another
pub wrote_more : {X Y : Type 0} (f : X → Y) (xs : List X) (ys zs : List Y) (i : ℕ) (d : X) → i < length xs → i < length zs → ys ≡ map f (take i xs) ++ drop i zs → set ys i (f (get_or xs i d)) ≡ map f (take (i + 1) xs) ++ drop (i + 1) zs
wrote_more f xs ys zs i d h k e =
    let n : length (map f (take i xs)) ≡ i = length-map (take i xs) f ∙ length-take-le i xs (omega arith) in
    ap (λ l. set l i (f (get_or xs i d))) (e ∙ ap (λ l. map f (take i xs) ++ l) (drop_more zs i (f d) k))
    ∙ set_at (map f (take i xs)) (get_or zs i (f d)) (drop (i + 1) zs) (f (get_or xs i d)) i n
    ∙ sym (ap (λ l. l ++ drop (i + 1) zs) (map_more f xs i d h) ∙ append_assoc (map f (take i xs)) (f (get_or xs i d) ∷ []) (drop (i + 1) zs))

pub wrote_all : {X Y : Type 0} (f : X → Y) (xs : List X) (ys zs : List Y) (i : ℕ) → length xs ≤ i → length zs ≤ i → ys ≡ map f (take i xs) ++ drop i zs → ys ≡ map f xs
wrote_all f xs ys zs i h k e =
    e ∙ ap (λ l. map f l ++ drop i zs) (take_all i xs h) ∙ ap (λ l. map f xs ++ l) (drop_all i zs k) ∙ append-nil (map f xs)
