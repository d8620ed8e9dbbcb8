-- Two rows of bits that agree at all places but one.
use Rattle.std.proofs.Common.{◌≡◌, ℕ, zero, suc, ◌+◌, ◌-◌, ◌*◌, ◌^◌, ◌<◌, ◌≤◌, Bool, true, false, ◌⊎◌, sym, refl, ap, ◌∙◌, inl, inr, arith, below_more}
use lib.Bits.{bit_xor, xor_block, xor_zero_r}
use Rattle.std.proofs.lemmas.Nat.{pow-add}
use Rattle.guards.specs.Bits.{number}
use Rattle.guards.specs.Rows.{Bits, number_same, last_or_before}

-- f and g agree on the first n places, or at all of them but one, of which P is known and where one has 0 and the other 1
pub data OneOff (P : ℕ → Type 0) (f g : ℕ → ℕ) (n : ℕ) : Type 0 where
  same : ((t : ℕ) → t < n → f t ≡ g t) → OneOff P f g n
  off : (k : ℕ) → k < n → P k → f k + g k ≡ 1 → ((t : ℕ) → t < n → (t ≡ k → ⊥) → f t ≡ g t) → OneOff P f g n

abbrev None : (ℕ → Bool) → ℕ → Type 0
None p n = (x : ℕ) → x < n → p x ≡ false

abbrev SomePlace : (ℕ → Bool) → ℕ → Type 0
SomePlace p n = (x : ℕ) × (x < n) × (p x ≡ true)

find_step : (p : ℕ → Bool) (n : ℕ) (b : Bool) → p n ≡ b → None p n ⊎ SomePlace p n → None p (suc n) ⊎ SomePlace p (suc n)
find_step p n true e r = inr (n, omega arith, e)
find_step p n false e (inr (x, h, t)) = inr (x, omega arith, t)
find_step p n false e (inl none) = inl (λ x h. below_more (λ x. p x ≡ false) n none e x (omega arith))

pub find : (p : ℕ → Bool) (n : ℕ) → None p n ⊎ SomePlace p n
find p zero = inl (λ x h. absurd (omega arith))
find p (suc n) = find_step p n (p n) refl (find p n)

equal_or_off : (a b : ℕ) → a ≤ 1 → b ≤ 1 → (a ≡ b) ⊎ (a + b ≡ 1)
equal_or_off a b h k = search arith

place_by : (x t : ℕ) → (t ≡ x) ⊎ (t ≡ x → ⊥)
place_by x t = search arith

module _ (P : ℕ → Type 0) (f g : ℕ → ℕ) (bf : Bits f) (bg : Bits g) (n : ℕ) (hit : ℕ → Bool) (struck : (x : ℕ) → hit x ≡ true → P x)
    (only : (x y : ℕ) → x < n → y < n → hit x ≡ true → hit y ≡ true → x ≡ y)
    (rest : (x : ℕ) → x < n → hit x ≡ false → f x ≡ g x) where
  missed : (x y : ℕ) → x < n → y < n → hit x ≡ true → (y ≡ x → ⊥) → (b : Bool) → hit y ≡ b → f y ≡ g y
  missed x y h k t ne true e = absurd (ne (only y x k h e t))
  missed x y h k t ne false e = rest y k e

  one_by : (x : ℕ) → x < n → hit x ≡ true → (f x ≡ g x) ⊎ (f x + g x ≡ 1) → OneOff P f g n
  one_by x h t (inr o) = off x h (struck x t) o (λ y k ne. missed x y h k t ne (hit y) refl)
  one_by x h t (inl s) = same (λ y k. both y k (place_by x y))
    where
      both : (y : ℕ) → y < n → (y ≡ x) ⊎ (y ≡ x → ⊥) → f y ≡ g y
      both y k (inl e) = ap f e ∙ s ∙ ap g (sym e)
      both y k (inr ne) = missed x y h k t ne (hit y) refl

  found : None hit n ⊎ SomePlace hit n → OneOff P f g n
  found (inl none) = same (λ y k. rest y k (none y k))
  found (inr (x, h, t)) = one_by x h t (equal_or_off (f x) (g x) (bf x) (bg x))

  -- rows that can differ only where they are hit, which is one place at most
  pub one_off : OneOff P f g n
  one_off = found (find hit n)

-- one bit the other way is the number with that power of two the other way
tail_flip : (x b c : ℕ) → b + c ≡ 1 → bit_xor (2 * x + b) 1 ≡ 2 * x + c
tail_flip x zero c e = ap (λ y. bit_xor y 1) (omega arith) ∙ xor_block 1 x 0 0 1 (omega arith) (omega arith) ∙ ap (λ y. y * 2 + 1) (xor_zero_r x) ∙ omega arith
tail_flip x (suc zero) c e = ap (λ y. bit_xor y 1) (omega arith) ∙ xor_block 1 x 0 1 1 (omega arith) (omega arith) ∙ ap (λ y. y * 2 + 0) (xor_zero_r x) ∙ omega arith
tail_flip x (suc (suc b)) c e = absurd (omega arith)

head_flip : (x b e e' : ℕ) → b ≤ 1 → e' ≡ e + 1 → bit_xor (2 * x + b) (2 ^ e') ≡ 2 * bit_xor x (2 ^ e) + b
head_flip x b e e' h s =
    let p : 2 ^ e' ≡ 2 ^ e * 2 ^ 1 + 0 = ap (λ k. 2 ^ k) s ∙ pow-add 2 e 1 ∙ omega arith in
    let q : 2 * x + b ≡ x * 2 ^ 1 + b = omega arith in
    ap (λ y. bit_xor y (2 ^ e')) q ∙ ap (bit_xor (x * 2 ^ 1 + b)) p ∙ xor_block 1 x (2 ^ e) b 0 (omega arith) (omega arith)
    ∙ ap (λ y. bit_xor x (2 ^ e) * 2 + y) (xor_zero_r b) ∙ omega arith

flip_by : (f g : ℕ → ℕ) (n k : ℕ) → f n ≤ 1 → f k + g k ≡ 1 → (k < n) ⊎ (k ≡ n) → ((t : ℕ) → t < suc n → (t ≡ k → ⊥) → f t ≡ g t)
    → (k < n → number g n ≡ bit_xor (number f n) (2 ^ (n - (k + 1)))) → number g (suc n) ≡ bit_xor (number f (suc n)) (2 ^ (suc n - (k + 1)))
flip_by f g n k b o (inl h) rest r =
    let s : f n ≡ g n = rest n (omega arith) (omega arith) in
    ap (λ y. 2 * y + g n) (r h) ∙ ap (λ y. 2 * bit_xor (number f n) (2 ^ (n - (k + 1))) + y) (sym s)
    ∙ sym (head_flip (number f n) (f n) (n - (k + 1)) (suc n - (k + 1)) b (omega arith))
flip_by f g n k b o (inr e) rest r =
    let s : number f n ≡ number g n = number_same f g n (λ t h. rest t (omega arith) (omega arith)) in
    let z : suc n - (k + 1) ≡ 0 = omega arith in
    let o' : f n + g n ≡ 1 = ap (λ j. f j + g j) (sym e) ∙ o in
    ap (λ y. 2 * y + g n) (sym s) ∙ sym (tail_flip (number f n) (f n) (g n) o') ∙ ap (λ j. bit_xor (2 * number f n + f n) (2 ^ j)) (sym z)

pub number_flip : (f g : ℕ → ℕ) → Bits f → (n k : ℕ) → k < n → f k + g k ≡ 1 → ((t : ℕ) → t < n → (t ≡ k → ⊥) → f t ≡ g t) → number g n ≡ bit_xor (number f n) (2 ^ (n - (k + 1)))
number_flip f g b zero k h o rest = absurd (omega arith)
number_flip f g b (suc n) k h o rest =
    flip_by f g n k (b n) o (last_or_before k n h) rest (λ l. number_flip f g b n k l o (λ t m. rest t (omega arith)))
