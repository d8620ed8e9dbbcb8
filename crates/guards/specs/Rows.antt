-- Rows of bits as numbers, and numbers as rows of bits.
use Rattle.std.specs.Prelude.{◌≡◌, ℕ, zero, suc, ◌+◌, ◌-◌, ◌*◌, ◌/◌, ◌%◌, ◌^◌, ◌<◌, ◌≤◌, ◌⊎◌, bit_xor, refl}
use Rattle.std.proofs.Common.{sym, ap, ◌∙◌, inl, inr, arith, pow_mono}
use Rattle.std.proofs.lemmas.Nat.{shr-shr, pow-add, mod-pow-add, mod_below, xor_block}
use Rattle.guards.specs.Bits.{number, bit_in}

-- each place of a row holds a bit
abbrev pub Bits : (ℕ → ℕ) → Type 0
Bits f = (t : ℕ) → f t ≤ 1

pub last_or_before : (k n : ℕ) → k < suc n → (k < n) ⊎ (k ≡ n)
last_or_before k n h = search arith

pub number_same : (f g : ℕ → ℕ) (n : ℕ) → ((t : ℕ) → t < n → f t ≡ g t) → number f n ≡ number g n
number_same f g zero e = refl
number_same f g (suc n) e =
    let r : number f n ≡ number g n = number_same f g n (λ t h. e t (omega arith)) in
    omega (arith, r, e n (omega arith))

pub number_below : (f : ℕ → ℕ) → Bits f → (n : ℕ) → number f n < 2 ^ n
number_below f b zero = omega arith
number_below f b (suc n) = omega (arith, number_below f b n, b n, pow-add 2 n 1)

-- a bit further up, seen from one bit less
shift : (x b e e' : ℕ) → b ≤ 1 → e' ≡ 1 + e → (2 * x + b) / 2 ^ e' ≡ x / 2 ^ e
shift x b e e' h s =
    let half : (2 * x + b) / 2 ≡ x = omega arith in
    ap (λ k. (2 * x + b) / 2 ^ k) s ∙ sym (shr-shr (2 * x + b) 1 e) ∙ ap (λ y. y / 2 ^ e) half

bit_by : (f : ℕ → ℕ) → Bits f → (n k : ℕ) → (k < n) ⊎ (k ≡ n) → (k < n → number f n / 2 ^ (n - (k + 1)) % 2 ≡ f k) → number f (suc n) / 2 ^ (suc n - (k + 1)) % 2 ≡ f k
bit_by f b n k (inl h) r = ap (λ y. y % 2) (shift (number f n) (f n) (n - (k + 1)) (suc n - (k + 1)) (b n) (omega arith)) ∙ r h
bit_by f b n k (inr e) r =
    let z : suc n - (k + 1) ≡ 0 = omega arith in
    ap (λ j. (2 * number f n + f n) / 2 ^ j % 2) z ∙ omega (arith, b n) ∙ ap f (sym e)

pub bit_of_number : (f : ℕ → ℕ) → Bits f → (n k : ℕ) → k < n → bit_in n (number f n) (k + 1) ≡ f k
bit_of_number f b zero k h = absurd (omega arith)
bit_of_number f b (suc n) k h = bit_by f b n k (last_or_before k n h) (bit_of_number f b n k)

-- the first m bits of the n of a number are its part above the others
front : (w n m : ℕ) → m ≤ n → number (λ t. bit_in n w (t + 1)) m ≡ w / 2 ^ (n - m) % 2 ^ m
front w n zero l = omega (arith, mod_below (w / 2 ^ (n - 0)) 1 (omega arith))
front w n (suc m) l =
    let j : ℕ = n - (m + 1) in
    let s : n - m ≡ j + 1 = omega arith in
    let u : n - suc m ≡ j = omega arith in
    let v : suc m ≡ m + 1 = omega arith in
    let half : w / 2 ^ (n - m) ≡ w / 2 ^ j / 2 = ap (λ k. w / 2 ^ k) s ∙ sym (shr-shr w j 1) in
    ap (λ y. 2 * y + w / 2 ^ j % 2) (front w n m (omega arith) ∙ ap (λ y. y % 2 ^ m) half)
    ∙ omega (arith, mod-pow-add (w / 2 ^ j) m 1) ∙ sym (ap (λ k. w / 2 ^ k % 2 ^ suc m) u ∙ ap (λ k. w / 2 ^ j % 2 ^ k) v)

pub number_of_bits : (w n : ℕ) → number (λ t. bit_in n w (t + 1)) n ≡ w % 2 ^ n
number_of_bits w n =
    let z : n - n ≡ 0 = omega arith in
    front w n n (omega arith) ∙ ap (λ j. w / 2 ^ j % 2 ^ n) z ∙ ap (λ x. x % 2 ^ n) (omega arith)

-- the sum of two rows
pub number_xor : (f g : ℕ → ℕ) → Bits f → Bits g → (n : ℕ) → number (λ t. bit_xor (f t) (g t)) n ≡ bit_xor (number f n) (number g n)
number_xor f g a b zero = refl
number_xor f g a b (suc n) =
    let flip : (x y : ℕ) → 2 * x + y ≡ x * 2 ^ 1 + y = λ x y. omega arith in
    ap (λ x. 2 * x + bit_xor (f n) (g n)) (number_xor f g a b n) ∙ flip (bit_xor (number f n) (number g n)) (bit_xor (f n) (g n))
    ∙ sym (ap (λ x. bit_xor x (2 * number g n + g n)) (flip (number f n) (f n)) ∙ ap (bit_xor (number f n * 2 ^ 1 + f n)) (flip (number g n) (g n))
    ∙ xor_block 1 (number f n) (number g n) (f n) (g n) (omega (arith, a n)) (omega (arith, b n)))

-- a loop that takes one bit after another
pub number_more : (f : ℕ → ℕ) (n v : ℕ) → v ≡ number f n → 2 * v + f n ≡ number f (n + 1)
number_more f n v e =
    let s : suc n ≡ n + 1 = omega arith in
    ap (λ x. 2 * x + f n) e ∙ ap (number f) s

pub number_room : (f : ℕ → ℕ) → Bits f → (n v : ℕ) → v ≡ number f n → n < 32 → 2 * v + f n < 2 ^ 32
number_room f b n v e h =
    let more : n + 1 ≤ 32 = omega arith in
    let wide : 2 ^ (n + 1) ≤ 2 ^ 32 = pow_mono more in
    omega (arith, number_more f n v e, number_below f b (n + 1))
