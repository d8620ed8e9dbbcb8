-- Counting the ones of a word under a mask: where the mask is a set of positions, their sum modulo 2.
use Rattle.std.specs.Prelude.{◌≡◌, ℕ, zero, suc, ◌+◌, ◌-◌, ◌/◌, ◌%◌, ◌^◌, ◌<◌, ◌≤◌, min, ◌⊎◌, List, [], ◌∷◌, bit_and, bit_xor}
use Rattle.std.proofs.Common.{sym, ap, ◌∙◌, inl, inr, arith}
use Rattle.std.specs.Int.Bits.{and_step, and_zero_r}
use Rattle.std.specs.Int.Count.{ones, ones_in, ones_step}
use Rattle.std.proofs.lemmas.Nat.{shr-shr, pow-add, pow_pos, xor_shr, xor_mod}
use Rattle.guards.specs.Bits.{bit_in}
use Rattle.guards.specs.Codes.{alone}
use Rattle.guards.specs.RangeWord.{sum_at}

bit_cases : (n : ℕ) → (n % 2 ≡ 0) ⊎ (n % 2 ≡ 1)
bit_cases n = search arith

-- the sum modulo 2 of two bits
pub xor_bits : (x y : ℕ) → bit_xor (x % 2) (y % 2) ≡ (x + y) % 2
xor_bits x y = by (bit_cases x) (bit_cases y)
  where
    by : (x % 2 ≡ 0) ⊎ (x % 2 ≡ 1) → (y % 2 ≡ 0) ⊎ (y % 2 ≡ 1) → bit_xor (x % 2) (y % 2) ≡ (x + y) % 2
    by (inl p) (inl q) = rw (p, q) (omega arith)
    by (inl p) (inr q) = rw (p, q) (omega arith)
    by (inr p) (inl q) = rw (p, q) (omega arith)
    by (inr p) (inr q) = rw (p, q) (omega arith)

-- the lowest bit of a masked word, and the rest
lowest : (w m : ℕ) → ones (bit_and w m) ≡ min (w % 2) (m % 2) + ones (bit_and (w / 2) (m / 2))
lowest w m =
    let s = and_step w m in
    let half : bit_and w m / 2 ≡ bit_and (w / 2) (m / 2) = omega arith in
    let bit : bit_and w m % 2 ≡ min (w % 2) (m % 2) = omega arith in
    ones_step (bit_and w m) ∙ ap (λ x. x + ones (bit_and w m / 2)) bit ∙ ap (λ x. min (w % 2) (m % 2) + ones x) half

none : (w : ℕ) → ones (bit_and w 0) ≡ 0
unfolding ones ones_in
none w = ap ones (and_zero_r w)

-- a sum of masks
joined : (x a b m u s t : ℕ) → (x ≡ 0) ⊎ (x ≡ 1) → m ≡ (a + b) % 2 → u % 2 ≡ (s + t) % 2 → (min x m + u) % 2 ≡ (min x (a % 2) + s + (min x (b % 2) + t)) % 2
joined x a b m u s t (inl p) e r = rw p (omega arith)
joined x a b m u s t (inr p) e r =
    let one : min x m ≡ m = omega arith in
    let two : min x (a % 2) ≡ a % 2 = omega arith in
    let three : min x (b % 2) ≡ b % 2 = omega arith in
    rw (one, two, three) (omega arith)

sum_within : (n w a b : ℕ) → a < 2 ^ n → b < 2 ^ n → ones (bit_and w (bit_xor a b)) % 2 ≡ (ones (bit_and w a) + ones (bit_and w b)) % 2
sum_within zero w a b h k =
    let p : a ≡ 0 = omega arith in
    let q : b ≡ 0 = omega arith in
    rw (p, q) (omega (arith, none w))
sum_within (suc n) w a b h k =
    let p = pow-add 2 n 1 in
    let r = sum_within n (w / 2) (a / 2) (b / 2) (omega arith) (omega arith) in
    let bit : bit_xor a b % 2 ≡ (a + b) % 2 = xor_mod a b 1 ∙ xor_bits a b in
    ap (λ x. x % 2) (lowest w (bit_xor a b) ∙ ap (λ x. min (w % 2) (bit_xor a b % 2) + ones (bit_and (w / 2) x)) (xor_shr a b 1))
    ∙ joined (w % 2) a b (bit_xor a b % 2) (ones (bit_and (w / 2) (bit_xor (a / 2) (b / 2)))) (ones (bit_and (w / 2) (a / 2))) (ones (bit_and (w / 2) (b / 2))) (bit_cases w) bit r
    ∙ sym (ap (λ x. (x + ones (bit_and w b)) % 2) (lowest w a) ∙ ap (λ x. (min (w % 2) (a % 2) + ones (bit_and (w / 2) (a / 2)) + x) % 2) (lowest w b))

within : (n m : ℕ) → n ≤ m → n < 2 ^ m
within n zero h = omega arith
within zero (suc m) h = omega (arith, pow_pos (suc m))
within (suc n) (suc m) h = omega (arith, within n m (omega arith), pow-add 2 m 1)

pub masked_sum : (w a b : ℕ) → ones (bit_and w (bit_xor a b)) % 2 ≡ (ones (bit_and w a) + ones (bit_and w b)) % 2
masked_sum w a b = sum_within (a + b) w a b (within a (a + b) (omega arith)) (within b (a + b) (omega arith))

-- one position
pub masked_one : (j w : ℕ) → ones (bit_and w (2 ^ j)) ≡ w / 2 ^ j % 2
masked_one zero w = lowest w 1 ∙ omega (arith, none (w / 2))
masked_one (suc j) w =
    let p = pow-add 2 1 j in
    let even : 2 ^ suc j % 2 ≡ 0 = omega arith in
    let half : 2 ^ suc j / 2 ≡ 2 ^ j = omega arith in
    let s : suc j ≡ 1 + j = omega arith in
    lowest w (2 ^ suc j) ∙ ap (λ x. min (w % 2) (2 ^ suc j % 2) + ones (bit_and (w / 2) x)) half ∙ omega (arith, masked_one j (w / 2)) ∙ ap (λ x. x % 2) (shr-shr w 1 j ∙ ap (λ x. w / 2 ^ x) (sym s))

-- the set of some positions of n
abbrev pub set_of : ℕ → List ℕ → ℕ
set_of n [] = 0
set_of n (k ∷ ks) = bit_xor (alone n k) (set_of n ks)

pub masked : (n w : ℕ) (ks : List ℕ) → ones (bit_and w (set_of n ks)) % 2 ≡ sum_at (bit_in n w) ks % 2
masked n w [] = omega (arith, none w)
masked n w (k ∷ ks) =
    masked_sum w (alone n k) (set_of n ks) ∙ omega (arith, masked_one (n - k) w, masked n w ks)
