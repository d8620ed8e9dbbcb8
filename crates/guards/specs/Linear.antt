-- A sum of columns is linear whatever the columns, and a linear map goes through it.
use Rattle.std.specs.Prelude.{◌≡◌, ℕ, zero, suc, ◌*◌, ◌/◌, ◌%◌, ◌^◌, ◌<◌, ◌⊎◌, refl}
use Rattle.std.proofs.Common.{sym, ap, ◌∙◌, inl, inr, zero-mul, one-mul, mul-zero, arith}
use Rattle.std.specs.Int.Bits.{bit_xor, xor_assoc, xor_zero_l, xor_zero_r, xor_self}
use Rattle.std.proofs.lemmas.Nat.{pow_pos, xor_shr, xor_mod, xor_comm, xor_lt}
use Rattle.guards.specs.Division.{columns}

bit_cases : (n : ℕ) → (n % 2 ≡ 0) ⊎ (n % 2 ≡ 1)
bit_cases n = search arith

pub bit_of_xor : (a b k : ℕ) → bit_xor a b / 2 ^ k % 2 ≡ bit_xor (a / 2 ^ k % 2) (b / 2 ^ k % 2)
bit_of_xor a b k = ap (λ n. n % 2) (xor_shr a b k) ∙ xor_mod (a / 2 ^ k) (b / 2 ^ k) 1

-- a column taken twice is taken away
pick : (x y c : ℕ) → (x ≡ 0) ⊎ (x ≡ 1) → (y ≡ 0) ⊎ (y ≡ 1) → bit_xor x y * c ≡ bit_xor (x * c) (y * c)
pick x y c (inl p) (inl q) = rw (p, q) (zero-mul c ∙ sym (rw (zero-mul c) refl))
pick x y c (inl p) (inr q) = rw (p, q) (rw (zero-mul c, one-mul c) (sym (xor_zero_l c)))
pick x y c (inr p) (inl q) = rw (p, q) (rw (zero-mul c, one-mul c) (sym (xor_zero_r c)))
pick x y c (inr p) (inr q) = rw (p, q) (rw (zero-mul c, one-mul c) (sym (xor_self c)))

swap_middle : (a b c d : ℕ) → bit_xor (bit_xor a b) (bit_xor c d) ≡ bit_xor (bit_xor a c) (bit_xor b d)
swap_middle a b c d =
    xor_assoc a b (bit_xor c d) ∙ ap (bit_xor a) (sym (xor_assoc b c d) ∙ ap (λ x. bit_xor x d) (xor_comm b c) ∙ xor_assoc c b d) ∙ sym (xor_assoc a c (bit_xor b d))

pub columns_sum : (col : ℕ → ℕ) (n a b : ℕ) → columns col n (bit_xor a b) ≡ bit_xor (columns col n a) (columns col n b)
unfolding columns
columns_sum col zero a b = refl
columns_sum col (suc k) a b =
    ap (λ x. bit_xor (x * col k) (columns col k (bit_xor a b))) (bit_of_xor a b k)
    ∙ ap (λ x. bit_xor x (columns col k (bit_xor a b))) (pick (a / 2 ^ k % 2) (b / 2 ^ k % 2) (col k) (bit_cases (a / 2 ^ k)) (bit_cases (b / 2 ^ k)))
    ∙ ap (bit_xor (bit_xor (a / 2 ^ k % 2 * col k) (b / 2 ^ k % 2 * col k))) (columns_sum col k a b)
    ∙ swap_middle (a / 2 ^ k % 2 * col k) (b / 2 ^ k % 2 * col k) (columns col k a) (columns col k b)

-- a linear map of a column that is taken or not
taken : (f : ℕ → ℕ) → f 0 ≡ 0 → (x c : ℕ) → (x ≡ 0) ⊎ (x ≡ 1) → f (x * c) ≡ x * f c
taken f z x c (inl p) = rw p (ap f (zero-mul c) ∙ z ∙ sym (zero-mul (f c)))
taken f z x c (inr p) = rw p (ap f (one-mul c) ∙ sym (one-mul (f c)))

pub columns_through : (f : ℕ → ℕ) → ((a b : ℕ) → f (bit_xor a b) ≡ bit_xor (f a) (f b)) → f 0 ≡ 0 → (col : ℕ → ℕ) (n w : ℕ) → f (columns col n w) ≡ columns (λ k. f (col k)) n w
unfolding columns
columns_through f sums z col zero w = z
columns_through f sums z col (suc k) w =
    sums (w / 2 ^ k % 2 * col k) (columns col k w)
    ∙ ap (λ x. bit_xor x (f (columns col k w))) (taken f z (w / 2 ^ k % 2) (col k) (bit_cases (w / 2 ^ k)))
    ∙ ap (bit_xor (w / 2 ^ k % 2 * f (col k))) (columns_through f sums z col k w)

pub columns_none : (col : ℕ → ℕ) (n w : ℕ) → ((k : ℕ) → k < n → col k ≡ 0) → columns col n w ≡ 0
unfolding columns
columns_none col zero w e = refl
columns_none col (suc k) w e =
    ap (λ x. bit_xor x (columns col k w)) (ap (λ c. w / 2 ^ k % 2 * c) (e k (omega arith)) ∙ mul-zero (w / 2 ^ k % 2))
    ∙ xor_zero_l (columns col k w) ∙ columns_none col k w (λ j h. e j (omega arith))

taken_below : (m x c : ℕ) → (x ≡ 0) ⊎ (x ≡ 1) → c < 2 ^ m → x * c < 2 ^ m
taken_below m x c (inl p) h = rw p (rw (zero-mul c) (pow_pos m))
taken_below m x c (inr p) h = rw p (rw (one-mul c) h)

pub columns_below : (col : ℕ → ℕ) (m n w : ℕ) → ((k : ℕ) → k < n → col k < 2 ^ m) → columns col n w < 2 ^ m
unfolding columns
columns_below col m zero w h = pow_pos m
columns_below col m (suc k) w h =
    xor_lt m (w / 2 ^ k % 2 * col k) (columns col k w) (taken_below m (w / 2 ^ k % 2) (col k) (bit_cases (w / 2 ^ k)) (h k (omega arith))) (columns_below col m k w (λ j l. h j (omega arith)))
