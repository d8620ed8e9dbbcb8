-- The guard bits of two rows of guarded bits.
use Rattle.std.proofs.Common.{◌≡◌, ℕ, zero, suc, ◌+◌, ◌-◌, ◌*◌, ◌/◌, ◌%◌, ◌<◌, ◌≤◌, Bool, true, false, cond, ◌&&◌, eqb, ltb, leb, ◌⊎◌, map, sym, refl, ap, ◌∙◌, inl, inr, arith}
use Rattle.std.specs.List.{range_with_len}
use Rattle.std.proofs.lemmas.Bool.{and_parts, ltb-true, leb-true, eqb-true}
use Rattle.guards.specs.Bits.{total}
use Rattle.guards.specs.Parities.{guard_bit}
use Rattle.guards.specs.Counts.{same_at, below, each}
use Rattle.guards.specs.Rows.{Bits}
use Rattle.damage.proofs.Guarded.{in_row}

-- sums of rows
pub total_same : (f g : ℕ → ℕ) (a n : ℕ) → ((x : ℕ) → a ≤ x → x < a + n → f x ≡ g x) → total f a n ≡ total g a n
total_same f g a zero e = refl
total_same f g a (suc n) e =
    let r : total f a n ≡ total g a n = total_same f g a n (λ x l h. e x l (omega arith)) in
    omega (arith, r, e (a + n) (omega arith) (omega arith))

off_by : (f g : ℕ → ℕ) (a n k : ℕ) → a ≤ k → (k < a + n) ⊎ (k ≡ a + n) → ((x : ℕ) → a ≤ x → x < a + suc n → (x ≡ k → ⊥) → f x ≡ g x)
    → (k < a + n → total g a n + f k ≡ total f a n + g k) → total g a (suc n) + f k ≡ total f a (suc n) + g k
off_by f g a n k l (inl h) e r = omega (arith, r h, e (a + n) (omega arith) (omega arith) (omega arith))
off_by f g a n k l (inr s) e r =
    let t : total f a n ≡ total g a n = total_same f g a n (λ x m h. e x m (omega arith) (omega arith)) in
    omega (arith, t, ap f s, ap g s)

last_of : (a n k : ℕ) → k < a + suc n → (k < a + n) ⊎ (k ≡ a + n)
last_of a n k h = search arith

pub total_off : (f g : ℕ → ℕ) (a n k : ℕ) → a ≤ k → k < a + n → ((x : ℕ) → a ≤ x → x < a + n → (x ≡ k → ⊥) → f x ≡ g x) → total g a n + f k ≡ total f a n + g k
total_off f g a zero k l h e = absurd (omega arith)
total_off f g a (suc n) k l h e = off_by f g a n k l (last_of a n k h) e (λ m. total_off f g a n k l m (λ x p q. e x p (omega arith)))

split : (f : ℕ → ℕ) (a b : ℕ) → b ≡ a + 4 → total f a 8 ≡ total f a 4 + total f b 4
split f a b e =
    let e0 : b + 0 ≡ a + 4 = omega arith in
    let e1 : b + 1 ≡ a + 5 = omega arith in
    let e2 : b + 2 ≡ a + 6 = omega arith in
    let e3 : b + 3 ≡ a + 7 = omega arith in
    omega (arith, ap f e0, ap f e1, ap f e2, ap f e3)

-- guard bit t, from 0, of a row of guarded bits
abbrev pub row_guard : (ℕ → ℕ) → ℕ → ℕ
row_guard f t =
    cond (ltb t 16) (total f (5 * t) 5 % 2)
    (cond (ltb t 24) ((total f (80 + 8 * (t - 16)) 4 + total f (84 + 8 * (t - 16)) 4) % 2) (f (t + 120)))

guard_rows : (h : ℕ → ℕ → ℕ) (c : ℕ → ℕ) → map (λ t. guard_bit h c (t + 1)) (range_with_len 0 29) ≡ map (row_guard (in_row h c)) (range_with_len 0 29)
guard_rows h c = refl

pub guard_row : (h : ℕ → ℕ → ℕ) (c : ℕ → ℕ) (t : ℕ) → t < 29 → guard_bit h c (t + 1) ≡ row_guard (in_row h c) t
guard_row h c t l = same_at (λ t. guard_bit h c (t + 1)) (row_guard (in_row h c)) 0 29 (guard_rows h c) t (omega arith) (omega arith)

-- it covers `count t` bits from `start t` on, and bit x is covered by guard bit `group x`
abbrev pub start : ℕ → ℕ
start t = cond (ltb t 16) (5 * t) (cond (ltb t 24) (80 + 8 * (t - 16)) (t + 120))

abbrev pub count : ℕ → ℕ
count t = cond (ltb t 16) 5 (cond (ltb t 24) 8 1)

abbrev pub group : ℕ → ℕ
group x = cond (ltb x 80) (x / 5) (cond (ltb x 144) (16 + (x - 80) / 8) (x - 120))

total_by : (f : ℕ → ℕ) → Bits f → (t : ℕ) (b c : Bool)
    → cond b (total f (5 * t) 5 % 2) (cond c ((total f (80 + 8 * (t - 16)) 4 + total f (84 + 8 * (t - 16)) 4) % 2) (f (t + 120)))
    ≡ total f (cond b (5 * t) (cond c (80 + 8 * (t - 16)) (t + 120))) (cond b 5 (cond c 8 1)) % 2
total_by f h t true c = refl
total_by f h t false true = ap (λ v. v % 2) (sym (split f (80 + 8 * (t - 16)) (84 + 8 * (t - 16)) (omega arith)))
total_by f h t false false = let z : t + 120 + 0 ≡ t + 120 = omega arith in omega (arith, h (t + 120), ap f z)

pub row_total : (f : ℕ → ℕ) → Bits f → (t : ℕ) → row_guard f t ≡ total f (start t) (count t) % 2
row_total f h t = total_by f h t (ltb t 16) (ltb t 24)

bit_by : (f : ℕ → ℕ) → Bits f → (t : ℕ) (b c : Bool)
    → cond b (total f (5 * t) 5 % 2) (cond c ((total f (80 + 8 * (t - 16)) 4 + total f (84 + 8 * (t - 16)) 4) % 2) (f (t + 120))) ≤ 1
bit_by f h t true c = omega arith
bit_by f h t false true = omega arith
bit_by f h t false false = h (t + 120)

pub row_guard_bits : (f : ℕ → ℕ) → Bits f → Bits (row_guard f)
row_guard_bits f h t = bit_by f h t (ltb t 16) (ltb t 24)

-- computed: the groups lie side by side
ends_test : below (λ t. leb (start t + count t) 149) 29 ≡ true
ends_test = refl

ends : (t : ℕ) → t < 29 → start t + count t ≤ 149
ends t h = leb-true _ _ (each (λ t. leb (start t + count t) 149) 29 ends_test t h)

within_test : below (λ x. ltb (group x) 29 && (leb (start (group x)) x && ltb x (start (group x) + count (group x)))) 149 ≡ true
within_test = refl

pub within : (x : ℕ) → x < 149 → (group x < 29) × (start (group x) ≤ x) × (x < start (group x) + count (group x))
within x h =
    let t = each (λ x. ltb (group x) 29 && (leb (start (group x)) x && ltb x (start (group x) + count (group x)))) 149 within_test x h in
    let p = and_parts (ltb (group x) 29) (leb (start (group x)) x && ltb x (start (group x) + count (group x))) t in
    let q = and_parts (leb (start (group x)) x) (ltb x (start (group x) + count (group x))) p.1 in
    (ltb-true _ _ p.0, leb-true _ _ q.0, ltb-true _ _ q.1)

group_test : below (λ t. below (λ i. eqb (group (start t + i)) t) (count t)) 29 ≡ true
group_test = refl

group_in : (t x : ℕ) → t < 29 → start t ≤ x → x < start t + count t → group x ≡ t
group_in t x h l u =
    let e : start t + (x - start t) ≡ x = omega arith in
    let i : x - start t < count t = omega arith in
    ap group (sym e) ∙ eqb-true _ _ (each (λ i. eqb (group (start t + i)) t) (count t) (each (λ t. below (λ i. eqb (group (start t + i)) t) (count t)) 29 group_test t h) (x - start t) i)

module _ (f g : ℕ → ℕ) (bf : Bits f) (bg : Bits g) where
  pub guards_same : ((x : ℕ) → x < 149 → f x ≡ g x) → (t : ℕ) → t < 29 → row_guard f t ≡ row_guard g t
  guards_same e t h =
      let n : start t + count t ≤ 149 = ends t h in
      row_total f bf t ∙ ap (λ v. v % 2) (total_same f g (start t) (count t) (λ x l u. e x (omega arith))) ∙ sym (row_total g bg t)

  module _ (k : ℕ) (low : k < 149) (o : f k + g k ≡ 1) (rest : (x : ℕ) → x < 149 → (x ≡ k → ⊥) → f x ≡ g x) where
    pub guard_off : row_guard f (group k) + row_guard g (group k) ≡ 1
    guard_off =
        let w = within k low in
        let n : start (group k) + count (group k) ≤ 149 = ends (group k) w.0 in
        let s : total g (start (group k)) (count (group k)) + f k ≡ total f (start (group k)) (count (group k)) + g k =
        total_off f g (start (group k)) (count (group k)) k w.1 w.2 (λ x l u ne. rest x (omega arith) ne) in
        omega (arith, s, o, row_total f bf (group k), row_total g bg (group k))

    pub guard_else : (t : ℕ) → t < 29 → (t ≡ group k → ⊥) → row_guard f t ≡ row_guard g t
    guard_else t h ne =
        let n : start t + count t ≤ 149 = ends t h in
        row_total f bf t
        ∙ ap (λ v. v % 2) (total_same f g (start t) (count t) (λ x l u. rest x (omega arith) (λ e. ne (sym (group_in t x h l u) ∙ ap group e))))
        ∙ sym (row_total g bg t)
