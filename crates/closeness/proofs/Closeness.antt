-- Sound samples stay close to the samples sent: their levels are near those of the codes sent, and these lie around the samples.
use Rattle.std.proofs.Common.{◌≡◌, ℕ, ◌+◌, ◌-◌, ◌*◌, ◌%◌, ◌^◌, ◌<◌, ◌≤◌, cond, eqb, List, ℤ, ◌+ℤ◌, sym, ap, ◌∙◌, subst, add-mul, mul-add, arith}
use lib.Signed.{mag}
use borrow.Author.Differences.{up, down}
use Rattle.std.proofs.lemmas.Int.{ints}
use Rattle.std.proofs.lemmas.Nat.{pow_pos, pow-add}
use Rattle.std.proofs.lemmas.Bool.{cond-true, cond-false, eq-eqb, ne_eqb}
use Rattle.std.proofs.lemmas.Bool.Decides.{nat_tests}
use Rattle.blocks.specs.Ranges.{difference}
use Rattle.decoder.specs.Levels.{level, mean, sample}
use Rattle.decoder.specs.Samples.{level_at}
use Rattle.decoder.specs.Closeness.{distance, level_sent, reach}
use Rattle.decoder.proofs.Middles.{middle, twice_is, mean_of_levels}
use Rattle.decoder.proofs.Nearness.{stays_near}
use Rattle.closeness.specs.Codes.{code, value, code_sent}
use Rattle.closeness.specs.Bounds.{odd_bound, even_bound, SoundSamplesStayClose}
use Rattle.closeness.proofs.Around.{around, three, sample_near}

-- an odd sample v of the range r, and an even one between p and n, of the ranges r and s, from levels near their codes' own
odd_close : (e r : ℕ) (l v : ℤ) → mag v < 2 ^ 13 → distance l (level r (code (2 ^ r) v)) ≤ e * (4 * 2 ^ r)
    → 2 * distance (sample l) v ≤ odd_bound e r
odd_close e r l v h d =
    let w = 2 ^ r in
    let m = level r (code w v) in
    let x = middle w (code w v) in
    let t = twice_is (code w v) r in
    let o = around v w (pow_pos r) in
    let q = sample_near l m v (2 * w) (e * (4 * w)) h d
    (omega (arith, ints, o.upto, ap up t, ap down t)) (omega (arith, ints, o.from, ap up t, ap down t)) in
    omega (arith, q, add-mul (2 * e) 1 w)

even_close : (e r a s : ℕ) (l v p n : ℤ) → mag v < 2 ^ 13
    → distance l (level (r + a) (code (2 ^ (r + a + 1)) (difference p v n)) +ℤ mean (level r (code (2 ^ r) p)) (level s (code (2 ^ s) n))) ≤ e * (4 * 2 ^ (r + a) + 2 * 2 ^ r + 2 * 2 ^ s)
    → 4 * distance (sample l) v < even_bound e r a s
even_close e r a s l v p n h d =
    let D = difference p v n in
    let w = 2 * 2 ^ (r + a) in
    let b = w + 2 ^ r + 2 ^ s in
    let two : 2 ^ (r + a + 1) ≡ w = pow-add 2 (r + a) 1 ∙ omega arith in
    let x = middle w (code w D) in
    let y = middle (2 ^ r) (code (2 ^ r) p) in
    let z = middle (2 ^ s) (code (2 ^ s) n) in
    let m = x +ℤ (y +ℤ z) in
    let is : level (r + a) (code (2 ^ (r + a + 1)) D) +ℤ mean (level r (code (2 ^ r) p)) (level s (code (2 ^ s) n)) ≡ m =
    ap (λ k. level (r + a) (code k D) +ℤ mean (level r (code (2 ^ r) p)) (level s (code (2 ^ s) n))) two
    ∙ ap (λ t. x +ℤ t) (mean_of_levels r s (code (2 ^ r) p) (code (2 ^ s) n)) in
    let reach_is : e * (4 * 2 ^ (r + a) + 2 * 2 ^ r + 2 * 2 ^ s) ≡ 2 * e * b =
    omega (arith, mul-add e (4 * 2 ^ (r + a) + 2 * 2 ^ r) (2 * 2 ^ s), mul-add e (4 * 2 ^ (r + a)) (2 * 2 ^ r), mul-add (2 * e) (w + 2 ^ r) (2 ^ s), mul-add (2 * e) w (2 ^ r)) in
    let near : distance l m ≤ 2 * e * b = subst (λ (k : ℕ). distance l m ≤ k) reach_is (subst (λ (k : ℤ). distance l k ≤ e * (4 * 2 ^ (r + a) + 2 * 2 ^ r + 2 * 2 ^ s)) is d) in
    let t = three x y z v p n w (2 ^ r) (2 ^ s) (around D w (omega (arith, pow_pos (r + a)))) (around p (2 ^ r) (pow_pos r)) (around n (2 ^ s) (pow_pos s)) in
    let some : 1 ≤ b = omega (arith, pow_pos r) in
    let q = sample_near l m v (b - 1) (2 * e * b) h near (omega (arith, ints, t.0)) (omega (arith, ints, t.1)) in
    omega (arith, q, add-mul (2 * e) 1 b)

last_follows : (n : ℕ) → eqb (n + 1) 33 ≡ eqb n 32
last_follows n = grind (arith, nat_tests)

module _ (r a s : ℕ) (sent : List ℤ) where
  -- the codes that a level is made of
  odd_code : (n : ℕ) → n % 2 ≡ 1 → code_sent r a s sent n ≡ code (2 ^ cond (eqb n 33) s r) (value sent n)
  odd_code n odd = cond-true _ _ _ (eq-eqb (n % 2) 1 odd)

  even_code : (n : ℕ) → n % 2 ≡ 0 → code_sent r a s sent n ≡ code (2 ^ (r + a + 1)) (difference (value sent (n - 1)) (value sent n) (value sent (n + 1)))
  even_code n even = cond-false _ _ _ (ne_eqb (n % 2) 1 (λ q. omega arith))

  side_is : (n m : ℕ) → n % 2 ≡ 1 → cond (eqb n 33) s r ≡ m → level (cond (eqb n 33) s r) (code_sent r a s sent n) ≡ level m (code (2 ^ m) (value sent n))
  side_is n m odd is = ap (level (cond (eqb n 33) s r)) (odd_code n odd) ∙ ap (λ k. level k (code (2 ^ k) (value sent n))) is

  odd_level_is : (n : ℕ) → n % 2 ≡ 1 → n ≤ 32 → level_sent r a s (code_sent r a s sent) n ≡ level r (code (2 ^ r) (value sent n))
  odd_level_is n odd upto =
      let own : code_sent r a s sent n ≡ code (2 ^ r) (value sent n) = grind (arith, nat_tests) in
      cond-true _ _ _ (eq-eqb (n % 2) 1 odd) ∙ ap (level r) own

  even_level_is : (n : ℕ) → n % 2 ≡ 0 → 1 ≤ n → n ≤ 32 → level_sent r a s (code_sent r a s sent) n
      ≡ level (r + a) (code (2 ^ (r + a + 1)) (difference (value sent (n - 1)) (value sent n) (value sent (n + 1))))
      +ℤ mean (level r (code (2 ^ r) (value sent (n - 1)))) (level (cond (eqb n 32) s r) (code (2 ^ cond (eqb n 32) s r) (value sent (n + 1))))
  even_level_is n even from upto =
      let code' = code_sent r a s sent in
      let own : cond (eqb (n - 1) 33) s r ≡ r = cond-false _ _ _ (ne_eqb (n - 1) 33 (λ q. omega arith)) in
      let next : cond (eqb (n + 1) 33) s r ≡ cond (eqb n 32) s r = ap (λ q. cond q s r) (last_follows n) in
      let before = side_is (n - 1) r (omega arith) own in
      let after = side_is (n + 1) (cond (eqb n 32) s r) (omega arith) next in
      cond-false _ _ _ (ne_eqb (n % 2) 1 (λ q. omega arith))
      ∙ ap (λ c. level (r + a) c +ℤ mean (level (cond (eqb (n - 1) 33) s r) (code' (n - 1))) (level (cond (eqb (n + 1) 33) s r) (code' (n + 1)))) (even_code n even)
      ∙ ap (λ l. level (r + a) (code (2 ^ (r + a + 1)) (difference (value sent (n - 1)) (value sent n) (value sent (n + 1)))) +ℤ mean l (level (cond (eqb (n + 1) 33) s r) (code' (n + 1)))) before
      ∙ ap (λ l. level (r + a) (code (2 ^ (r + a + 1)) (difference (value sent (n - 1)) (value sent n) (value sent (n + 1)))) +ℤ mean (level r (code (2 ^ r) (value sent (n - 1)))) l) after

pub stays_close : SoundSamplesStayClose
stays_close b next e s sent small w n from upto t =
    let r = b.basic in
    let a = b.additional in
    let c = code_sent r a s sent in
    let near = stays_near b next e s c w n from upto t in
    let l = level_at b next n in
    let v = value sent n in
    record {
      odd = λ odd.
          let reach_is : e * reach r a s n ≡ e * (4 * 2 ^ r) = ap (λ x. e * x) (cond-true _ _ _ (eq-eqb (n % 2) 1 odd)) in
          let d = subst (λ (k : ℕ). distance l (level_sent r a s c n) ≤ k) reach_is near.near in
          subst (λ (y : ℤ). 2 * distance y v ≤ odd_bound e r) (sym near.gives)
          (odd_close e r l v (small (n - 1)) (subst (λ (m : ℤ). distance l m ≤ e * (4 * 2 ^ r)) (odd_level_is r a s sent n odd upto) d));
      even = λ even.
          let z = cond (eqb n 32) s r in
          let k = e * (4 * 2 ^ (r + a) + 2 * 2 ^ r + 2 * 2 ^ z) in
          let reach_is : e * reach r a s n ≡ k = ap (λ x. e * x) (cond-false _ _ _ (ne_eqb (n % 2) 1 (λ q. omega arith))) in
          let d = subst (λ (k : ℕ). distance l (level_sent r a s c n) ≤ k) reach_is near.near in
          subst (λ (y : ℤ). 4 * distance y v < even_bound e r a z) (sym near.gives)
          (even_close e r a z l v (value sent (n - 1)) (value sent (n + 1)) (small (n - 1))
          (subst (λ (m : ℤ). distance l m ≤ k) (even_level_is r a s sent n even from upto) d));
    }
