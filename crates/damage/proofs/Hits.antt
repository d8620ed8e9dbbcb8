-- A set of bits of a pair that lie in octets of their own: one damaged octet changes one of them at most.
use Rattle.std.proofs.Common.{◌≡◌, ℕ, ◌+◌, ◌-◌, ◌*◌, ◌/◌, ◌%◌, ◌^◌, ◌<◌, ◌≤◌, Bool, true, false, not, ◌&&◌, eqb, ltb, ◌⊎◌, List, get_or, sym, refl, ap, ◌∙◌, inl, inr, arith}
use Rattle.std.proofs.lemmas.Bool.Decides.{nat_tests}
use Rattle.std.proofs.lemmas.Bool.{and_parts, ltb-true, eqb-true, cases_order}
use Rattle.frames.specs.Places.{Holds, sample_bit, range_bit, check_bit, service_bit, spare_bit, index}
use Rattle.frames.specs.Frame.{bit_at}
use Rattle.damage.specs.Damage.{OneOctet}
use Rattle.guards.specs.Counts.{below, each}
use Rattle.frames.proofs.Rows.{bit_at_bit}
use Rattle.damage.proofs.Off.{OneOff, one_off}

-- how many frames after its pair's own a bit travels, the frame that it travels in, and the bit as heard there
abbrev pub ahead : Holds → ℕ
ahead (sample_bit earlier block n b) = earlier
ahead (range_bit k) = 0
ahead (check_bit block k) = 0
ahead (service_bit k) = 0
ahead (spare_bit l) = 0

abbrev pub in_frame : ℕ → Holds → ℕ
in_frame N (sample_bit earlier block n b) = N + earlier
in_frame N (range_bit k) = N
in_frame N (check_bit block k) = N
in_frame N (service_bit k) = N
in_frame N (spare_bit l) = N

pub in_frame_is : (N : ℕ) (h : Holds) → in_frame N h ≡ N + ahead h
in_frame_is N (sample_bit earlier block n b) = refl
in_frame_is N (range_bit k) = omega arith
in_frame_is N (check_bit block k) = omega arith
in_frame_is N (service_bit k) = omega arith
in_frame_is N (spare_bit l) = omega arith

abbrev pub heard_bit : (ℕ → List ℕ) → ℕ → Holds → ℕ
heard_bit frames N h = bit_at (frames (in_frame N h)) (index h)

-- the octet of a bit of a pair, in its frame and counted over frames
abbrev pub octet_of : Holds → ℕ
octet_of h = index h / 8

abbrev pub spot : Holds → ℕ
spot h = 80 * ahead h + octet_of h

-- n bits of a pair, no two in one octet
pub record Spread (bits : ℕ → Holds) (n : ℕ) : Type 0 where
  pub soon : (x : ℕ) → x < n → ahead (bits x) < 3
  pub inside : (x : ℕ) → x < n → index (bits x) < 640
  pub apart : (x y : ℕ) → x < n → y < n → spot (bits x) ≡ spot (bits y) → x ≡ y

-- the same as a test
abbrev pub inside_test : (ℕ → Holds) → ℕ → Bool
inside_test bits n = below (λ x. ltb (ahead (bits x)) 3 && ltb (index (bits x)) 640) n

abbrev pub apart_test : (ℕ → Holds) → ℕ → Bool
apart_test bits n = below (λ x. let s = spot (bits x) in below (λ y. not (eqb s (spot (bits y)))) x) n

abbrev pub spread_test : (ℕ → Holds) → ℕ → Bool
spread_test bits n = inside_test bits n && apart_test bits n

differ : (a b : ℕ) → not (eqb a b) ≡ true → a ≡ b → ⊥
differ a b t e = grind (arith, nat_tests)

pub spread_by_test : (bits : ℕ → Holds) (n : ℕ) → spread_test bits n ≡ true → Spread bits n
spread_by_test bits n t =
    let i = each (λ x. ltb (ahead (bits x)) 3 && ltb (index (bits x)) 640) n (and_parts (inside_test bits n) (apart_test bits n) t).0 in
    let a = each (λ x. below (λ y. not (eqb (spot (bits x)) (spot (bits y)))) x) n (and_parts (inside_test bits n) (apart_test bits n) t).1 in
    record {
      soon = λ x h. ltb-true _ _ (and_parts (ltb (ahead (bits x)) 3) (ltb (index (bits x)) 640) (i x h)).0;
      inside = λ x h. ltb-true _ _ (and_parts (ltb (ahead (bits x)) 3) (ltb (index (bits x)) 640) (i x h)).1;
      apart = λ x y h k e. by_order x y h k e a (cases_order x y);
    }
  where
    below_apart : (x y : ℕ) → x < n → y < x → ((x : ℕ) → x < n → below (λ y. not (eqb (spot (bits x)) (spot (bits y)))) x ≡ true) → spot (bits x) ≡ spot (bits y) → ⊥
    below_apart x y h k a e = differ (spot (bits x)) (spot (bits y)) (each (λ y. not (eqb (spot (bits x)) (spot (bits y)))) x (a x h) y k) e

    by_order : (x y : ℕ) → x < n → y < n → spot (bits x) ≡ spot (bits y) → ((x : ℕ) → x < n → below (λ y. not (eqb (spot (bits x)) (spot (bits y)))) x ≡ true) → (x ≡ y) ⊎ ((x < y) ⊎ (y < x)) → x ≡ y
    by_order x y h k e a (inl s) = s
    by_order x y h k e a (inr (inl l)) = absurd (below_apart y x k l a (sym e))
    by_order x y h k e a (inr (inr g)) = absurd (below_apart x y h g a e)

octet_same : (s a : List ℕ) (i : ℕ) → get_or s (i / 8) 0 ≡ get_or a (i / 8) 0 → bit_at s i ≡ bit_at a i
unfolding bit_at
octet_same s a i e = ap (λ v. v / 2 ^ (7 - i % 8) % 2) e

-- where a pair that frames N to N + 3 hold is read
module _ (sent arrived : ℕ → List ℕ) (N M : ℕ) (lo : N ≤ M) (hi : M ≤ N + 1) (damage : OneOctet sent arrived N)
    (bits : ℕ → Holds) (n : ℕ) (spread : Spread bits n) where
  hit : ℕ → Bool
  hit x = eqb (in_frame M (bits x)) damage.frame && eqb (octet_of (bits x)) damage.octet

  only : (x y : ℕ) → x < n → y < n → hit x ≡ true → hit y ≡ true → x ≡ y
  unfolding hit
  only x y h k t u =
      let p = and_parts (eqb (in_frame M (bits x)) damage.frame) (eqb (octet_of (bits x)) damage.octet) t in
      let q = and_parts (eqb (in_frame M (bits y)) damage.frame) (eqb (octet_of (bits y)) damage.octet) u in
      let a : in_frame M (bits x) ≡ in_frame M (bits y) = eqb-true _ _ p.0 ∙ sym (eqb-true _ _ q.0) in
      let o : octet_of (bits x) ≡ octet_of (bits y) = eqb-true _ _ p.1 ∙ sym (eqb-true _ _ q.1) in
      let ax = in_frame_is M (bits x) in
      let ay = in_frame_is M (bits y) in
      spread.apart x y h k (omega arith)

  -- bit x lies in the damaged octet
  abbrev pub Struck : ℕ → Type 0
  Struck x = (in_frame M (bits x) ≡ damage.frame) × (octet_of (bits x) ≡ damage.octet)

  struck : (x : ℕ) → hit x ≡ true → Struck x
  unfolding hit
  struck x t =
      let p = and_parts (eqb (in_frame M (bits x)) damage.frame) (eqb (octet_of (bits x)) damage.octet) t in
      (eqb-true _ _ p.0, eqb-true _ _ p.1)

  missed : (x : ℕ) → hit x ≡ false → in_frame M (bits x) ≡ damage.frame → octet_of (bits x) ≡ damage.octet → ⊥
  unfolding hit
  missed x t e o = grind (arith, nat_tests)

  rest : (x : ℕ) → x < n → hit x ≡ false → heard_bit sent M (bits x) ≡ heard_bit arrived M (bits x)
  rest x h t =
      let s : ahead (bits x) < 3 = spread.soon x h in
      let i : index (bits x) < 640 = spread.inside x h in
      let a = in_frame_is M (bits x) in
      octet_same (sent (in_frame M (bits x))) (arrived (in_frame M (bits x))) (index (bits x))
      (damage.others (in_frame M (bits x)) (octet_of (bits x)) (omega arith) (omega arith) (omega arith) (missed x t))

  pub one_octet_off : OneOff Struck (λ x. heard_bit sent M (bits x)) (λ x. heard_bit arrived M (bits x)) n
  one_octet_off = one_off Struck (λ x. heard_bit sent M (bits x)) (λ x. heard_bit arrived M (bits x))
      (λ x. bit_at_bit (sent (in_frame M (bits x))) (index (bits x))) (λ x. bit_at_bit (arrived (in_frame M (bits x))) (index (bits x))) n hit struck only rest
