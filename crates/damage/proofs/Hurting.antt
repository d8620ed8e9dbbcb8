-- What one damaged octet does to a block and to a range word.
use Rattle.std.proofs.Common.{◌≡◌, ℕ, ◌+◌, ◌-◌, ◌*◌, ◌/◌, ◌%◌, ◌^◌, ◌<◌, ◌≤◌, Bool, true, false, cond, eqb, ltb, List, map, sym, refl, ap, ◌∙◌, arith}
use lib.Bits.{bit_xor}
use Rattle.std.specs.List.{range_with_len}
use Rattle.std.proofs.lemmas.Bool.{ltb-true, eqb-true, le-ltb, cond-false}
use Rattle.guards.specs.Bits.{number, bit_in}
use Rattle.guards.specs.Parities.{bits_of, guards, guard_bit, guard_of, fronts}
use Rattle.frames.specs.Places.{Holds, range_bit, check_bit, IsBlock, IsSample, travels, lies, place, index}
use Rattle.frames.specs.Frame.{heard_pair}
use Rattle.damage.specs.Damage.{OneOctet, Near, whole, hurt, RangeHurt, range_whole, range_hurt_at, BlockHurt, guard_at, touched, OneOctetHardlyHurts}
use Rattle.guards.specs.Counts.{same_at, below, each}
use Rattle.guards.specs.Rows.{Bits, number_same, bit_of_number}
use Rattle.frames.proofs.Rows.{bit_at_bit}
use Rattle.damage.proofs.Off.{OneOff, same, off, number_flip}
use Rattle.damage.proofs.Hits.{ahead, in_frame, in_frame_is, heard_bit, one_octet_off, octet_of, Struck}
use Rattle.damage.proofs.Guarded.{in_row, guarded, guarded_spread, range_spread, behind, behind_spread}
use Rattle.damage.proofs.Parities.{row_guard, row_guard_bits, guard_row, group, within, guards_same, guard_off, guard_else}
use Rattle.damage.proofs.Near.{near_row}

-- a block's words and checks by the value of each bit
abbrev word_of : (Holds → ℕ) → ℕ → ℕ → ℕ
word_of v block n = number (λ t. v (travels block n (t + 1))) (bits_of n)

abbrev checks_of : (Holds → ℕ) → ℕ → ℕ
checks_of v block = number (λ t. v (check_bit block (t + 1))) 5

module _ (v : Holds → ℕ) (b : (h : Holds) → v h ≤ 1) (block : ℕ) where
  word_bit : (n t : ℕ) → t < bits_of n → bit_in (bits_of n) (word_of v block n) (t + 1) ≡ v (travels block n (t + 1))
  word_bit n t h = bit_of_number (λ t. v (travels block n (t + 1))) (λ t. b (travels block n (t + 1))) (bits_of n) t h

  row_by : (x : ℕ) → x < 149 → (p q : Bool)
      → cond p (bit_in (bits_of (2 * (x / 5) + 1)) (word_of v block (2 * (x / 5) + 1)) (x % 5 + 1))
      (cond q (bit_in (bits_of (2 * ((x - 80) / 4) + 2)) (word_of v block (2 * ((x - 80) / 4) + 2)) ((x - 80) % 4 + 1)) (bit_in 5 (checks_of v block) (x - 144 + 1)))
      ≡ v (cond p (travels block (2 * (x / 5) + 1) (x % 5 + 1)) (cond q (travels block (2 * ((x - 80) / 4) + 2) ((x - 80) % 4 + 1)) (check_bit block (x - 144 + 1))))
  row_by x h true q = word_bit (2 * (x / 5) + 1) (x % 5) (omega arith)
  row_by x h false true = word_bit (2 * ((x - 80) / 4) + 2) ((x - 80) % 4) (omega arith)
  row_by x h false false = bit_of_number (λ t. v (check_bit block (t + 1))) (λ t. b (check_bit block (t + 1))) 5 (x - 144) (omega arith)

  row_bits : Bits (in_row (λ n b. bit_in (bits_of n) (word_of v block n) b) (bit_in 5 (checks_of v block)))
  row_bits x = small (ltb x 80) (ltb x 144)
    where
      small : (p q : Bool)
          → cond p (bit_in (bits_of (2 * (x / 5) + 1)) (word_of v block (2 * (x / 5) + 1)) (x % 5 + 1))
          (cond q (bit_in (bits_of (2 * ((x - 80) / 4) + 2)) (word_of v block (2 * ((x - 80) / 4) + 2)) ((x - 80) % 4 + 1)) (bit_in 5 (checks_of v block) (x - 144 + 1))) ≤ 1
      small true q = omega arith
      small false true = omega arith
      small false false = omega arith

  -- the guard bits of the words are those of the row of guarded bits
  guards_row : guards (word_of v block) (checks_of v block) ≡ number (row_guard (λ x. v (guarded block x))) 29
  unfolding guards
  guards_row =
      number_same (λ t. guard_bit (λ n b. bit_in (bits_of n) (word_of v block n) b) (bit_in 5 (checks_of v block)) (t + 1)) (row_guard (λ x. v (guarded block x))) 29
      (λ t h. guard_row (λ n b. bit_in (bits_of n) (word_of v block n) b) (bit_in 5 (checks_of v block)) t h
      ∙ guards_same (in_row (λ n b. bit_in (bits_of n) (word_of v block n) b) (bit_in 5 (checks_of v block))) (λ x. v (guarded block x)) row_bits (λ x. b (guarded block x))
      (λ x l. row_by x l (ltb x 80) (ltb x 144)) t h)

-- the place in the row of bit t + 1 of sample n
abbrev row_place : ℕ → ℕ → ℕ
row_place n t = cond (ltb 0 (n % 2)) (5 * ((n - 1) / 2) + t) (80 + 4 * ((n - 2) / 2) + t)

each_front : {X : Type 0} (f g : ℕ → ℕ → X) → map (λ n. map (f n) (range_with_len 0 (fronts n))) (range_with_len 1 32) ≡ map (λ n. map (g n) (range_with_len 0 (fronts n))) (range_with_len 1 32)
    → (n t : ℕ) → IsSample n → t < fronts n → f n t ≡ g n t
each_front f g e n t s h =
    same_at (f n) (g n) 0 (fronts n)
    (same_at (λ n. map (f n) (range_with_len 0 (fronts n))) (λ n. map (g n) (range_with_len 0 (fronts n))) 1 32 e n s.from (omega (arith, s.upto))) t (omega arith) (omega arith)

row_places : (block : ℕ) → map (λ n. map (λ t. guarded block (row_place n t)) (range_with_len 0 (fronts n))) (range_with_len 1 32) ≡ map (λ n. map (λ t. travels block n (t + 1)) (range_with_len 0 (fronts n))) (range_with_len 1 32)
row_places block = refl

row_inside : map (λ n. map (λ t. ltb (row_place n t) 149) (range_with_len 0 (fronts n))) (range_with_len 1 32) ≡ map (λ n. map (λ t. true) (range_with_len 0 (fronts n))) (range_with_len 1 32)
row_inside = refl

row_groups : map (λ n. map (λ t. group (row_place n t) + 1) (range_with_len 0 (fronts n))) (range_with_len 1 32) ≡ map (λ n. map (λ t. guard_of n) (range_with_len 0 (fronts n))) (range_with_len 1 32)
row_groups = refl

-- the guard bit of bit x of the row is the one that its octet touches
touch_tests : map (λ block. below (λ x. eqb (guard_at block (ahead (guarded block x)) (octet_of (guarded block x))) (group x + 1)) 149) (range_with_len 1 2) ≡ map (λ _. true) (range_with_len 1 2)
unfolding guard_at lies place
touch_tests = refl

touch : (block : ℕ) → IsBlock block → (x : ℕ) → x < 149 → guard_at block (ahead (guarded block x)) (octet_of (guarded block x)) ≡ group x + 1
touch block i x h =
    eqb-true _ _ (each (λ x. eqb (guard_at block (ahead (guarded block x)) (octet_of (guarded block x))) (group x + 1)) 149
    (same_at (λ block. below (λ x. eqb (guard_at block (ahead (guarded block x)) (octet_of (guarded block x))) (group x + 1)) 149) (λ _. true) 1 2 touch_tests block i.from (omega (arith, i.upto))) x h)

touched_is : (block M frame octet : ℕ) → IsBlock block → (x : ℕ) → x < 149 → in_frame M (guarded block x) ≡ frame → octet_of (guarded block x) ≡ octet → touched block M frame octet ≡ group x + 1
touched_is block M frame octet i x h f o =
    let a = in_frame_is M (guarded block x) in
    let e : frame - M ≡ ahead (guarded block x) = omega arith in
    cond-false (ltb frame M) 0 (guard_at block (frame - M) octet) (le-ltb frame M (omega arith))
    ∙ ap (λ y. guard_at block y octet) e ∙ ap (guard_at block (ahead (guarded block x))) (sym o) ∙ touch block i x h

module _ (sent arrived : ℕ → List ℕ) (N M : ℕ) (lo : N ≤ M) (hi : M ≤ N + 1) (damage : OneOctet sent arrived N) where
  abbrev s : Holds → ℕ
  s = heard_bit sent M

  abbrev a : Holds → ℕ
  a = heard_bit arrived M

  s_bit : (h : Holds) → s h ≤ 1
  s_bit h = bit_at_bit (sent (in_frame M h)) (index h)

  a_bit : (h : Holds) → a h ≤ 1
  a_bit h = bit_at_bit (arrived (in_frame M h)) (index h)

  module _ (block : ℕ) (i : IsBlock block) where
    near : (n : ℕ) → IsSample n → ((t : ℕ) → t < fronts n → s (travels block n (t + 1)) ≡ a (travels block n (t + 1))) → Near (word_of s block n) (word_of a block n)
    near n is e =
        near_row (λ t. s (travels block n (t + 1))) (λ t. a (travels block n (t + 1))) (λ t. s_bit (travels block n (t + 1))) (λ t. a_bit (travels block n (t + 1))) (n % 2) (omega arith) e
        (one_octet_off sent arrived N M lo hi damage (behind block n) 5 (behind_spread block n i is))

    -- a front is kept where its place in the row is
    front : (n t : ℕ) → IsSample n → t < fronts n → s (guarded block (row_place n t)) ≡ a (guarded block (row_place n t)) → s (travels block n (t + 1)) ≡ a (travels block n (t + 1))
    front n t is h e =
        let p = each_front (λ n t. guarded block (row_place n t)) (λ n t. travels block n (t + 1)) (row_places block) n t is h in
        sym (ap s p) ∙ e ∙ ap a p

    inside : (n t : ℕ) → IsSample n → t < fronts n → row_place n t < 149
    inside n t is h = ltb-true _ _ (each_front (λ n t. ltb (row_place n t) 149) (λ n t. true) row_inside n t is h)

    abbrev k : ℕ
    k = touched block M damage.frame damage.octet

    by_row : OneOff (Struck sent arrived N M lo hi damage (guarded block) 149 (guarded_spread block i)) (λ x. s (guarded block x)) (λ x. a (guarded block x)) 149 → BlockHurt k block (heard_pair sent M) (heard_pair arrived M)
    by_row (same e) =
        whole
        (guards_row a a_bit block
        ∙ sym (number_same (row_guard (λ x. s (guarded block x))) (row_guard (λ x. a (guarded block x))) 29
        (guards_same (λ x. s (guarded block x)) (λ x. a (guarded block x)) (λ x. s_bit (guarded block x)) (λ x. a_bit (guarded block x)) e))
        ∙ sym (guards_row s s_bit block))
        (λ n is. near n is (λ t h. front n t is h (e (row_place n t) (inside n t is h))))
    by_row (off x l struck o r) =
        let w = within x l in
        let is_k : k ≡ group x + 1 = touched_is block M damage.frame damage.octet i x l struck.0 struck.1 in
        let f = λ (x : ℕ). s (guarded block x) in
        let g = λ (x : ℕ). a (guarded block x) in
        let bf = λ (x : ℕ). s_bit (guarded block x) in
        let bg = λ (x : ℕ). a_bit (guarded block x) in
        hurt (omega (arith, is_k)) (omega (arith, is_k, w.0))
        (guards_row a a_bit block
        ∙ number_flip (row_guard f) (row_guard g) (row_guard_bits f bf) 29 (group x) w.0 (guard_off f g bf bg x l o r) (guard_else f g bf bg x l o r)
        ∙ ap (λ v. bit_xor v (2 ^ (29 - (group x + 1)))) (sym (guards_row s s_bit block))
        ∙ ap (λ y. bit_xor (guards (word_of s block) (checks_of s block)) (2 ^ (29 - y))) (sym is_k))
        (λ n is ne. near n is (λ t h. front n t is h
        (r (row_place n t) (inside n t is h) (λ e. ne (sym (each_front (λ n t. group (row_place n t) + 1) (λ n t. guard_of n) row_groups n t is h) ∙ ap (λ x. group x + 1) e ∙ sym is_k)))))

    pub block_hurt : BlockHurt k block (heard_pair sent M) (heard_pair arrived M)
    block_hurt = by_row (one_octet_off sent arrived N M lo hi damage (guarded block) 149 (guarded_spread block i))

  by_range : {P : ℕ → Type 0} → OneOff P (λ t. s (range_bit (t + 1))) (λ t. a (range_bit (t + 1))) 12 → RangeHurt (heard_pair sent M).ranges (heard_pair arrived M).ranges
  by_range (same e) = range_whole (sym (number_same (λ t. s (range_bit (t + 1))) (λ t. a (range_bit (t + 1))) 12 e))
  by_range (off k l p o r) =
      range_hurt_at (k + 1) (omega arith) (omega arith)
      (number_flip (λ t. s (range_bit (t + 1))) (λ t. a (range_bit (t + 1))) (λ t. s_bit (range_bit (t + 1))) 12 k l o r)

  pub range_hurt : RangeHurt (heard_pair sent M).ranges (heard_pair arrived M).ranges
  range_hurt = by_range (one_octet_off sent arrived N M lo hi damage (λ t. range_bit (t + 1)) 12 range_spread)

pub one_octet_hardly_hurts : OneOctetHardlyHurts
one_octet_hardly_hurts sent arrived N damage = record {
  blocks = λ block i. block_hurt sent arrived N N (omega arith) (omega arith) damage block i;
  range_word = range_hurt sent arrived N N (omega arith) (omega arith) damage;
  next_block = block_hurt sent arrived N (N + 1) (omega arith) (omega arith) damage 1 (record { from = omega arith; upto = omega arith });
  next_range_word = range_hurt sent arrived N (N + 1) (omega arith) (omega arith) damage;
}
