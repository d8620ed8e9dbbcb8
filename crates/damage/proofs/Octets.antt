-- In each octet lies at most one guarded or check bit of a block, and at most one bit of the range word: one computed test.
use Rattle.std.proofs.Common.{◌≡◌, ℕ, true, cond, ltb, leb, map, refl, arith}
use Rattle.std.specs.List.{range_with_len}
use Rattle.std.proofs.lemmas.Bool.{leb-true}
use Rattle.frames.specs.Places.{lies}
use Rattle.damage.specs.Damage.{covered, is_range_bit, in_octet, OctetsHoldLittle}
use Rattle.guards.specs.Counts.{same_at, below, each}

abbrev guarded_in : ℕ → ℕ → ℕ → ℕ
guarded_in block later octet = in_octet (λ h. cond (ltb 0 (covered block later h)) 1 0) octet

guarded_tests : map (λ block. below (λ later. below (λ octet. leb (guarded_in block later octet) 1) 80) 3) (range_with_len 1 2) ≡ map (λ _. true) (range_with_len 1 2)
unfolding lies
guarded_tests = refl

range_tests : below (λ octet. leb (in_octet is_range_bit octet) 1) 80 ≡ true
unfolding lies
range_tests = refl

pub octets_hold_little : OctetsHoldLittle
octets_hold_little octet h = record {
  guarded = λ block later i l.
      leb-true _ _ (each (λ octet. leb (guarded_in block later octet) 1) 80
      (each (λ later. below (λ octet. leb (guarded_in block later octet) 1) 80) 3
      (same_at (λ block. below (λ later. below (λ octet. leb (guarded_in block later octet) 1) 80) 3) (λ _. true) 1 2 guarded_tests block i.from (omega (arith, i.upto))) later l) octet h);
  range_word = leb-true _ _ (each (λ octet. leb (in_octet is_range_bit octet) 1) 80 range_tests octet h);
}
