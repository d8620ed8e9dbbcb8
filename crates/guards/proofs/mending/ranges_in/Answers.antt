use Rattle.std.proofs.Common.{◌≡◌, ℕ, ◌-◌, ◌/◌, ◌%◌, ◌^◌, ◌≤◌, ltb, Some, None, Option, sym, ap, ◌∙◌, arith, MatchOption}
use Rattle.std.proofs.lemmas.Nat.{and_mask}
use Rattle.std.proofs.lemmas.Bool.{cond-true, cond-false, lt-ltb, le-ltb}
use Rattle.guards.specs.Mended.{ranges_of_code, numbers_of}
use Rattle.guards.specs.OfRanges.{code_of}
use Rattle.guards.specs.RangeCodes.{range_code}
use Rattle.guards.specs.declared.ranges.Ranges.{Ranges}
use Rattle.guards.proofs.mending.ranges_in.Goals as goal

basic_by : (b a code : ℕ) → b ≤ 4 → a ≤ 2 → range_code b a ≡ code → b ≡ (14 - code) % 5
basic_by b a code h k e = omega arith

additional_by : (b a code : ℕ) → b ≤ 4 → a ≤ 2 → range_code b a ≡ code → a ≡ (14 - code) / 5
additional_by b a code h k e = omega arith

-- what a code stands for, as two numbers
as_numbers : (r : Option Ranges) (code : ℕ) → MatchOption r (15 ≤ code) (λ s. code_of s ≡ code) → numbers_of r ≡ ranges_of_code code
as_numbers None code h = sym (cond-false (ltb code 15) (Some ((14 - code) % 5, (14 - code) / 5)) None (le-ltb code 15 h))
as_numbers (Some s) code h =
    ap (λ (x : ℕ). Some (x, s.additional)) (basic_by s.basic s.additional code s.within.0 s.within.1 h)
    ∙ ap (λ (y : ℕ). Some ((14 - code) % 5, y)) (additional_by s.basic s.additional code s.within.0 s.within.1 h)
    ∙ sym (cond-true (ltb code 15) (Some ((14 - code) % 5, (14 - code) / 5)) None (lt-ltb code 15 (omega arith)))

pub returns : goal.returns
returns c = as_numbers c.from_code.result _ c.from_code.ensures.answer ∙ ap ranges_of_code (and_mask (c.args.word / 2 ^ c.args.place) 4)
