-- Ranges with the same numbers are the same, so that ranges with the same code are.
use Rattle.std.proofs.Common.{◌≡◌, ◌≤◌}
use mathlib.Core.HLevel.{is_prop→PathP, ×_prop}
use native.Mathlib.Bridge.{le_prop}
use Rattle.guards.specs.RangeCodes.{range_code}
use Rattle.guards.specs.declared.ranges.Ranges.{Ranges}
use Rattle.guards.proofs.Tables.{same_code}

pub same_ranges : (s t : Ranges) → s.basic ≡ t.basic → s.additional ≡ t.additional → s ≡ t
same_ranges s t p q j = record {
  basic = p j;
  additional = q j;
  within = is_prop→PathP (λ k. (p k ≤ 4) × (q k ≤ 2)) (λ k. ×_prop le_prop le_prop) s.within t.within j;
}

pub ranges_of_code : (s t : Ranges) → range_code s.basic s.additional ≡ range_code t.basic t.additional → s ≡ t
ranges_of_code s t e =
    let p = same_code s.basic s.additional t.basic t.additional s.within.0 t.within.0 s.within.1 t.within.1 e in
    same_ranges s t p.0 p.1
