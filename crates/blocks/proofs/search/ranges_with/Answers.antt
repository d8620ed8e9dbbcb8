use Rattle.std.proofs.Common.{◌≡◌, ℕ, ◌*◌, ◌%◌, ◌^◌, ◌<◌, ◌≤◌, List, ℤ, pos, subst, arith, pow_mono, rules}
use lib.Signed.{mag}
use Rattle.std.proofs.lemmas.Nat.{shl_whole, pow_pos}
use Rattle.std.proofs.lemmas.List.Elements.{All-from_get_or}
use Rattle.blocks.specs.Ranges.{Ranged, differences}
use Rattle.blocks.specs.Peaks.{Peak}
use Rattle.blocks.proofs.Peaked.{held_below, smallest, differences_held}
use Rattle.blocks.proofs.search.ranges_with.Goals as goal

whole : (r : ℕ) → r ≤ 4 → (512 * 2 ^ r) % 2 ^ 32 ≡ 512 * 2 ^ r
whole r h = shl_whole 512 10 r 32 (omega arith) (omega arith)

small : (r : ℕ) → r ≤ 4 → 512 * 2 ^ r ≤ 8192
small r h = let p : 2 ^ r ≤ 2 ^ 4 = pow_mono h in omega arith

-- a peak, over the definition's list
moved : {xs ys : List ℤ} {m : ℕ} → xs ≡ ys → Peak xs m → Peak ys m
moved {m} e p = subst (λ (ds : List ℤ). Peak ds m) e p

pub range_of-basic-requires : goal.range_of-basic-requires
range_of-basic-requires c =
    let b = c.args.block.now in
    let all = All-from_get_or (λ v. mag v < 512 * 2 ^ 4) b.samples (pos 0) (λ k h. b.bounded k) in
    record { few_codes = omega arith; few_ranges = omega arith; held = held_below 512 b.samples c.peak.result (omega arith) c.peak.ensures 4 all }

pub range_of-additional-requires : goal.range_of-additional-requires
range_of-additional-requires c =
    let r = c.range_of-basic.result in
    let b = c.args.block.now in
    let t = c.range_of-basic.ensures.top in
    let w = whole r t in
    let first = smallest 512 b.samples c.peak.result (omega arith) c.peak.ensures r c.range_of-basic.ensures.holds c.range_of-basic.ensures.least in
    let second = moved c.requires c.peak-2.ensures in
    let lt = held_below (512 * 2 ^ r) (differences b.samples) c.peak-2.result (omega (arith, pow_pos r)) second 2 (differences_held b.samples r b.all first.holds) in
    record { few_codes = omega (arith, w, small r t); few_ranges = omega arith; held = omega (arith, w, lt) }

pub returns : goal.returns
returns c =
    let r = c.range_of-basic.result in
    let a = c.range_of-additional.result in
    let b = c.args.block.now in
    let t = c.range_of-basic.ensures.top in
    let w = whole r t in
    let ranged : Ranged b.samples r a = record {
      basic = smallest 512 b.samples c.peak.result (omega arith) c.peak.ensures r c.range_of-basic.ensures.holds c.range_of-basic.ensures.least;
      additional = smallest (512 * 2 ^ r) (differences b.samples) c.peak-2.result (omega (arith, pow_pos r))
          (moved c.requires c.peak-2.ensures) a
          (subst (λ (h : ℕ). c.peak-2.result < h * 2 ^ a) w c.range_of-additional.ensures.holds)
          (subst (λ (h : ℕ). (k : ℕ) → k < a → h * 2 ^ k ≤ c.peak-2.result) w c.range_of-additional.ensures.least);
      basic_bound = t;
      additional_bound = c.range_of-additional.ensures.top;
    } in
    let p : c.unwrap.result.basic ≡ r = search rules in
    let q : c.unwrap.result.additional ≡ a = search rules in
    rw (p, q) ranged
