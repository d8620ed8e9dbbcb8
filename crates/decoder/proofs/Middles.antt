-- A level is twice a middle, so that the mean of two levels is the sum of two middles, with nothing rounded.
use Rattle.std.proofs.Common.{◌≡◌, ℕ, suc, ◌+◌, ◌*◌, ◌/◌, ◌^◌, ◌<◌, ◌≤◌, ℤ, pos, negsuc, ◌+ℤ◌, ◌*ℤ◌, ◌≤ℤ◌, ◌<ℤ◌, ap, ◌∙◌, add-mul, arith}
use lib.Signed.{shr_z}
use borrow.Author.Differences.{product_is}
use Rattle.std.proofs.lemmas.Int.{ints}
use Rattle.std.proofs.lemmas.Nat.{div-add-mod', mod_below}
use Rattle.decoder.specs.Closeness.{distance}
use Rattle.decoder.specs.Levels.{level, mean}
use Rattle.decoder.proofs.Products.{times_near}

-- rounding down, by its two inequalities
pub floor : (v : ℤ) (w : ℕ) → 0 < w → ((shr_z v w *ℤ pos w) ≤ℤ v) × (v <ℤ ((shr_z v w *ℤ pos w) +ℤ pos w))
floor (pos a) w h = (omega (arith, ints, div-add-mod' a w), omega (arith, ints, div-add-mod' a w, mod_below a w h))
floor (negsuc a) w h =
    let e : suc (a / w) * w ≡ a / w * w + w = omega (arith, add-mul (a / w) 1 w) in
    (omega (arith, ints, e, div-add-mod' a w, mod_below a w h), omega (arith, ints, e, div-add-mod' a w))

-- twice the middle of a code's cell
abbrev pub middle : ℕ → ℤ → ℤ
middle w c = ((pos 2 *ℤ c) +ℤ pos 1) *ℤ pos w

pub middle_near : (c d : ℤ) (e w : ℕ) → distance c d ≤ e → distance (middle w c) (middle w d) ≤ 2 * e * w
middle_near c d e w h =
    times_near ((pos 2 *ℤ c) +ℤ pos 1) ((pos 2 *ℤ d) +ℤ pos 1) (2 * e) w (omega (arith, ints))

pub twice_is : (c : ℤ) (r : ℕ) → level r c ≡ pos 2 *ℤ middle (2 ^ r) c
twice_is c r =
    let k = (pos 2 *ℤ c) +ℤ pos 1 in
    let e = product_is k (pos (2 * 2 ^ r)) in
    let f = product_is k (pos (2 ^ r)) in
    omega (arith, ints, e, f)

mean_is : (x y : ℤ) → mean (pos 2 *ℤ x) (pos 2 *ℤ y) ≡ x +ℤ y
mean_is x y =
    let f = floor ((pos 2 *ℤ x) +ℤ (pos 2 *ℤ y)) 2 (omega arith) in
    omega (arith, ints, f.0, f.1)

pub mean_of_levels : (r s : ℕ) (c h : ℤ) → mean (level r c) (level s h) ≡ middle (2 ^ r) c +ℤ middle (2 ^ s) h
mean_of_levels r s c h =
    ap (λ x. mean x (level s h)) (twice_is c r) ∙ ap (mean (pos 2 *ℤ middle (2 ^ r) c)) (twice_is h s) ∙ mean_is (middle (2 ^ r) c) (middle (2 ^ s) h)
