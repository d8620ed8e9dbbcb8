-- Where the level of a value's own code lies, and how far from the value a sample lies whose level is near that.
use Rattle.std.proofs.Common.{◌≡◌, ℕ, ◌+◌, ◌*◌, ◌^◌, ◌<◌, ◌≤◌, ℤ, pos, negsuc, ◌+ℤ◌, ◌-ℤ◌, ◌*ℤ◌, ◌≤ℤ◌, ap, ◌∙◌, arith}
use lib.Signed.{mag, shr_z}
use borrow.Author.Differences.{up, down}
use Rattle.std.proofs.lemmas.Int.{ints, clamps}
use Rattle.decoder.specs.Levels.{held, sample}
use Rattle.decoder.specs.Closeness.{distance}
use Rattle.decoder.proofs.Products.{times_sum}
use Rattle.decoder.proofs.Middles.{floor, middle}
use Rattle.closeness.specs.Codes.{code}

-- to hold a number within the samples takes it no further from a sample
within : (v : ℤ) → mag v < 2 ^ 13 → (negsuc 8191 ≤ℤ v) × (v ≤ℤ pos 8191)
within (pos n) h = (omega (arith, ints), omega (arith, ints))
within (negsuc n) h = (omega (arith, ints), omega (arith, ints))

holding : (y v : ℤ) → mag v < 2 ^ 13 → distance (held y) v ≤ distance y v
holding y v h = let s = within v h in omega (arith, ints, clamps, s.0, s.1)

-- a level l at most d from one that lies between 4v + 4 - b and 4v + 1 + b
pub sample_near : (l m v : ℤ) (b d : ℕ) → mag v < 2 ^ 13 → distance l m ≤ d → m ≤ℤ ((pos 4 *ℤ v) +ℤ pos (1 + b)) → ((pos 4 *ℤ v) +ℤ pos 4) ≤ℤ (m +ℤ pos b)
    → 4 * distance (sample l) v ≤ b + d
sample_near l m v b d h n upto from =
    let y = shr_z (l -ℤ pos 1) 4 in
    let f = floor (l -ℤ pos 1) 4 (omega arith) in
    let hold = holding y v h in
    let near : 4 * distance y v ≤ b + d = omega (arith, ints, f.0, f.1) in
    omega arith

-- twice the middle of the cell of v, which is w wide
pub record Around (x v : ℤ) (b : ℕ) : Type 0 where
  pub upto : x ≤ℤ ((pos 2 *ℤ v) +ℤ pos b)
  pub from : ((pos 2 *ℤ v) +ℤ pos 2) ≤ℤ (x +ℤ pos b)

middle_is : (c : ℤ) (w : ℕ) → middle w c ≡ (pos 2 *ℤ (c *ℤ pos w)) +ℤ pos w
middle_is c w =
    let e : pos 2 *ℤ c ≡ c +ℤ c = omega (arith, ints) in
    let q = times_sum c c w in
    ap (λ t. (t +ℤ pos 1) *ℤ pos w) e ∙ times_sum (c +ℤ c) (pos 1) w ∙ omega (arith, ints, ap up q, ap down q)

pub around : (v : ℤ) (w : ℕ) → 0 < w → Around (middle w (code w v)) v w
around v w h =
    let f = floor v w h in
    let g = middle_is (code w v) w in
    record { upto = omega (arith, ints, f.0, ap up g, ap down g); from = omega (arith, ints, f.1, ap up g, ap down g) }

-- the sum of three middles around the difference of v and around its neighbours is around twice v
pub three : (x y z v p n : ℤ) (b c d : ℕ) → Around x (((pos 2 *ℤ v) -ℤ p) -ℤ n) b → Around y p c → Around z n d
    → ((x +ℤ (y +ℤ z)) ≤ℤ ((pos 4 *ℤ v) +ℤ pos (b + c + d))) × (((pos 4 *ℤ v) +ℤ pos 6) ≤ℤ ((x +ℤ (y +ℤ z)) +ℤ pos (b + c + d)))
three x y z v p n b c d f g h =
    (omega (arith, ints, f.upto, g.upto, h.upto), omega (arith, ints, f.from, g.from, h.from))
