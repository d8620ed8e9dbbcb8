-- What a word tells of the code that was sent.
use Rattle.std.proofs.Common.{◌≡◌, ℕ, ◌+◌, ◌-◌, ◌*◌, ◌/◌, ◌%◌, ◌<◌, ◌≤◌, ℤ, pos, negsuc, ap, ◌∙◌, ⊎_elim, arith}
use lib.Signed.{mag}
use Rattle.std.proofs.lemmas.Int.{ints}
use Rattle.std.proofs.lemmas.Nat.{div_below}
use Rattle.std.proofs.lemmas.Bool.{cond-true, cond-false, lt-ltb, le-ltb, cases_lt}
use Rattle.words.specs.Signed.{signed_word}
use Rattle.decoder.specs.Levels.{code_of}
use Rattle.decoder.specs.Closeness.{distance}
use Rattle.closeness.specs.Codes.{code}

pub whole : (half width : ℕ) (v : ℤ) → 0 < width → mag v < half * width → code_of half (signed_word half width v) ≡ code width v
whole half width (pos m) w h = cond-true _ _ _ (lt-ltb (m / width) half (div_below m width half w h))
whole half width (negsuc m) w h =
    cond-false _ _ _ (le-ltb (half + m / width) half (omega arith)) ∙ ap negsuc (omega arith)

-- the sign is among the bits that are kept
pub near : (half w w' : ℕ) → half % 32 ≡ 0 → w / 32 ≡ w' / 32 → w ≤ w' + 16 → w' ≤ w + 16 → distance (code_of half w') (code_of half w) ≤ 16
near half w w' d q below above =
    ⊎_elim
    (λ (lt : w < half).
    let lt' : w' < half = omega arith in
    let e : code_of half w ≡ pos w = cond-true _ _ _ (lt-ltb w half lt) in
    let e' : code_of half w' ≡ pos w' = cond-true _ _ _ (lt-ltb w' half lt') in
    rw (e, e') (omega (arith, ints)))
    (λ (ge : half ≤ w).
    let ge' : half ≤ w' = omega arith in
    let e : code_of half w ≡ negsuc (w - half) = cond-false _ _ _ (le-ltb w half ge) in
    let e' : code_of half w' ≡ negsuc (w' - half) = cond-false _ _ _ (le-ltb w' half ge') in
    rw (e, e') (omega (arith, ints)))
    (cases_lt w half)
