-- A word whose front is kept and of which at most one bit behind it is changed.
use Rattle.std.proofs.Common.{◌≡◌, ℕ, zero, suc, ◌+◌, ◌*◌, ◌<◌, ◌≤◌, arith}
use Rattle.guards.specs.Bits.{number}
use Rattle.damage.specs.Damage.{Near}
use Rattle.guards.specs.Rows.{Bits, number_same, number_below}
use Rattle.damage.proofs.Off.{OneOff, same, off}

-- one bit of the last five is worth at most 16
low_near : {P : ℕ → Type 0} (f g : ℕ → ℕ) → Bits f → Bits g → OneOff P f g 5 → (number f 5 ≤ number g 5 + 16) × (number g 5 ≤ number f 5 + 16)
low_near f g bf bg (same e) = let s : number f 5 ≡ number g 5 = number_same f g 5 e in (omega arith, omega arith)
low_near f g bf bg (off zero h p o r) =
    let r1 = r 1 (omega arith) (omega arith) in let r2 = r 2 (omega arith) (omega arith) in let r3 = r 3 (omega arith) (omega arith) in let r4 = r 4 (omega arith) (omega arith) in
    (omega arith, omega arith)
low_near f g bf bg (off (suc zero) h p o r) =
    let r0 = r 0 (omega arith) (omega arith) in let r2 = r 2 (omega arith) (omega arith) in let r3 = r 3 (omega arith) (omega arith) in let r4 = r 4 (omega arith) (omega arith) in
    (omega arith, omega arith)
low_near f g bf bg (off (suc (suc zero)) h p o r) =
    let r0 = r 0 (omega arith) (omega arith) in let r1 = r 1 (omega arith) (omega arith) in let r3 = r 3 (omega arith) (omega arith) in let r4 = r 4 (omega arith) (omega arith) in
    (omega arith, omega arith)
low_near f g bf bg (off (suc (suc (suc zero))) h p o r) =
    let r0 = r 0 (omega arith) (omega arith) in let r1 = r 1 (omega arith) (omega arith) in let r2 = r 2 (omega arith) (omega arith) in let r4 = r 4 (omega arith) (omega arith) in
    (omega arith, omega arith)
low_near f g bf bg (off (suc (suc (suc (suc zero)))) h p o r) =
    let r0 = r 0 (omega arith) (omega arith) in let r1 = r 1 (omega arith) (omega arith) in let r2 = r 2 (omega arith) (omega arith) in let r3 = r 3 (omega arith) (omega arith) in
    (omega arith, omega arith)
low_near f g bf bg (off (suc (suc (suc (suc (suc k))))) h p o r) = absurd (omega arith)

joined : (x y a b a' b' : ℕ) → x ≡ y → a < 32 → b < 32 → (a ≤ b + 16) × (b ≤ a + 16) → a' ≡ 32 * x + a → b' ≡ 32 * y + b → Near a' b'
joined x y a b a' b' s h k near p q = record { guarded = omega (arith, near.0); below = omega (arith, near.0); above = omega (arith, near.1) }

ten : (f : ℕ → ℕ) → number f 10 ≡ 32 * number f 5 + number (λ t. f (5 + t)) 5
ten f = omega arith

nine : (f : ℕ → ℕ) → number f 9 ≡ 32 * number f 4 + number (λ t. f (4 + t)) 5
nine f = omega arith

-- a word of 9 bits (r = 0) or 10 (r = 1)
pub near_row : {P : ℕ → Type 0} (f g : ℕ → ℕ) → Bits f → Bits g → (r : ℕ) → r ≤ 1 → ((t : ℕ) → t < 4 + r → f t ≡ g t) → OneOff P (λ t. f (4 + r + t)) (λ t. g (4 + r + t)) 5 → Near (number f (9 + r)) (number g (9 + r))
near_row f g bf bg zero h e o =
    joined (number f 4) (number g 4) (number (λ t. f (4 + t)) 5) (number (λ t. g (4 + t)) 5) (number f 9) (number g 9) (number_same f g 4 e)
    (number_below (λ t. f (4 + t)) (λ t. bf (4 + t)) 5) (number_below (λ t. g (4 + t)) (λ t. bg (4 + t)) 5)
    (low_near (λ t. f (4 + t)) (λ t. g (4 + t)) (λ t. bf (4 + t)) (λ t. bg (4 + t)) o) (nine f) (nine g)
near_row f g bf bg (suc zero) h e o =
    joined (number f 5) (number g 5) (number (λ t. f (5 + t)) 5) (number (λ t. g (5 + t)) 5) (number f 10) (number g 10) (number_same f g 5 e)
    (number_below (λ t. f (5 + t)) (λ t. bf (5 + t)) 5) (number_below (λ t. g (5 + t)) (λ t. bg (5 + t)) 5)
    (low_near (λ t. f (5 + t)) (λ t. g (5 + t)) (λ t. bf (5 + t)) (λ t. bg (5 + t)) o) (ten f) (ten g)
near_row f g bf bg (suc (suc r)) h e o = absurd (omega arith)
