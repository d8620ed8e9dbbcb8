-- A block's verdict: the first that applies. What a locator answered stands as its number and its position:
-- 0 clean, 1 at a position, 2 nowhere.
use Rattle.std.specs.Prelude.{◌≡◌, ℕ, ◌-◌, ◌*◌, ◌≤◌, Bool, false, cond, ◌&&◌, ◌==◌}
use Rattle.guards.specs.Parities.{guard_of}
use Rattle.decoder.specs.Findings.{Finding, mute, clean, check, odd, pair, between, mutes, conceals}

abbrev pub nowhere : ℕ × ℕ → Bool
nowhere found = found.0 == 2

-- What a hurt guard bit means: parities 1 to 16 cover the odd samples 1, 3 .. 31, parities 17 to 24 the even pairs 1 to 8, and
-- 25 to 29 are the checks 1 to 5. Elsewhere no guard bit is.
abbrev pub hurt_at : ℕ → Finding
hurt_at k =
    cond (between 1 16 k) (odd (2 * k - 1)) (cond (between 17 24 k) (pair (k - 16)) (cond (between 25 29 k) (check (k - 24)) (mute 4)))

abbrev pub by_guards : ℕ × ℕ → Finding
by_guards found = cond (nowhere found) (mute 4) (cond (found.0 == 0) clean (hurt_at found.1))

-- By a loss, the answer for the range word, whether the corrected code stands for ranges, and the answer for the guard bits.
abbrev pub first_that_applies : Bool → ℕ × ℕ → Bool → ℕ × ℕ → Finding
first_that_applies lost range_word ranged guards =
    cond lost (mute 1) (cond (nowhere range_word) (mute 2) (cond ranged (by_guards guards) (mute 3)))

-- What is concealed is what the hurt guard bit covers.
abbrev pub ConcealsWhatIsHurt : Finding → ℕ × ℕ → Type 0
ConcealsWhatIsHurt found guards = mutes found ≡ false → (n : ℕ) → 1 ≤ n → n ≤ 32
    → conceals found n ≡ (guards.0 == 1 && guard_of n == guards.1)
