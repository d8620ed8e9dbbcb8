-- Sound samples stay near what was sent, whoever chose the codes: where no code that counts is off by more than e, a sound sample
-- is that of a level near the one that the codes sent stand for.
use Rattle.std.specs.Prelude.{◌≡◌, ℕ, ◌+◌, ◌-◌, ◌*◌, ◌%◌, ◌^◌, ◌≤◌, true, false, cond, List, ℤ, pos, ◌+ℤ◌, ◌-ℤ◌, ◌==◌, slice_index_or, unsigned_abs}
use Rattle.decoder.specs.declared.follower.Follower.{Follower}
use Rattle.decoder.specs.declared.follower.Follower.TheVariants.{Sound}
use Rattle.decoder.specs.Findings.{conceals}
use Rattle.decoder.specs.Levels.{level, mean, sample}
use Rattle.decoder.specs.Samples.{Received, code_at, level_at}
use Rattle.decoder.specs.Marks.{is_sound, sound}

abbrev pub distance : ℤ → ℤ → ℕ
distance x y = unsigned_abs (x -ℤ y)

-- What was sent: a code for each sample 1 to 32, and for the follower, which is sample 33, with a basic range s of its own.
-- The levels that these codes stand for, with nothing concealed; r and a are the block's ranges.
abbrev pub side_sent : ℕ → ℕ → (ℕ → ℤ) → ℕ → ℤ
side_sent r s code n = level (cond (n == 33) s r) (code n)

abbrev pub level_sent : ℕ → ℕ → ℕ → (ℕ → ℤ) → ℕ → ℤ
level_sent r a s code n =
    cond (n % 2 == 1) (level r (code n)) (level (r + a) (code n) +ℤ mean (side_sent r s code (n - 1)) (side_sent r s code (n + 1)))

-- By how much a level moves at most where each code that it is made of moves by one.
abbrev pub reach : ℕ → ℕ → ℕ → ℕ → ℕ
reach r a s n = cond (n % 2 == 1) (4 * 2 ^ r) (4 * 2 ^ (r + a) + 2 * 2 ^ r + 2 * 2 ^ cond (n == 32) s r)

-- What arrived: no code but concealed ones is off by more than e, nor is the follower's where it is sound.
pub record Arrived (e s : ℕ) (code : ℕ → ℤ) (b : Received) (next : Follower) : Type 0 where
  pub codes : (n : ℕ) → 1 ≤ n → n ≤ 32 → conceals b.found n ≡ false → distance (code_at b n) (code n) ≤ e
  pub follower : (l : ℤ) → next ≡ Sound l → (c : ℤ) × (l ≡ level s c) × (distance c (code 33) ≤ e)

-- What is given at a sample.
pub record Near (e s : ℕ) (code : ℕ → ℤ) (b : Received) (next : Follower) (given : List ℤ) (n : ℕ) : Type 0 where
  pub gives : slice_index_or given (n - 1) (pos 0) ≡ sample (level_at b next n)
  pub near : distance (level_at b next n) (level_sent b.basic b.additional s code n) ≤ e * reach b.basic b.additional s n

abbrev pub StaysNear : Received → Follower → List ℤ → Type 0
StaysNear b next given = (e s : ℕ) (code : ℕ → ℤ) → Arrived e s code b next
    → (n : ℕ) → 1 ≤ n → n ≤ 32 → sound b.found (is_sound next) n ≡ true → Near e s code b next given n
