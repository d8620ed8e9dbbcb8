-- Which samples of a block are sound. Samples count from 1 to 32; whether the follower is sound decides on the last alone.
use Rattle.std.specs.Prelude.{ℕ, ◌+◌, ◌-◌, ◌%◌, Bool, true, false, cond, not, ◌&&◌, ◌||◌, List, map, ◌==◌}
use Rattle.std.specs.List.{range_with_len}
use Rattle.decoder.specs.declared.follower.Follower.{Follower}
use Rattle.decoder.specs.declared.follower.Follower.TheVariants.{Muted, Concealed, Sound}
use Rattle.decoder.specs.Findings.{Finding, mutes, conceals}

abbrev pub is_sound : Follower → Bool
is_sound Muted = false
is_sound (Concealed l) = false
is_sound (Sound l) = true

-- A sample is sound unless muted or concealed; an even one needs sound neighbours too.
abbrev pub sound : Finding → Bool → ℕ → Bool
sound found follower n =
    not (mutes found) && (not (conceals found n) && (n % 2 == 1 || (not (conceals found (n - 1)) && cond (n == 32) follower (not (conceals found (n + 1))))))

unfoldable pub marks_of : Finding → Bool → List Bool
marks_of found follower = map (λ i. sound found follower (i + 1)) (range_with_len 0 32)
