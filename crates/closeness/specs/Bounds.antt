-- How far sound samples may lie from the samples sent, where codes that count are off by at most e.
use Rattle.std.specs.Prelude.{◌≡◌, ℕ, ◌+◌, ◌*◌, ◌%◌, ◌^◌, ◌<◌, ◌≤◌, true, cond, List, ℤ, pos, ◌==◌, slice_index_or}
use Rattle.std.specs.Int.Signed.{mag}
use Rattle.decoder.specs.declared.follower.Follower.{Follower}
use Rattle.decoder.specs.Samples.{Received, samples_of}
use Rattle.decoder.specs.Marks.{is_sound, sound}
use Rattle.decoder.specs.Closeness.{distance, Arrived}
use Rattle.closeness.specs.Codes.{value, code_sent}

-- In halves of a sample unit, of an odd sample; r is its basic range.
abbrev pub odd_bound : ℕ → ℕ → ℕ
odd_bound e r = (2 * e + 1) * 2 ^ r

-- In quarters, of an even sample; a is its additional range and s the basic range of the sample after it.
abbrev pub even_bound : ℕ → ℕ → ℕ → ℕ → ℕ
even_bound e r a s = (2 * e + 1) * (2 * 2 ^ (r + a) + 2 ^ r + 2 ^ s)

-- Sample n as given, against the one sent.
pub record Close (e r a s : ℕ) (sent given : List ℤ) (n : ℕ) : Type 0 where
  pub odd : n % 2 ≡ 1 → 2 * distance (value given n) (value sent n) ≤ odd_bound e r
  pub even : n % 2 ≡ 0 → 4 * distance (value given n) (value sent n) < even_bound e r a (cond (n == 32) s r)

-- Whatever 33 samples were sent, in whatever ranges: if no code that counts arrived more than e off, sound samples stay close.
abbrev pub SoundSamplesStayClose : Type 0
SoundSamplesStayClose = (b : Received) (next : Follower) (e s : ℕ) (sent : List ℤ) → ((k : ℕ) → mag (slice_index_or sent k (pos 0)) < 2 ^ 13)
    → Arrived e s (code_sent b.basic b.additional s sent) b next
    → (n : ℕ) → 1 ≤ n → n ≤ 32 → sound b.found (is_sound next) n ≡ true
    → Close e b.basic b.additional s sent (samples_of b next) n
