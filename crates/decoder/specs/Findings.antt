-- What a verdict says of a block: a word, and for all words but "clean" a number.
use Rattle.std.specs.Prelude.{ℕ, ◌-◌, ◌*◌, ◌%◌, Bool, true, false, ◌&&◌, ◌||◌, List, ◌++◌, codes, ◌==◌, nat_le}
use Rattle.std.specs.Fmt.{decimal}
use Rattle.decoder.specs.declared.verdict.Cause.{Cause}
use Rattle.decoder.specs.declared.verdict.Cause.TheVariants.{Lost, RangeWord, NoRanges, Guards}
use Rattle.decoder.specs.declared.verdict.Verdict.{Verdict}
use Rattle.decoder.specs.declared.verdict.Verdict.TheVariants.{Mute, Clean, Check, Odd, Pair}

pub data Finding : Type 0 where
  mute : ℕ → Finding
  clean : Finding
  check : ℕ → Finding
  odd : ℕ → Finding
  pair : ℕ → Finding

-- The causes of silence are numbered in the order in which they are looked for.
abbrev pub cause_number : Cause → ℕ
cause_number Lost = 1
cause_number RangeWord = 2
cause_number NoRanges = 3
cause_number Guards = 4

abbrev pub finding : Verdict → Finding
finding (Mute cause) = mute (cause_number cause)
finding Clean = clean
finding (Check i) = check i
finding (Odd n) = odd n
finding (Pair j) = pair j

-- Word and number, as a log prints them.
abbrev pub word_of : Finding → List ℕ
word_of (mute k) = codes "mute"
word_of clean = codes "clean"
word_of (check i) = codes "check"
word_of (odd n) = codes "odd"
word_of (pair j) = codes "pair"

abbrev pub number_of : Finding → ℕ
number_of (mute k) = k
number_of clean = 0
number_of (check i) = i
number_of (odd n) = n
number_of (pair j) = j

abbrev pub text_of : Finding → List ℕ
text_of found = word_of found ++ codes " " ++ decimal (number_of found)

-- Whether a number is one that there is.
abbrev pub between : ℕ → ℕ → ℕ → Bool
between a b k = nat_le a k && nat_le k b

abbrev pub is_numbered : Finding → Bool
is_numbered (mute k) = between 1 4 k
is_numbered clean = true
is_numbered (check i) = between 1 5 i
is_numbered (odd n) = between 1 31 n && n % 2 == 1
is_numbered (pair j) = between 1 8 j

-- A muted block is silence.
abbrev pub mutes : Finding → Bool
mutes (mute k) = true
mutes clean = false
mutes (check i) = false
mutes (odd n) = false
mutes (pair j) = false

-- The samples whose words count for nothing: a hurt odd one, or both of an even pair.
abbrev pub conceals : Finding → ℕ → Bool
conceals (mute k) n = false
conceals clean n = false
conceals (check i) n = false
conceals (odd h) n = n == h
conceals (pair j) n = n == 4 * j - 2 || n == 4 * j

-- Whether a report has ranges: not under mute 1 to 3.
abbrev pub tells_ranges : Finding → Bool
tells_ranges (mute k) = k == 4
tells_ranges clean = true
tells_ranges (check i) = true
tells_ranges (odd n) = true
tells_ranges (pair j) = true
