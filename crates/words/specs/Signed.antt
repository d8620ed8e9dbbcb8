-- Laws of a sign and a magnitude, with `half` codes of each sign, each `width` values wide, and the two that J.43 uses.
use Rattle.std.specs.Prelude.{ℕ, ◌+◌, ◌-◌, ◌*◌, ◌/◌, ◌^◌, cond, ℤ, pos, negsuc, nat_lt}
use Rattle.words.specs.Meaning.{Meaning}

-- A code is the value divided by the width, rounded down. A code of 0 or more is sent as itself, a negative code c as a
-- leading 1 and then -1 - c. For the value -1 - a that number is a / width.
abbrev pub signed_word : ℕ → ℕ → ℤ → ℕ
signed_word half width (pos a) = a / width
signed_word half width (negsuc a) = half + a / width

-- The lowest value of a word.
abbrev pub signed_low : ℕ → ℕ → ℕ → ℤ
signed_low half width w = cond (nat_lt w half) (pos (w * width)) (negsuc ((w - half) * width + (width - 1)))

abbrev pub signed : ℕ → ℕ → ℕ → Meaning
signed bits half width = record {
  bits = bits;
  lowest = negsuc (half * width - 1);
  highest = pos (half * width - 1);
  word = signed_word half width;
  low = signed_low half width;
  width = λ _. width;
  refusal = λ w. cond (nat_lt w (2 * half)) 0 7;
}

-- The basic law of the range r: 10 bits, width 2^r.
abbrev pub basic : ℕ → Meaning
basic r = signed 10 512 (2 ^ r)

-- The additional law of the ranges r and a: 9 bits, width 2^(r+a+1), in half sample units.
abbrev pub additional : ℕ → ℕ → Meaning
additional r a = signed 9 256 (2 ^ (r + a + 1))
