-- The linear law: 14 bits in two's complement, a cell for each value.
use Rattle.std.specs.Prelude.{ℕ, ◌-◌, cond, ℤ, pos, negsuc, nat_lt}
use Rattle.words.specs.Meaning.{Meaning}

-- negsuc a is -1 - a, so its two's complement is 2^14 - 1 - a.
abbrev pub linear_word : ℤ → ℕ
linear_word (pos a) = a
linear_word (negsuc a) = 16383 - a

abbrev pub linear_value : ℕ → ℤ
linear_value w = cond (nat_lt w 8192) (pos w) (negsuc (16383 - w))

abbrev pub linear : Meaning
linear = record {
  bits = 14;
  lowest = negsuc 8191;
  highest = pos 8191;
  word = linear_word;
  low = linear_value;
  width = λ _. 1;
  refusal = λ w. cond (nat_lt w 16384) 0 7;
}
