-- Of no octets nothing is heard: all bits are 0.
use Rattle.std.proofs.Common.{◌≡◌, ℕ, zero, suc, ◌+◌, ◌-◌, ◌%◌, ◌^◌, [], sym, refl, ap, arith}
use native.Mathlib.Nat.{zero-div}
use Rattle.guards.specs.Bits.{number}
use Rattle.guards.specs.Parities.{bits_of}
use Rattle.frames.specs.Places.{range_bit, check_bit, travels, index}
use Rattle.frames.specs.Frame.{bit_at, heard, blank}
use Rattle.frames.specs.Content.{listed}
use Rattle.frames.proofs.Same.{listed_same}

no_bit : (i : ℕ) → bit_at [] i ≡ 0
unfolding bit_at
no_bit i = ap (λ (n : ℕ). n % 2) (zero-div (2 ^ (7 - i % 8)))

no_bits : (row : ℕ → ℕ) (n : ℕ) → ((t : ℕ) → row t ≡ 0) → number row n ≡ 0
no_bits row zero e = refl
no_bits row (suc n) e = omega (arith, no_bits row n e, e n)

pub nothing_heard : listed blank ≡ listed (heard [])
nothing_heard = listed_same blank (heard []) (record {
  words = λ block n i s. sym (no_bits (λ t. bit_at [] (index (travels block n (t + 1)))) (bits_of n) (λ t. no_bit (index (travels block n (t + 1)))));
  range_word = sym (no_bits (λ t. bit_at [] (index (range_bit (t + 1)))) 12 (λ t. no_bit (index (range_bit (t + 1)))));
  check_words = λ block i. sym (no_bits (λ t. bit_at [] (index (check_bit block (t + 1)))) 5 (λ t. no_bit (index (check_bit block (t + 1)))));
})
