-- The guard bits of a block: 24 parities over the highest bits of its words, then five checks.
-- Samples count from 1 to 32, bits of a word from 1, the highest.
use Rattle.std.specs.Prelude.{ℕ, ◌+◌, ◌-◌, ◌*◌, ◌/◌, ◌%◌, cond, nat_lt}
use Rattle.guards.specs.Bits.{number, bit_in, total}

-- Odd samples have words of 10 bits, even ones of 9.
abbrev pub bits_of : ℕ → ℕ
bits_of sample = 9 + sample % 2

-- How many bits at the front of a sample's word are guarded: 5 of an odd sample, 4 of an even one.
abbrev pub fronts : ℕ → ℕ
fronts sample = 4 + sample % 2

-- The parity that covers a sample: p1 to p16 the odd samples 1, 3 .. 31, p17 to p24 the even pairs (2, 4) to (30, 32).
abbrev pub guard_of : ℕ → ℕ
guard_of sample = cond (nat_lt 0 (sample % 2)) ((sample + 1) / 2) (16 + (sample + 2) / 4)

-- Guard bit k of a block, by the bits of its words (sample, bit) and its checks: p1 to p24 are even parities, 25 to 29 are C1 to C5.
abbrev pub guard_bit : (ℕ → ℕ → ℕ) → (ℕ → ℕ) → ℕ → ℕ
guard_bit bit check k =
    cond (nat_lt k 17) (total (bit (2 * k - 1)) 1 5 % 2)
    (cond (nat_lt k 25) ((total (bit (4 * (k - 16) - 2)) 1 4 + total (bit (4 * (k - 16))) 1 4) % 2) (check (k - 24)))

-- The guard bits as a number of 29 bits, p1 highest, of a block's words by sample and its five checks.
unfoldable pub guards : (ℕ → ℕ) → ℕ → ℕ
guards word checks = number (λ t. guard_bit (λ n b. bit_in (bits_of n) (word n) b) (bit_in 5 checks) (t + 1)) 29

-- p1 to p24 as a number, p1 highest.
unfoldable pub parities : (ℕ → ℕ) → ℕ
parities word = number (λ t. guard_bit (λ n b. bit_in (bits_of n) (word n) b) (λ _. 0) (t + 1)) 24
