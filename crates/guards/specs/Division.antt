-- Polynomials modulo 2 as numbers, bit k from 0 the coefficient of z^k, and their remainders by z^5 + z^2 + 1.
use Rattle.std.specs.Prelude.{◌≡◌, ℕ, zero, suc, ◌*◌, ◌/◌, ◌%◌, ◌^◌, ◌<◌, cond, bit_xor, nat_lt}

-- z^5 + z^2 + 1.
abbrev pub divisor : ℕ
divisor = 37

-- A number, its column, for each bit k: the sum modulo 2 of the columns of those of the first n bits that are 1 in w.
unfoldable pub columns : (ℕ → ℕ) → ℕ → ℕ → ℕ
columns column zero w = 0
columns column (suc k) w = bit_xor (w / 2 ^ k % 2 * column k) (columns column k w)

-- The divisor times a polynomial of degree below 27.
unfoldable pub times_divisor : ℕ → ℕ
times_divisor q = columns (λ k. divisor * 2 ^ k) 27 q

-- r is the remainder of w: the two differ by a multiple of the divisor, and r has a lower degree than the divisor.
pub record Divided (w r : ℕ) : Type 0 where
  pub quotient : ℕ
  pub exact : w ≡ bit_xor (times_divisor quotient) r
  pub short : r < 2 ^ 5

-- z times x, and z^k, modulo the divisor.
abbrev pub times_z : ℕ → ℕ
times_z x = cond (nat_lt x 16) (2 * x) (bit_xor (2 * x) divisor)

abbrev pub power_z : ℕ → ℕ
power_z zero = 1
power_z (suc k) = times_z (power_z k)

-- The remainder of a polynomial of degree below 32.
unfoldable pub remainder : ℕ → ℕ
remainder w = columns power_z 32 w

-- The syndrome of a set of the 29 guard bits, p1 the coefficient of z^28: what is above 29 bits counts for nothing.
unfoldable pub guard_syndrome : ℕ → ℕ
guard_syndrome set = remainder (set % 2 ^ 29)

-- The checks C1 to C5 of 24 parities, p1 the coefficient of z^23: the remainder of z^5 times them, C1 highest.
-- What is above 24 bits counts for nothing.
unfoldable pub checks_of : ℕ → ℕ
checks_of parities = remainder (2 ^ 5 * (parities % 2 ^ 24))
