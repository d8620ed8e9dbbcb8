-- J.41 variant B: 12 bits, which are a sign, three bits for the segment, seven for the place in it, and a parity.
use Rattle.std.specs.Prelude.{ℕ, ◌+◌, ◌-◌, ◌*◌, ◌/◌, ◌%◌, cond, ℤ, pos, negsuc, ◌==◌, count_ones, nat_lt}
use Rattle.words.specs.Meaning.{Meaning}

-- The code of a magnitude: steps of 1, then 2, 4, 8, 16 and 32 from 256, 512, 1024, 2048 and 4096 on.
abbrev pub code_of : ℕ → ℕ
code_of a =
    cond (nat_lt a 256) a
    (cond (nat_lt a 512) (256 + (a - 256) / 2)
    (cond (nat_lt a 1024) (384 + (a - 512) / 4)
    (cond (nat_lt a 2048) (512 + (a - 1024) / 8)
    (cond (nat_lt a 4096) (640 + (a - 2048) / 16)
    (768 + (a - 4096) / 32)))))

-- The lowest magnitude of a code, and how many magnitudes have it.
abbrev pub first_of : ℕ → ℕ
first_of c =
    cond (nat_lt c 256) c
    (cond (nat_lt c 384) (256 + (c - 256) * 2)
    (cond (nat_lt c 512) (512 + (c - 384) * 4)
    (cond (nat_lt c 640) (1024 + (c - 512) * 8)
    (cond (nat_lt c 768) (2048 + (c - 640) * 16)
    (4096 + (c - 768) * 32)))))

abbrev pub step_of : ℕ → ℕ
step_of c = cond (nat_lt c 256) 1 (cond (nat_lt c 384) 2 (cond (nat_lt c 512) 4 (cond (nat_lt c 640) 8 (cond (nat_lt c 768) 16 32))))

-- The eleven bits before the parity: the sign, the segment code / 128 + 1, and the rest of the code.
abbrev pub eleven_bits : ℕ → ℕ → ℕ
eleven_bits sign c = 1024 * sign + 128 * (c / 128 + 1) + c % 128

-- A negative value v has the sign 1 and the code of -1 - v.
abbrev pub front_of : ℤ → ℕ
front_of (pos a) = eleven_bits 0 (code_of a)
front_of (negsuc a) = eleven_bits 1 (code_of a)

-- Even parity over the sign, the segment and the first three of the seven: the top seven of eleven bits.
abbrev pub parity : ℕ → ℕ
parity front = count_ones (front / 16) % 2

abbrev pub gate_word : ℤ → ℕ
gate_word v = 2 * front_of v + parity (front_of v)

-- The cell of a word by its eleven bits.
abbrev pub gate_low : ℕ → ℤ
gate_low x = cond (nat_lt x 1024) (pos (first_of (x - 128))) (negsuc (first_of (x - 1152) + (step_of (x - 1152) - 1)))

abbrev pub gate_width : ℕ → ℕ
gate_width x = cond (nat_lt x 1024) (step_of (x - 128)) (step_of (x - 1152))

-- 7 above 12 bits, then 8 for a wrong parity, then 9 for a segment of 0.
abbrev pub gate_refusal : ℕ → ℕ
gate_refusal w = cond (nat_lt w 4096) (cond (w % 2 == parity (w / 2)) (cond (w / 256 % 8 == 0) 9 0) 8) 7

abbrev pub variant_b : Meaning
variant_b = record {
  bits = 12;
  lowest = negsuc 8191;
  highest = pos 8191;
  word = gate_word;
  low = λ w. gate_low (w / 2);
  width = λ w. gate_width (w / 2);
  refusal = gate_refusal;
}
