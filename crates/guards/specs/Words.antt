-- The words of a block as code holds them, sixteen of the odd samples and sixteen of the even ones.
use Rattle.std.specs.Prelude.{ℕ, ◌-◌, ◌/◌, ◌%◌, cond, List, nat_lt, slice_index}

-- The word of a sample, 1 to 32.
abbrev pub by_sample : List ℕ → List ℕ → ℕ → ℕ
by_sample odd even sample = cond (nat_lt 0 (sample % 2)) (slice_index odd (sample / 2)) (slice_index even (sample / 2 - 1))
