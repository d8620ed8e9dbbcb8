-- A coded block by its ranges and words.
use Rattle.std.specs.Prelude.{ℕ, ◌*◌, List, map, ℤ, pos, slice_index_or}
use Rattle.std.specs.List.{range_with_len}
use Rattle.words.specs.Signed.{basic, additional}
use Rattle.blocks.specs.declared.coded.CodedBlock.{CodedBlock}
use Rattle.blocks.specs.Ranges.{basic_range, additional_range, differences}

pub record Code : Type 0 where
  pub basic_of : ℕ
  pub additional_of : ℕ
  pub odd : List ℕ
  pub even : List ℕ

-- What a coded block says.
abbrev pub code_of : CodedBlock → Code
code_of block = record {
  basic_of = block.ranges.basic;
  additional_of = block.ranges.additional;
  odd = block.odd.words;
  even = block.even.words;
}

-- Samples 1, 3 .. 31.
unfoldable pub odd_samples : List ℤ → List ℤ
odd_samples samples = map (λ k. slice_index_or samples (2 * k) (pos 0)) (range_with_len 0 16)

-- The code of a block's samples and follower: its ranges, the basic words of its odd samples, and the additional words of the
-- differences at its even ones.
unfoldable pub coded : List ℤ → Code
coded samples = record {
  basic_of = basic_range samples;
  additional_of = additional_range samples;
  odd = map (basic (basic_range samples)).word (odd_samples samples);
  even = map (additional (basic_range samples) (additional_range samples)).word (differences samples);
}
