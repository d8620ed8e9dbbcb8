-- The blocks put, by the pairs: each of their samples is small, is a sample of its pair, and the follower is the first of the next block.
use Rattle.std.proofs.Common.{◌≡◌, ℕ, ◌+◌, ◌-◌, ◌^◌, ◌<◌, ◌≤◌, List, ◌++◌, length, get_or, ℤ, pos, sym, ap, ◌∙◌, subst, ⊎_elim, arith}
use lib.Signed.{mag}
use Rattle.std.proofs.lemmas.List.FromFn.{get_or-map-range_with_len, length-map-range_with_len}
use Rattle.std.proofs.lemmas.List.{get_or_append_left, get_or-append_right}
use Rattle.std.proofs.lemmas.Bool.{cases_lt}
use Rattle.closeness.specs.Codes.{value}
use Rattle.pairs.specs.Sending.{IsPair, block_from, first_block, second_block}
use Rattle.pairs.proofs.Placed.{everywhere}
use Rattle.fidelity.specs.Kept.{place_of}

abbrev small : ℤ → Type 0
small v = mag v < 2 ^ 13

abbrev pub Small : List ℤ → Type 0
Small samples = (k : ℕ) → small (get_or samples k (pos 0))

small_pair : (pair : List ℤ) → IsPair pair → Small pair
small_pair pair is = everywhere small pair (pos 0) (omega arith) is.bounded

module _ (samples : List ℤ) (place : ℕ) where
  from_place : (k : ℕ) → k < 33 → get_or (block_from samples place) k (pos 0) ≡ get_or samples (place + k) (pos 0)
  unfolding block_from
  from_place k h = get_or-map-range_with_len (λ k. get_or samples (place + k) (pos 0)) 0 33 k k (pos 0) h (omega arith)

  as_many : length (block_from samples place) ≡ 33
  unfolding block_from
  as_many = length-map-range_with_len (λ k. get_or samples (place + k) (pos 0)) 0 33

  small_from : Small samples → Small (block_from samples place)
  small_from all = everywhere small (block_from samples place) (pos 0) (omega arith)
      (λ k h. subst small (sym (from_place k (omega (arith, as_many)))) (all (place + k)))

pub first_small : (pair : List ℤ) → IsPair pair → Small (first_block pair)
first_small pair is = small_from pair 0 (small_pair pair is)

pub first_put : (pair : List ℤ) (n : ℕ) → 1 ≤ n → n ≤ 33 → value (first_block pair) n ≡ get_or pair (place_of 1 n) (pos 0)
first_put pair n from upto =
    let place : 0 + (n - 1) ≡ place_of 1 n = omega arith in
    from_place pair 0 (n - 1) (omega arith) ∙ ap (λ k. get_or pair k (pos 0)) place

module _ (pair next : List ℤ) (is : IsPair pair) where
  own : (k : ℕ) → k < 64 → get_or (pair ++ next) k (pos 0) ≡ get_or pair k (pos 0)
  own k h = get_or_append_left pair next (pos 0) k (omega (arith, is.all))

  later : (k : ℕ) → 64 ≤ k → get_or (pair ++ next) k (pos 0) ≡ get_or next (k - 64) (pos 0)
  later k h = get_or-append_right pair next 64 k (pos 0) is.all h

  pub second_small : IsPair next → Small (second_block pair next)
  second_small is_next = small_from (pair ++ next) 32 (λ k. ⊎_elim
      (λ (h : k < 64). subst small (sym (own k h)) (small_pair pair is k))
      (λ (h : 64 ≤ k). subst small (sym (later k h)) (small_pair next is_next (k - 64)))
      (cases_lt k 64))

  pub second_put : (n : ℕ) → 1 ≤ n → n ≤ 32 → value (second_block pair next) n ≡ get_or pair (place_of 2 n) (pos 0)
  second_put n from upto = from_place (pair ++ next) 32 (n - 1) (omega arith) ∙ own (place_of 2 n) (omega arith)

  -- the followers
  pub first_follower : value (first_block pair) 33 ≡ value (second_block pair next) 1
  first_follower = first_put pair 33 (omega arith) (omega arith) ∙ sym (second_put 1 (omega arith) (omega arith))

  pub second_follower : value (second_block pair next) 33 ≡ value (first_block next) 1
  second_follower =
      from_place (pair ++ next) 32 32 (omega arith) ∙ later 64 (omega arith) ∙ sym (first_put next 1 (omega arith) (omega arith))
