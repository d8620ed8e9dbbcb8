-- A pair recorded over its four arrivals is the pair given as the definition has it.
use Rattle.std.proofs.Common.{◌≡◌, ℕ, ◌+◌, refl, ap, ◌∙◌, arith}
use Rattle.words.specs.Meaning.{Meaning}
use Rattle.decoder.specs.Samples.{Received}
use Rattle.reception.specs.Arrivals.{Arrival}
use Rattle.reception.specs.Blocks.{block_heard}
use Rattle.reception.specs.Given.{giving, block_at, pair_given}
use Rattle.reception.specs.Recording.{begun_by, followed_by, completed_by}
use Rattle.circuit.proofs.Receptions.{of_four}

module _ (f : ℕ → Arrival) (N : ℕ) where
  first_is : (completed_by (f (N + 2)) (followed_by (f (N + 1)) (begun_by (f N)))).first ≡ block_at f N 1
  unfolding block_heard
  first_is = refl

  second_is : (completed_by (f (N + 2)) (followed_by (f (N + 1)) (begun_by (f N)))).second ≡ block_at f N 2
  unfolding block_heard
  second_is = refl

module _ (outlet : Meaning) (f : ℕ → Arrival) (N : ℕ) where
  after_is : (completed_by (f (N + 3)) (followed_by (f (N + 2)) (begun_by (f (N + 1))))).first ≡ block_at f (N + 1) 1
  after_is =
      let two : N + 2 ≡ N + 1 + 1 = omega arith in
      let three : N + 3 ≡ N + 1 + 2 = omega arith in
      ap (λ k. (completed_by (f k) (followed_by (f (N + 2)) (begun_by (f (N + 1))))).first) three
      ∙ ap (λ k. (completed_by (f (N + 1 + 2)) (followed_by (f k) (begun_by (f (N + 1))))).first) two
      ∙ first_is f (N + 1)

  pub four_are_the_pair : of_four outlet (f N) (f (N + 1)) (f (N + 2)) (f (N + 3)) ≡ pair_given outlet f N
  unfolding pair_given of_four
  four_are_the_pair =
      ap (λ (b : Received). giving outlet b (completed_by (f (N + 2)) (followed_by (f (N + 1)) (begun_by (f N)))).second (completed_by (f (N + 3)) (followed_by (f (N + 2)) (begun_by (f (N + 1))))).first) (first_is f N)
      ∙ ap (λ (b : Received). giving outlet (block_at f N 1) b (completed_by (f (N + 3)) (followed_by (f (N + 2)) (begun_by (f (N + 1))))).first) (second_is f N)
      ∙ ap (λ (b : Received). giving outlet (block_at f N 1) (block_at f N 2) b) after_is
