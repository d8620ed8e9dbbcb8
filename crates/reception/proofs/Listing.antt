-- Frames that are equal as lists are recorded alike: same words, range word and checks, hence the same records.
use Rattle.std.proofs.Common.{◌≡◌, ℕ, ◌+◌, ◌*◌, Bool, ◌||◌, List, get_or, refl, ap, ◌∙◌, arith}
use Rattle.guards.specs.Counts.{same_map}
use Rattle.frames.specs.Places.{IsBlock}
use Rattle.frames.specs.Frame.{Pair, SamePair, heard}
use Rattle.frames.specs.Content.{Listed, listed, pair_in}
use Rattle.frames.proofs.Same.{same_listed}
use Rattle.reception.specs.declared.arrived.Arrived.{Arrived}
use Rattle.reception.specs.Arrivals.{Arrival, is_lost, octets_in}
use Rattle.reception.specs.Blocks.{odd_words_of, even_words_of, judged}
use Rattle.reception.specs.Recording.{Recorded, begun, followed, completed, unjudged}
use Rattle.reception.specs.Carried.{carried, carried_by}
use Rattle.reception.specs.Records.{blank_record, arrive_with, arrive_by}
use Rattle.reception.proofs.Pairs.{same_pair}

abbrev block_1 : IsBlock 1
block_1 = record { from = omega arith; upto = omega arith }

abbrev block_2 : IsBlock 2
block_2 = record { from = omega arith; upto = omega arith }

module _ (p q : Pair) (e : listed p ≡ listed q) where
  same : SamePair p q
  same = same_listed p q e

  pub odd_words_same : (block : ℕ) → IsBlock block → odd_words_of p block ≡ odd_words_of q block
  odd_words_same block b =
      same_map (λ i. p.word block (2 * i + 1)) (λ i. q.word block (2 * i + 1)) 0 16
      (λ i l h. same.words block (2 * i + 1) b (record { from = omega arith; upto = omega arith }))

  pub even_words_same : (block : ℕ) → IsBlock block → even_words_of p block ≡ even_words_of q block
  even_words_same block b =
      same_map (λ i. p.word block (2 * i + 2)) (λ i. q.word block (2 * i + 2)) 0 16
      (λ i l h. same.words block (2 * i + 2) b (record { from = omega arith; upto = omega arith }))

  pub ranges_same : p.ranges ≡ q.ranges
  ranges_same = same.range_word

  pub checks_same : (block : ℕ) → IsBlock block → p.checks block ≡ q.checks block
  checks_same = same.check_words

  pub begun_same : (lost : Bool) → begun lost p ≡ begun lost q
  begun_same lost = same_pair lost ranges_same (checks_same 1 block_1) (checks_same 2 block_2) refl refl

  pub followed_same : (lost : Bool) (r : Recorded) → followed lost p r ≡ followed lost q r
  followed_same lost r =
      same_pair _ refl refl refl
      (ap (λ (ws : List ℕ). unjudged ws r.first.even_words) (odd_words_same 1 block_1))
      (ap (unjudged r.second.odd_words) (even_words_same 2 block_2))

  pub completed_same : (lost : Bool) (r : Recorded) → completed lost p r ≡ completed lost q r
  completed_same lost r =
      same_pair _ refl refl refl
      (ap (judged (r.lost || lost) r.range_word 1 r.checks_first r.first.odd_words) (even_words_same 1 block_1))
      (ap (λ (ws : List ℕ). judged (r.lost || lost) r.range_word 2 r.checks_second ws r.second.even_words) (odd_words_same 2 block_2))

  pub arrive_same : (lost : Bool) (rs : List Recorded) → arrive_with lost p rs ≡ arrive_with lost q rs
  arrive_same lost rs =
      let own = begun_same lost in
      let second = followed_same lost (get_or rs 0 blank_record) in
      let third = completed_same lost (get_or rs 1 blank_record) in
      cc

-- by an arrival that carries the same
pub arrive_carried : (x : Arrived) (a : Arrival) → carried x ≡ carried_by a → (rs : List Recorded) → arrive_with x.lost (pair_in x.frame) rs ≡ arrive_by a rs
arrive_carried x a e rs =
    ap (λ (lost : Bool). arrive_with lost (pair_in x.frame) rs) (ap (λ (c : Bool × Listed). c.0) e)
    ∙ arrive_same (pair_in x.frame) (heard (octets_in a)) (ap (λ (c : Bool × Listed). c.1) e) (is_lost a) rs
