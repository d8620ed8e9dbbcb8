-- Where at most one octet of frames N to N + 3 is damaged, each block of pair N and the block after it are received faithfully, with
-- codes at most 16 off where they count; where none is damaged, with the codes that were sent.
use Rattle.std.proofs.Common.{◌≡◌, ℕ, ◌+◌, ◌-◌, ◌*◌, ◌/◌, ◌%◌, ◌<◌, ◌≤◌, Bool, false, cond, eqb, ltb, List, get_or, ℤ, is_some, Some, None, Option, sym, refl, ap, ◌∙◌, subst, arith}
use Rattle.std.proofs.lemmas.Int.{ints}
use Rattle.std.proofs.lemmas.List.FromFn.{get_or-map-range_with_len}
use Rattle.std.proofs.lemmas.Bool.{cond-false, cond_both, ltb-true, ltb-false, or_from}
use Rattle.guards.specs.Division.{checks_of}
use Rattle.guards.specs.Mended.{range_found, ranges_told}
use Rattle.guards.specs.Parities.{parities}
use Rattle.guards.specs.Words.{by_sample}
use Rattle.guards.proofs.Guarding.{guards_clean}
use Rattle.blocks.specs.Ranges.{basic_range, additional_range}
use Rattle.blocks.specs.Coding.{coded}
use Rattle.frames.specs.Places.{IsBlock, IsSample}
use Rattle.frames.specs.Frame.{Pair, SamePair, frame, heard_pair}
use Rattle.frames.proofs.Reading.{reads_back, three_frames_decide}
use Rattle.damage.specs.Damage.{Near, whole, BlockHurt, RangeHurt, range_whole, touched}
use Rattle.damage.proofs.Hurting.{one_octet_hardly_hurts}
use Rattle.decoder.specs.Closeness.{distance}
use Rattle.decoder.specs.Findings.{Finding}
use Rattle.decoder.specs.Levels.{code_of}
use Rattle.decoder.specs.Verdicts.{by_guards, first_that_applies}
use Rattle.closeness.specs.Codes.{code_sent}
use Rattle.closeness.proofs.Codes.{near}
use Rattle.pairs.specs.Sending.{words_of, codes_of}
use Rattle.reception.specs.Arrivals.{Arrival, octets_in, lost_part, heard_of}
use Rattle.reception.specs.Blocks.{odd_words_of, even_words_of, guards_found, verdict_of, basic_in, additional_in, judged_as, block_heard}
use Rattle.reception.specs.Given.{block_at}
use Rattle.fidelity.specs.Kept.{block_put}
use Rattle.fidelity.specs.Crossing.{Crosses, OneDamaged, Undamaged}
use Rattle.fidelity.proofs.Faithful.{Faithful}
use Rattle.fidelity.proofs.SentBlocks.{Samples, half_of, ranges_hold, word_sent}
use Rattle.fidelity.proofs.SentPairs.{words_sent, checks_sent, ranges_sent, samples_put, well_coded}
use Rattle.fidelity.proofs.RangesTold.{RangesRight, ranges_right}
use Rattle.fidelity.proofs.JudgingGuards.{guards_like, hurt_like, GuardsRight, guards_right}

-- codes that words tell, at most e off
abbrev Close : ℕ → ℕ → ℕ → ℕ → Type 0
Close e n w w' = distance (code_of (half_of n) w') (code_of (half_of n) w) ≤ e

-- one block of a pair q as heard, beside the block put
module _ (q : Pair) (block : ℕ) where
  abbrev odd : List ℕ
  odd = odd_words_of q block

  abbrev even : List ℕ
  even = even_words_of q block

  -- its lists hold its words
  listed : (n : ℕ) → IsSample n → by_sample odd even n ≡ q.word block n
  listed n is =
      let from = is.from in
      let upto = is.upto in
      let w = q.word block in
      cond_both (ltb 0 (n % 2)) (get_or odd (n / 2) 0) (get_or even (n / 2 - 1) 0) (λ x. x ≡ w n)
      (λ t.
      let some : 0 < n % 2 = ltb-true 0 (n % 2) t in
      let number : 2 * (n / 2) + 1 ≡ n = omega arith in
      get_or-map-range_with_len (λ i. w (2 * i + 1)) 0 16 (n / 2) (n / 2) 0 (omega arith) (omega arith) ∙ ap w number)
      (λ t.
      let none : n % 2 ≤ 0 = ltb-false 0 (n % 2) t in
      let number : 2 * (n / 2 - 1) + 2 ≡ n = omega arith in
      get_or-map-range_with_len (λ i. w (2 * i + 2)) 0 16 (n / 2 - 1) (n / 2 - 1) 0 (omega arith) (omega arith) ∙ ap w number)

  -- where its ranges are told, the guards alone decide
  module _ (put : List ℤ) (ranges : RangesRight put q.ranges block) where
    verdict_is : verdict_of false q.ranges block (q.checks block) odd even ≡ by_guards (guards_found odd even (q.checks block))
    unfolding verdict_of
    verdict_is =
        let g = guards_found odd even (q.checks block) in
        ap (λ (t : Bool). first_that_applies false (range_found q.ranges) t g) (ap is_some ranges.told) ∙ cond-false _ _ _ ranges.somewhere

    heard_is : block_heard false q block ≡ judged_as (by_guards (guards_found odd even (q.checks block))) (Some (basic_range put, additional_range put)) odd even
    unfolding block_heard
    heard_is =
        ap (λ (f : Finding). judged_as f (ranges_told q.ranges block) odd even) verdict_is
        ∙ ap (λ (o : Option (ℕ × ℕ)). judged_as (by_guards (guards_found odd even (q.checks block))) o odd even) ranges.told

    heard_right : (e k : ℕ) → Samples put → GuardsRight k (words_of (coded put)) (q.word block) (guards_found odd even (q.checks block))
        → ((n : ℕ) → IsSample n → Near (words_of (coded put) n) (q.word block n) → Close e n (words_of (coded put) n) (q.word block n))
        → Faithful e k put (block_heard false q block)
    heard_right e k samples g close =
        let own : ℕ × ℕ = (basic_range put, additional_range put) in
        subst (Faithful e k put) (sym heard_is) (record {
          basic = ap (λ (t : Bool). basic_in (cond t (Some own) None)) g.ranges;
          additional = ap (λ (t : Bool). additional_in (cond t (Some own) None)) g.ranges;
          verdict = g.verdict;
          codes = λ s n is shown.
              subst (λ (w : ℕ). distance (code_of (half_of n) w) (code_sent (basic_range put) (additional_range put) s put n) ≤ e) (sym (listed n is))
              (subst (λ (c : ℤ). distance (code_of (half_of n) (q.word block n)) c ≤ e) ((word_sent put samples n is).tells s) (close n is (g.near n is shown)));
        })

-- words that are near tell codes at most 16 apart, and equal words the same code
halves : (n : ℕ) → half_of n % 32 ≡ 0
halves n = cond_both (eqb (n % 2) 1) 512 256 (λ h. h % 32 ≡ 0) (λ _. refl) (λ _. refl)

near_close : (n w w' : ℕ) → Near w w' → Close 16 n w w'
near_close n w w' h = near (half_of n) w w' (halves n) h.guarded h.below h.above

same_close : (n w w' : ℕ) → w' ≡ w → Close 0 n w w'
same_close n w w' e = subst (λ (x : ℕ). Close 0 n w x) (sym e) (omega (arith, ints))

-- pair M, which is pair N or the one after it
module _ (pairs : ℕ → List ℤ) (arrivals : ℕ → Arrival) (N M : ℕ) (lo : N ≤ M) (hi : M ≤ N + 1) (crosses : Crosses pairs arrivals N) where
  abbrev sent : Pair
  sent = heard_pair (frame (codes_of pairs)) M

  abbrev q : Pair
  q = heard_of arrivals M

  none_lost : lost_part arrivals M ≡ false
  none_lost =
      or_from _ _ (or_from _ _ (crosses.taken M lo (omega arith)) (crosses.taken (M + 1) (omega arith) (omega arith)))
      (crosses.taken (M + 2) (omega arith) (omega arith))

  samples : (block : ℕ) → Samples (block_put pairs M block)
  samples = samples_put pairs M (crosses.put M lo (omega arith)) (crosses.put (M + 1) (omega arith) (omega arith))

  read : SamePair sent (codes_of pairs M)
  read = reads_back (codes_of pairs) M (well_coded pairs M (crosses.put M lo (omega arith)) (crosses.put (M + 1) (omega arith) (omega arith)))

  -- what the frames sent say of a block is what was put, and what arrived is judged beside it
  module _ (block : ℕ) (i : IsBlock block) where
    abbrev put : List ℤ
    put = block_put pairs M block

    words_read : (n : ℕ) → IsSample n → sent.word block n ≡ words_of (coded put) n
    words_read n is = read.words block n i is ∙ ap (λ (w : ℕ → ℕ). w n) (words_sent pairs M block)

    faithful : (e k : ℕ) → BlockHurt k block sent q → RangeHurt sent.ranges q.ranges
        → ((n : ℕ) → IsSample n → Near (words_of (coded put) n) (q.word block n) → Close e n (words_of (coded put) n) (q.word block n))
        → Faithful e k put (block_at arrivals M block)
    faithful e k hit ranges close =
        let w = words_of (coded put) in
        let told = ranges_right (block_put pairs M) q.ranges (λ block. ranges_hold (block_put pairs M block) (samples block))
        (subst (λ (r : ℕ). RangeHurt r q.ranges) (read.range_word ∙ ranges_sent pairs M) ranges) block i in
        let own = hurt_like k (sent.word block) w (sent.checks block) (checks_of (parities w)) (q.word block) (q.checks block)
        words_read (read.check_words block i ∙ checks_sent pairs M block) hit in
        let guards = guards_right (odd_words_of q block) (even_words_of q block) (q.word block) (q.checks block) (listed q block) k w (checks_of (parities w)) (guards_clean w) own in
        subst (λ (lost : Bool). Faithful e k put (block_heard lost q block)) (sym none_lost) (heard_right q block put told e k (samples block) guards close)

    damaged : (k : ℕ) → BlockHurt k block sent q → RangeHurt sent.ranges q.ranges → Faithful 16 k put (block_at arrivals M block)
    damaged k hit ranges = faithful 16 k hit ranges (λ n is. near_close n (words_of (coded put) n) (q.word block n))

    undamaged : Undamaged pairs arrivals N → Faithful 0 0 put (block_at arrivals M block)
    undamaged intact =
        let same = three_frames_decide (λ k. octets_in (arrivals k)) (frame (codes_of pairs)) M (λ k from upto. intact k (omega arith) (omega arith)) in
        faithful 0 0
        (whole (guards_like (q.word block) (sent.word block) (q.checks block) (sent.checks block) (λ n is. same.words block n i is) (same.check_words block i))
        (λ n is. let e = same.words block n i is in record { guarded = ap (λ (w : ℕ). w / 32) (sym e); below = omega arith; above = omega arith }))
        (range_whole same.range_word)
        (λ n is _. same_close n (words_of (coded put) n) (q.word block n) (same.words block n i is ∙ words_read n is))

first : IsBlock 1
first = record { from = omega arith; upto = omega arith }

module _ (pairs : ℕ → List ℤ) (arrivals : ℕ → Arrival) (N : ℕ) (crosses : Crosses pairs arrivals N) where
  pub judged_right : (damage : OneDamaged pairs arrivals N) → (block : ℕ) → IsBlock block
      → Faithful 16 (touched block N damage.frame damage.octet) (block_put pairs N block) (block_at arrivals N block)
  judged_right damage block i =
      let hurt = one_octet_hardly_hurts (frame (codes_of pairs)) (λ k. octets_in (arrivals k)) N damage in
      damaged pairs arrivals N N (omega arith) (omega arith) crosses block i (touched block N damage.frame damage.octet) (hurt.blocks block i) hurt.range_word

  pub next_judged_right : (damage : OneDamaged pairs arrivals N)
      → Faithful 16 (touched 1 (N + 1) damage.frame damage.octet) (block_put pairs (N + 1) 1) (block_at arrivals (N + 1) 1)
  next_judged_right damage =
      let hurt = one_octet_hardly_hurts (frame (codes_of pairs)) (λ k. octets_in (arrivals k)) N damage in
      damaged pairs arrivals N (N + 1) (omega arith) (omega arith) crosses 1 first (touched 1 (N + 1) damage.frame damage.octet) hurt.next_block hurt.next_range_word

  pub undamaged_right : Undamaged pairs arrivals N → (block : ℕ) → IsBlock block → Faithful 0 0 (block_put pairs N block) (block_at arrivals N block)
  undamaged_right intact block i = undamaged pairs arrivals N N (omega arith) (omega arith) crosses block i intact

  pub next_undamaged_right : Undamaged pairs arrivals N → Faithful 0 0 (block_put pairs (N + 1) 1) (block_at arrivals (N + 1) 1)
  next_undamaged_right intact = undamaged pairs arrivals N (N + 1) (omega arith) (omega arith) crosses 1 first intact
