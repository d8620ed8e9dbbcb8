-- Frames that carry the same: as lists, as octets, and heard from rows of bits that agree.
use Rattle.std.proofs.Common.{◌≡◌, ℕ, ◌+◌, ◌-◌, ◌%◌, ◌<◌, ◌≤◌, Bool, true, false, ◌&&◌, eqb, leb, List, map, sym, refl, ap, ◌∙◌, arith}
use Rattle.std.specs.List.{range_with_len}
use Rattle.std.proofs.lemmas.Bool.{and_parts, both_ways, eqb-true, leb-true}
use Rattle.guards.specs.Bits.{number, bit_in}
use Rattle.guards.specs.Parities.{bits_of}
use Rattle.frames.specs.Places.{Holds, sample_bit, range_bit, check_bit, service_bit, spare_bit, IsBlock, IsSample, delay, travels, lies, lies_at, index}
use Rattle.frames.specs.Frame.{Pair, SamePair, carried, octets_of, bit_at, heard_by, heard}
use Rattle.frames.specs.Content.{Listed, listed}
use Rattle.frames.specs.Answers.{ignored, Alike}
use Rattle.guards.specs.Counts.{same_at, same_map, below, each}
use Rattle.guards.specs.Rows.{number_same, bit_of_number}
use Rattle.frames.proofs.Rows.{packed_same, bit_at_bit}
use Rattle.frames.proofs.Turns.{LiesThere, sample_lies, check_lies, range_lies, index_of_lies}
use Rattle.frames.proofs.Reading.{bit_of_octets}

-- as lists
made : List (List ℕ) → ℕ → List ℕ → Listed
made ws r cs = record { words = ws; range_word = r; check_words = cs }

pub listed_same : (p q : Pair) → SamePair p q → listed p ≡ listed q
unfolding made
listed_same p q s =
    ap (λ ws. made ws p.ranges (map p.checks (range_with_len 1 2)))
    (same_map (λ block. map (p.word block) (range_with_len 1 32)) (λ block. map (q.word block) (range_with_len 1 32)) 1 2
    (λ block l h. same_map (p.word block) (q.word block) 1 32 (λ n m k. s.words block n (record { from = l; upto = omega arith }) (record { from = m; upto = omega arith }))))
    ∙ ap (λ r. made (map (λ block. map (q.word block) (range_with_len 1 32)) (range_with_len 1 2)) r (map p.checks (range_with_len 1 2))) s.range_word
    ∙ ap (made (map (λ block. map (q.word block) (range_with_len 1 32)) (range_with_len 1 2)) q.ranges)
    (same_map p.checks q.checks 1 2 (λ block l h. s.check_words block (record { from = l; upto = omega arith })))

pub same_listed : (p q : Pair) → listed p ≡ listed q → SamePair p q
same_listed p q e = record {
  words = λ block n i s.
      same_at (p.word block) (q.word block) 1 32
      (same_at (λ block. map (p.word block) (range_with_len 1 32)) (λ block. map (q.word block) (range_with_len 1 32)) 1 2 (ap (λ x. x.words) e) block i.from (omega (arith, i.upto)))
      n s.from (omega (arith, s.upto));
  range_word = ap (λ x. x.range_word) e;
  check_words = λ block i. same_at p.checks q.checks 1 2 (ap (λ x. x.check_words) e) block i.from (omega (arith, i.upto));
}

-- every bit of a frame is one of its own: of a block, a sample and a number that there are
abbrev within : ℕ → ℕ → ℕ → Bool
within a k b = leb a k && leb k b

abbrev meant : Holds → Bool
meant (sample_bit earlier block n b) = eqb earlier (delay block n) && (within 1 block 2 && (within 1 n 32 && within 1 b (bits_of n)))
meant (range_bit k) = within 1 k 12
meant (check_bit block k) = within 1 block 2 && within 1 k 5
meant (service_bit k) = true
meant (spare_bit l) = true

all_meant : below (λ i. meant (lies_at i)) 640 ≡ true
unfolding lies
all_meant = refl

inside : (a k b : ℕ) → within a k b ≡ true → (a ≤ k) × (k ≤ b)
inside a k b t = let p = and_parts (leb a k) (leb k b) t in (leb-true a k p.0, leb-true k b p.1)

record SampleMeant (earlier block n b : ℕ) : Type 0 where
  late : earlier ≡ delay block n
  in_block : IsBlock block
  in_sample : IsSample n
  from : 1 ≤ b
  upto : b ≤ bits_of n

sample_meant : (e block n b : ℕ) → meant (sample_bit e block n b) ≡ true → SampleMeant e block n b
sample_meant e block n b t =
    let p = and_parts (eqb e (delay block n)) (within 1 block 2 && (within 1 n 32 && within 1 b (bits_of n))) t in
    let q = and_parts (within 1 block 2) (within 1 n 32 && within 1 b (bits_of n)) p.1 in
    let r = and_parts (within 1 n 32) (within 1 b (bits_of n)) q.1 in
    let u = inside 1 block 2 q.0 in
    let v = inside 1 n 32 r.0 in
    let w = inside 1 b (bits_of n) r.1 in
    record { late = eqb-true _ _ p.0; in_block = record { from = u.0; upto = u.1 }; in_sample = record { from = v.0; upto = v.1 }; from = w.0; upto = w.1 }

check_meant : (block k : ℕ) → meant (check_bit block k) ≡ true → IsBlock block × (1 ≤ k) × (k ≤ 5)
check_meant block k t =
    let p = and_parts (within 1 block 2) (within 1 k 5) t in
    let u = inside 1 block 2 p.0 in
    let v = inside 1 k 5 p.1 in
    (record { from = u.0; upto = u.1 }, v.0, v.1)

-- as octets
carried_same : (p q : Pair) → SamePair p q → (h : Holds) → meant h ≡ true → carried p h ≡ carried q h
carried_same p q s (sample_bit e block n b) t = let m = sample_meant e block n b t in ap (λ w. bit_in (bits_of n) w b) (s.words block n m.in_block m.in_sample)
carried_same p q s (range_bit k) t = ap (λ w. bit_in 12 w k) s.range_word
carried_same p q s (check_bit block k) t = ap (λ w. bit_in 5 w k) (s.check_words block (check_meant block k t).0)
carried_same p q s (service_bit k) t = refl
carried_same p q s (spare_bit l) t = refl

pub octets_same : (p q : Pair) → SamePair p q → octets_of p ≡ octets_of q
unfolding octets_of
octets_same p q s =
    packed_same (λ i. carried p (lies_at i)) (λ i. carried q (lies_at i)) (λ i h. carried_same p q s (lies_at i) (each (λ i. meant (lies_at i)) 640 all_meant i h))

-- from rows of bits that agree but for the spare ones
pub heard_same : (f g : ℕ → ℕ) → ((i : ℕ) → i < 640 → i % 80 < 79 → f i ≡ g i) → SamePair (heard_by f) (heard_by g)
heard_same f g e = record {
  words = λ block n i s. number_same (λ t. f (index (travels block n (t + 1)))) (λ t. g (index (travels block n (t + 1)))) (bits_of n)
      (λ t h. at (travels block n (t + 1)) (sample_lies block n (t + 1) i s (omega arith) (omega arith)));
  range_word = number_same (λ t. f (index (range_bit (t + 1)))) (λ t. g (index (range_bit (t + 1)))) 12
      (λ t h. at (range_bit (t + 1)) (range_lies (t + 1) (omega arith) (omega arith)));
  check_words = λ block i. number_same (λ t. f (index (check_bit block (t + 1)))) (λ t. g (index (check_bit block (t + 1)))) 5
      (λ t h. at (check_bit block (t + 1)) (check_lies block (t + 1) i (omega arith) (omega arith)));
}
  where
    at : (h : Holds) → LiesThere h → f (index h) ≡ g (index h)
    at h there = e (index h) there.inside there.seen

-- what is heard, written again, agrees but for the bits that are ignored
back : (row : ℕ → ℕ) → ((i : ℕ) → row i ≤ 1) → (n b : ℕ) → 1 ≤ b → b ≤ n → bit_in n (number (λ t. row (t + 1)) n) b ≡ row b
back row small n b lo hi =
    let e : b - 1 + 1 ≡ b = omega arith in
    ap (bit_in n (number (λ t. row (t + 1)) n)) (sym e) ∙ bit_of_number (λ t. row (t + 1)) (λ t. small (t + 1)) n (b - 1) (omega arith) ∙ ap row e

carried_heard : (octets : List ℕ) (h : Holds) → meant h ≡ true → ignored h ≡ false → carried (heard octets) h ≡ bit_at octets (index h)
carried_heard o (sample_bit e block n b) t s =
    let m = sample_meant e block n b t in
    back (λ b. bit_at o (index (travels block n b))) (λ b. bit_at_bit o (index (travels block n b))) (bits_of n) b m.from m.upto
    ∙ ap (λ d. bit_at o (index (sample_bit d block n b))) (sym m.late)
carried_heard o (range_bit k) t s =
    let v = inside 1 k 12 t in
    back (λ k. bit_at o (index (range_bit k))) (λ k. bit_at_bit o (index (range_bit k))) 12 k v.0 v.1
carried_heard o (check_bit block k) t s =
    let v = check_meant block k t in
    back (λ k. bit_at o (index (check_bit block k))) (λ k. bit_at_bit o (index (check_bit block k))) 5 k v.1 v.2
carried_heard o (service_bit k) t s = absurd (both_ways true s refl)
carried_heard o (spare_bit l) t s = absurd (both_ways true s refl)

pub written_again : (octets : List ℕ) → Alike (octets_of (heard octets)) octets
written_again octets i h s =
    bit_of_octets (heard octets) i h ∙ carried_heard octets (lies_at i) (each (λ i. meant (lies_at i)) 640 all_meant i h) s ∙ ap (bit_at octets) (index_of_lies i h)
