-- Pairs given are a function of the arrivals: what a receiver answers to each of them, whatever calls were refused in between.
use Rattle.std.proofs.Common.{◌≡◌, ℕ, zero, suc, ◌+◌, ◌<◌, ◌≤◌, Bool, true, false, cond, eqb, List, [], ◌∷◌, length, get_or, Some, None, Option, sym, refl, ap, subst, arith}
use Rattle.std.proofs.lemmas.Bool.Decides.{nat_tests}
use Rattle.words.specs.declared.faults.Layer.{Layer}
use Rattle.words.specs.declared.faults.Layer.TheVariants.{Pair}
use Rattle.words.specs.Answers.{Answer, gives, refuses}
use Rattle.words.specs.Meaning.{Meaning}
use Rattle.frames.specs.Content.{Listed}
use Rattle.frames.specs.Answers.{reading}
use Rattle.reception.specs.Arrivals.{Arrival}
use Rattle.reception.specs.Given.{PairGiven, giving}
use Rattle.reception.specs.Recording.{Recorded, begun_by, followed_by, completed_by}
use Rattle.reception.specs.Records.{arrive_by, oldest_given}
use Rattle.circuit.specs.Taking.{Sink, Took, fresh_sink, refusing, arriving, unless_refused, by_reading, taking, losing}
use Rattle.circuit.specs.History.{Event, puts, puts_words, takes, loses, Incoming, incoming, receiving, both_in}

module _ (outlet : Meaning) where
  -- the answer to an arrival, and the receiver after it
  abbrev out : Sink → Arrival → Option PairGiven
  out s a = cond (eqb s.seen 3) (Some (oldest_given outlet (arrive_by a s.recent))) None

  abbrev next : Sink → Arrival → Sink
  next s a = record { seen = cond (eqb s.seen 3) s.seen (s.seen + 1); recent = arrive_by a s.recent }

  abbrev pub outputs : Sink → List Arrival → List (Option PairGiven)
  outputs s [] = []
  outputs s (a ∷ xs) = out s a ∷ outputs (next s a) xs

  -- each take and each loss is refused, or is an arrival
  data Move (s : Sink) (words : List ℕ) (a : Arrival) (took : Took) : Type 0 where
    idle : (n p : ℕ) (l : Layer) → took ≡ refusing outlet s words (refuses n p l) → Move s words a took
    arrived : took ≡ arriving outlet s words a → Move s words a took

  by_room : (s : Sink) (words : List ℕ) (a : Arrival) (took : Took) (room : Bool) → Move s words a took
      → Move s words a (unless_refused outlet s words (cond room (gives tt) (refuses 6 (length words) Pair)) took)
  by_room s words a took true m = m
  by_room s words a took false m = idle 6 (length words) Pair refl

  by_octets : (s : Sink) (words octets : List ℕ) (r : Answer Listed) → Move s words (Some octets) (by_reading outlet s words octets r)
  by_octets s words octets (gives content) = arrived refl
  by_octets s words octets (refuses n p l) = idle n p l refl

  take_moves : (s : Sink) (words octets : List ℕ) → Move s words (Some octets) (taking outlet s words octets)
  take_moves s words octets = by_room s words (Some octets) _ (eqb (length words) 64) (by_octets s words octets (reading octets))

  loss_moves : (s : Sink) (words : List ℕ) → Move s words None (losing outlet s words)
  loss_moves s words = by_room s words None _ (eqb (length words) 64) (arrived refl)

  -- what is given from here on is what the arrivals from here on give
  abbrev Right : Sink → Incoming → Type 0
  Right s inc = inc.givens ≡ outputs s inc.arrivals

  module _ (s : Sink) (words : List ℕ) (a : Arrival) (rest : Sink → Incoming) (on : (t : Sink) → Right t (rest t)) where
    answered : (full : Bool) → eqb s.seen 3 ≡ full → Right s (both_in outlet (incoming (arriving outlet s words a) a) (rest (arriving outlet s words a).sink))
    answered true e = simp e (ap (λ (gs : List (Option PairGiven)). Some (oldest_given outlet (arrive_by a s.recent)) ∷ gs) (on _))
    answered false e = simp e (ap (λ (gs : List (Option PairGiven)). None ∷ gs) (on _))

    moved : (took : Took) → Move s words a took → Right s (both_in outlet (incoming took a) (rest took.sink))
    moved took (idle n p l e) = subst (λ (t : Took). Right s (both_in outlet (incoming t a) (rest t.sink))) (sym e) (on s)
    moved took (arrived e) = subst (λ (t : Took). Right s (both_in outlet (incoming t a) (rest t.sink))) (sym e) (answered (eqb s.seen 3) refl)

  pub whole : (es : List Event) (s : Sink) → (receiving outlet s es).givens ≡ outputs s (receiving outlet s es).arrivals
  whole [] s = refl
  whole (puts samples room ∷ es) s = whole es s
  whole (puts_words law words room ∷ es) s = whole es s
  whole (takes octets words ∷ es) s = moved s words (Some octets) (λ t. receiving outlet t es) (whole es) (taking outlet s words octets) (take_moves s words octets)
  whole (loses words ∷ es) s = moved s words None (λ t. receiving outlet t es) (whole es) (losing outlet s words) (loss_moves s words)

  -- a pair by its four arrivals: as recorded, its own and the two that complete it, and the next one for the block after it
  abbrev recorded_by : Arrival → Arrival → Arrival → Recorded
  recorded_by a b c = completed_by c (followed_by b (begun_by a))

  unfoldable pub of_four : Arrival → Arrival → Arrival → Arrival → PairGiven
  of_four a b c d = giving outlet (recorded_by a b c).first (recorded_by a b c).second (recorded_by b c d).first

  abbrev seen_so : ℕ → List Recorded → Sink
  seen_so n rs = record { seen = n; recent = rs }

  fourth : (n : ℕ) (rs : List Recorded) (a b c d : Arrival) (xs : List Arrival) → n ≤ 3
      → get_or (outputs (seen_so n rs) (a ∷ b ∷ c ∷ d ∷ xs)) 3 None ≡ Some (of_four a b c d)
  unfolding of_four
  fourth zero rs a b c d xs h = refl
  fourth (suc zero) rs a b c d xs h = refl
  fourth (suc (suc zero)) rs a b c d xs h = refl
  fourth (suc (suc (suc zero))) rs a b c d xs h = refl
  fourth (suc (suc (suc (suc n)))) rs a b c d xs h = absurd (omega arith)

  still : (s : Sink) (a : Arrival) → s.seen ≤ 3 → (next s a).seen ≤ 3
  still s a h = grind (arith, nat_tests)

  later : (xs : List Arrival) (s : Sink) (N : ℕ) → s.seen ≤ 3 → suc (suc (suc N)) < length xs
      → get_or (outputs s xs) (suc (suc (suc N))) None ≡ Some (of_four (get_or xs N None) (get_or xs (suc N) None) (get_or xs (suc (suc N)) None) (get_or xs (suc (suc (suc N))) None))
  later [] s N low h = absurd (omega arith)
  later (a ∷ []) s N low h = absurd (omega arith)
  later (a ∷ b ∷ []) s N low h = absurd (omega arith)
  later (a ∷ b ∷ c ∷ []) s N low h = absurd (omega arith)
  later (a ∷ b ∷ c ∷ d ∷ xs) s zero low h = fourth s.seen s.recent a b c d xs low
  later (a ∷ b ∷ c ∷ d ∷ xs) s (suc N) low h = later (b ∷ c ∷ d ∷ xs) (next s a) N (still s a low) (omega arith)

  pub given_at : (xs : List Arrival) (s : Sink) (N : ℕ) → s.seen ≤ 3 → N + 3 < length xs
      → get_or (outputs s xs) (N + 3) None ≡ Some (of_four (get_or xs N None) (get_or xs (N + 1) None) (get_or xs (N + 2) None) (get_or xs (N + 3) None))
  given_at xs s N low h =
      let Gives : ℕ → ℕ → ℕ → Type 0 = λ i j k. get_or (outputs s xs) k None ≡ Some (of_four (get_or xs N None) (get_or xs i None) (get_or xs j None) (get_or xs k None)) in
      let one : suc N ≡ N + 1 = omega arith in
      let two : suc (suc N) ≡ N + 2 = omega arith in
      let three : suc (suc (suc N)) ≡ N + 3 = omega arith in
      subst (λ (i : ℕ). Gives i (N + 2) (N + 3)) one
      (subst (λ (j : ℕ). Gives (suc N) j (N + 3)) two
      (subst (λ (k : ℕ). Gives (suc N) (suc (suc N)) k) three (later xs s N low (omega arith))))

  pub as_many : (xs : List Arrival) (s : Sink) → length (outputs s xs) ≡ length xs
  as_many [] s = refl
  as_many (a ∷ xs) s = ap suc (as_many xs (next s a))

  pub first_early : (xs : List Arrival) (k : ℕ) → k < 3 → get_or (outputs fresh_sink xs) k None ≡ None
  first_early [] k h = refl
  first_early (a ∷ xs) zero h = refl
  first_early (a ∷ []) (suc k) h = refl
  first_early (a ∷ b ∷ xs) (suc zero) h = refl
  first_early (a ∷ b ∷ []) (suc (suc k)) h = refl
  first_early (a ∷ b ∷ c ∷ xs) (suc (suc zero)) h = refl
  first_early (a ∷ b ∷ c ∷ xs) (suc (suc (suc k))) h = absurd (omega arith)
