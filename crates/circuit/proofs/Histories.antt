-- Every history keeps what a circuit promises.
use Rattle.std.proofs.Common.{◌≡◌, ℕ, ◌+◌, ◌<◌, ◌≤◌, List, length, get_or, Some, None, Option, sym, ap, ◌∙◌, subst, arith}
use Rattle.words.specs.Meaning.{Meaning, CellRule, Wide}
use Rattle.frames.specs.Frame.{frame}
use Rattle.pairs.specs.Sending.{codes_of}
use Rattle.reception.specs.Arrivals.{Arrival}
use Rattle.reception.specs.Given.{PairGiven, pair_given}
use Rattle.fidelity.specs.Crossing.{Crosses, HardlyHarmed, Unharmed, OneOctetHardlyHarms, NoDamageNoHarm}
use Rattle.circuit.specs.Putting.{fresh_source}
use Rattle.circuit.specs.Taking.{fresh_sink}
use Rattle.circuit.specs.History.{Event}
use Rattle.circuit.specs.Promise.{pair_put, frame_sent, heard, arrival, pair_out, PairsAreTheStandards, Crossed, OneOctetDamaged, NoneDamaged, Dependable}
use Rattle.circuit.proofs.Puts.{proper}
use Rattle.circuit.proofs.Frames.{frames_are_the_standards}
use Rattle.circuit.proofs.Receptions.{whole, given_at, as_many, first_early}
use Rattle.circuit.proofs.Fours.{four_are_the_pair}

some_is : {X : Type 0} (a b : X) → ◌≡◌ {A = Option X} (Some a) (Some b) → a ≡ b
some_is a b e = cc

module _ (outlet : Meaning) (h : List Event) where
  pub given_is : (N : ℕ) → N + 3 < length (heard outlet h).arrivals → pair_out outlet h N ≡ Some (pair_given outlet (arrival outlet h) N)
  given_is N l =
      ap (λ (gs : List (Option PairGiven)). get_or gs (N + 3) None) (whole outlet h fresh_sink)
      ∙ given_at outlet (heard outlet h).arrivals fresh_sink N (omega arith) l
      ∙ ap Some (four_are_the_pair outlet (arrival outlet h) N)

  pub pairs_are_the_standards : PairsAreTheStandards outlet h
  pairs_are_the_standards = record {
    answered = ap length (whole outlet h fresh_sink) ∙ as_many outlet (heard outlet h).arrivals fresh_sink;
    early = λ k l. ap (λ (gs : List (Option PairGiven)). get_or gs k None) (whole outlet h fresh_sink) ∙ first_early outlet (heard outlet h).arrivals k l;
    given = given_is;
  }

  module _ (N : ℕ) (given : PairGiven) (c : Crossed outlet h N given) where
    is : given ≡ pair_given outlet (arrival outlet h) N
    is = some_is given (pair_given outlet (arrival outlet h) N) (sym c.gave ∙ given_is N c.came)

    crosses : Crosses (pair_put h) (arrival outlet h) N
    crosses =
        let p = proper h fresh_source in
        record { put = λ k lo hi. p.pairs k (omega (arith, c.sent, p.frames)); taken = c.taken }

    as_sent : (k : ℕ) → N ≤ k → k < N + 4 → frame_sent h k ≡ frame (codes_of (pair_put h)) k
    as_sent k lo hi = frames_are_the_standards h k (omega (arith, c.sent))

    module _ (rule : CellRule outlet) (wide : Wide outlet) where
      pub hardly_harmed : OneOctetHardlyHarms → OneOctetDamaged outlet h N → HardlyHarmed outlet (pair_put h) given N
      hardly_harmed theorem d =
          subst (λ (g : PairGiven). HardlyHarmed outlet (pair_put h) g N) (sym is)
          (theorem outlet rule wide (pair_put h) (arrival outlet h) N crosses
          (record {
            frame = d.frame;
            octet = d.octet;
            from = d.from;
            upto = d.upto;
            inside = d.inside;
            others = λ f j lo hi low ne. ap (λ (o : List ℕ). get_or o j 0) (sym (as_sent f lo hi)) ∙ d.others f j lo hi low ne;
          }))

      pub unharmed : NoDamageNoHarm → NoneDamaged outlet h N → Unharmed outlet (pair_put h) given N
      unharmed theorem d =
          subst (λ (g : PairGiven). Unharmed outlet (pair_put h) g N) (sym is)
          (theorem outlet rule wide (pair_put h) (arrival outlet h) N crosses (λ k lo hi. d k lo hi ∙ as_sent k lo hi))

-- four alike arrivals, one after the other
same_four : (outlet : Meaning) (f g : ℕ → Arrival) (N : ℕ) → ((k : ℕ) → N ≤ k → k < N + 4 → f k ≡ g k) → pair_given outlet f N ≡ pair_given outlet g N
same_four outlet f g N e =
    let first = e N (omega arith) (omega arith) in
    let second = e (N + 1) (omega arith) (omega arith) in
    let third = e (N + 2) (omega arith) (omega arith) in
    let fourth = e (N + 3) (omega arith) (omega arith) in
    let here = four_are_the_pair outlet f N in
    let there = four_are_the_pair outlet g N in
    cc

-- what a crossing does to a pair is known for whatever pairs and arrivals there are
pub dependable : OneOctetHardlyHarms → NoDamageNoHarm → (outlet : Meaning) → CellRule outlet → Wide outlet → (h : List Event) → Dependable outlet h
dependable one none outlet rule wide h = record {
  frames_are_the_standards = frames_are_the_standards h;
  pairs_are_the_standards = pairs_are_the_standards outlet h;
  one_damaged_octet_hardly_harms = λ N given c d. hardly_harmed outlet h N given c rule wide one d;
  undamaged_pairs_are_unharmed = λ N given c d. unharmed outlet h N given c rule wide none d;
  four_frames_decide_a_pair = λ g N a.
      given_is outlet h N a.here
      ∙ ap Some (same_four outlet (arrival outlet h) (arrival outlet g) N a.same)
      ∙ sym (given_is outlet g N a.there);
}
