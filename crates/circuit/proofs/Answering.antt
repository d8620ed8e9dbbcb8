-- What a take or a loss answers once its buffer is measured and its octets are read.
use Rattle.std.proofs.Common.{◌≡◌, ℕ, ◌+◌, ◌<◌, eqb, List, Some, None, sym, ap, ◌∙◌, arith}
use Rattle.std.proofs.lemmas.Bool.{cond-true, cond-false, eq-eqb, ne_eqb}
use Rattle.std.proofs.lemmas.Bool.Decides.{nat_tests}
use Rattle.words.specs.Answers.{Answer, gives}
use Rattle.words.specs.Meaning.{Meaning}
use Rattle.reception.specs.Given.{Told}
use Rattle.reception.specs.Recording.{Recorded}
use Rattle.reception.specs.Records.{oldest_given}
use Rattle.circuit.specs.Taking.{Sink, Took, measuring, answering, unless_refused}

pub measured : (room : ℕ) (x : Unit {0}) → gives x ≡ measuring room → room ≡ 64
measured room x e = grind (arith, nat_tests)

module _ (outlet : Meaning) (s : Sink) (words : List ℕ) where
  -- what was not refused is taken
  pub let_through : (a : Answer (Unit {0})) (x : Unit {0}) (took : Took) → gives x ≡ a → took ≡ unless_refused outlet s words a took
  let_through a x took e = ap (λ (b : Answer (Unit {0})). unless_refused outlet s words b took) e

  -- and gives the oldest pair, unless it is too early
  pub early_is : (recent came : List Recorded) → came ≡ recent → s.seen < 3
      → record { sink = record { seen = s.seen + 1; recent = came }; words = words; answer = gives None } ≡ answering outlet s words recent
  early_is recent came e h =
      ap (λ (rs : List Recorded). record { sink = record { seen = s.seen + 1; recent = rs }; words = words; answer = gives None }) e
      ∙ sym (cond-false (eqb s.seen 3) _ _ (ne_eqb s.seen 3 (λ e. omega arith)))

  abbrev took : List Recorded → List ℕ → Told → Took
  took recent given report = record { sink = record { seen = s.seen; recent = recent }; words = given; answer = gives (Some report) }

  pub given_is : (recent came : List Recorded) (given : List ℕ) (report : Told) → came ≡ recent
      → given ≡ (oldest_given outlet came).words → report ≡ (oldest_given outlet came).report → s.seen ≡ 3
      → took came given report ≡ answering outlet s words recent
  given_is recent came given report e w r h =
      let same : took came given report ≡ took recent (oldest_given outlet recent).words (oldest_given outlet recent).report = cc in
      same ∙ sym (cond-true (eqb s.seen 3) _ _ (eq-eqb s.seen 3 h))
