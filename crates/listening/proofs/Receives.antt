-- What `receive` leaves, by what the take of its frame answered.
use Rattle.std.proofs.Common.{◌≡◌, ℕ, Bool, true, false, cond, eqb, List, length, Some, Option, refl, ap, ◌∙◌, arith}
use Rattle.words.specs.declared.faults.Layer.{Layer}
use Rattle.words.specs.Answers.{Answer, gives, refuses}
use Rattle.words.specs.Meaning.{Meaning}
use Rattle.frames.specs.Content.{Listed}
use Rattle.frames.specs.Answers.{reading}
use Rattle.reception.specs.Given.{Told}
use Rattle.reception.specs.Recording.{Recorded}
use Rattle.reception.specs.Records.{arrive_by}
use Rattle.circuit.specs.Taking.{Sink, Took, measuring, answering, unless_refused, by_reading, taking}
use Rattle.listening.specs.Receiving.{or_else}

-- a frame that was taken is what is received
pub kept : (took lost : Took) (x : Option Told) → gives x ≡ took.answer → took ≡ or_else took.answer took lost
kept took lost x e = ap (λ (a : Answer (Option Told)). or_else a took lost) e

-- a loss is received for one that was refused
pub replaced : (took lost : Took) (n p : ℕ) (l : Layer) → refuses n p l ≡ took.answer → lost ≡ or_else took.answer took lost
replaced took lost n p l e = ap (λ (a : Answer (Option Told)). or_else a took lost) e

abbrev refusals : Answer (Option Told) → ℕ
refusals (gives x) = 0
refusals (refuses n p l) = 1

either : (b : Bool) (t u : Took) → refusals t.answer ≡ 0 → refusals u.answer ≡ 0 → refusals (cond b t u).answer ≡ 0
either true t u h k = h
either false t u h k = k

module _ (outlet : Meaning) (s : Sink) (words octets : List ℕ) where
  answered : (recent : List Recorded) → refusals (answering outlet s words recent).answer ≡ 0
  answered recent = either (eqb s.seen 3) _ _ refl refl

  abbrev Same : Took → Type 0
  Same took = (took.sink ≡ s) × (took.words ≡ words)

  by_octets : (a : Answer Listed) → 1 ≡ refusals (by_reading outlet s words octets a).answer → Same (by_reading outlet s words octets a)
  by_octets (gives content) e = absurd (let z : ◌≡◌ {A = ℕ} 1 0 = e ∙ answered (arrive_by (Some octets) s.recent) in omega arith)
  by_octets (refuses n p l) e = (refl, refl)

  by_room : (took : Took) → (1 ≡ refusals took.answer → Same took) → (a : Answer (Unit {0})) → 1 ≡ refusals (unless_refused outlet s words a took).answer → Same (unless_refused outlet s words a took)
  by_room took k (gives x) e = k e
  by_room took k (refuses n p l) e = (refl, refl)

  -- a take that was refused left all as it was
  pub untouched : (n p : ℕ) (l : Layer) → refuses n p l ≡ (taking outlet s words octets).answer → Same (taking outlet s words octets)
  untouched n p l e =
      by_room (by_reading outlet s words octets (reading octets)) (by_octets (reading octets)) (measuring (length words)) (ap refusals e)
