-- What `send` leaves, by what the put of its pair answered.
use Rattle.std.proofs.Common.{◌≡◌, ℕ, List, ℤ, Some, None, Option, refl, ap, ◌∙◌, arith}
use Rattle.words.specs.declared.faults.Layer.{Layer}
use Rattle.words.specs.Answers.{Answer, gives, refuses}
use Rattle.circuit.specs.declared.sender.Sent.{Sent}
use Rattle.circuit.specs.Putting.{Source, Put, accepting, putting}
use Rattle.circuit.proofs.Moves.{Move, idle, accepted, put_moves}
use Rattle.j43send.specs.Sending.{or_else}

-- a pair that was put is what is sent
pub kept : (put silence : Put) (x : Sent) → gives x ≡ put.answer → put ≡ or_else put.answer put silence
kept put silence x e = ap (λ (a : Answer Sent). or_else a put silence) e

-- silence is sent for one that was refused
pub replaced : (put silence : Put) (n p : ℕ) (l : Layer) → refuses n p l ≡ put.answer → silence ≡ or_else put.answer put silence
replaced put silence n p l e = ap (λ (a : Answer Sent). or_else a put silence) e

abbrev refusals : Answer Sent → ℕ
refusals (gives x) = 0
refusals (refuses n p l) = 1

module _ (s : Source) (frame : List ℕ) (samples : List ℤ) where
  answered : (held : Option (List ℤ)) → refusals (accepting s frame held samples).answer ≡ 0
  answered None = refl
  answered (Some pair) = refl

  by_move : (put : Put) → 1 ≡ refusals put.answer → Move s frame samples put → (put.source ≡ s) × (put.frame ≡ frame)
  by_move put e (idle n p l is) = (ap (λ (q : Put). q.source) is, ap (λ (q : Put). q.frame) is)
  by_move put e (accepted f pair is) = absurd (let z : ◌≡◌ {A = ℕ} 1 0 = e ∙ ap (λ (q : Put). refusals q.answer) is ∙ answered s.held in omega arith)

  -- a put that was refused left all as it was
  pub untouched : (n p : ℕ) (l : Layer) → refuses n p l ≡ (putting s frame samples).answer
      → ((putting s frame samples).source ≡ s) × ((putting s frame samples).frame ≡ frame)
  untouched n p l e = by_move (putting s frame samples) (ap refusals e) (put_moves s frame samples)
