-- Whatever is put is a pair of samples, and no frame is sent but for a pair.
use Rattle.std.proofs.Common.{ℕ, zero, suc, ◌<◌, ◌≤◌, List, [], ◌∷◌, map, length, get_or, ℤ, Some, None, Option, sym, subst, arith}
use Rattle.words.specs.Meaning.{middle}
use Rattle.pairs.specs.Sending.{IsPair}
use Rattle.circuit.specs.Putting.{Source, Put, accepting, putting, putting_words}
use Rattle.circuit.specs.History.{Event, puts, puts_words, takes, loses, Outgoing, outgoing, sending, joined}
use Rattle.circuit.proofs.Moves.{Move, idle, accepted, put_moves, words_move}

pub record Proper (out : Outgoing) : Type 0 where
  pub pairs : (k : ℕ) → k < length out.pairs → IsPair (get_or out.pairs k [])
  pub frames : length out.frames ≤ length out.pairs

-- one pair more in front
more : (v : List ℤ) (rest : Outgoing) → IsPair v → Proper rest → (k : ℕ) → k < length (v ∷ rest.pairs) → IsPair (get_or (v ∷ rest.pairs) k [])
more v rest is p zero h = is
more v rest is p (suc k) h = p.pairs k (omega arith)

module _ (s : Source) (room : List ℕ) (v : List ℤ) (rest : Source → Outgoing) (on : (t : Source) → Proper (rest t)) where
  taken : (held : Option (List ℤ)) → IsPair v → Proper (joined (outgoing (accepting s room held v) v) (rest (accepting s room held v).source))
  taken None is =
      let p = on (accepting s room None v).source in
      record { pairs = more v _ is p; frames = omega (arith, p.frames) }
  taken (Some held) is =
      let p = on (accepting s room (Some held) v).source in
      record { pairs = more v _ is p; frames = omega (arith, p.frames) }

  moved : (put : Put) → Move s room v put → Proper (joined (outgoing put v) (rest put.source))
  moved put (idle n p l e) = subst (λ (q : Put). Proper (joined (outgoing q v) (rest q.source))) (sym e) (on s)
  moved put (accepted f is e) = subst (λ (q : Put). Proper (joined (outgoing q v) (rest q.source))) (sym e) (taken s.held is)

pub proper : (es : List Event) (s : Source) → Proper (sending s es)
proper [] s = record { pairs = λ k h. absurd (omega arith); frames = omega arith }
proper (puts samples room ∷ es) s = moved s room samples (λ t. sending t es) (proper es) (putting s room samples) (put_moves s room samples)
proper (puts_words law words room ∷ es) s =
    moved s room (map (middle law) words) (λ t. sending t es) (proper es) (putting_words s room law words) (words_move s room law words)
proper (takes octets words ∷ es) s = proper es s
proper (loses words ∷ es) s = proper es s
