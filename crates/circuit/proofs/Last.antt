-- One more call at the end of a history: the frame that it writes is the history's next one, and so is the pair that it gives.
use Rattle.std.proofs.Common.{◌≡◌, ℕ, zero, suc, ◌+◌, List, [], ◌∷◌, ◌++◌, length, get_or, ℤ, Some, None, Option, sym, refl, ap, ◌∙◌, append_assoc, append-nil, arith}
use Rattle.words.specs.Answers.{Answer}
use Rattle.words.specs.Meaning.{Meaning}
use Rattle.reception.specs.Arrivals.{Arrival}
use Rattle.reception.specs.Given.{Told, PairGiven}
use Rattle.circuit.specs.declared.sender.Sent.{Sent}
use Rattle.circuit.specs.Putting.{Source, fresh_source}
use Rattle.circuit.specs.Taking.{Sink, fresh_sink}
use Rattle.circuit.specs.History.{Event, Outgoing, Incoming, put_seen, take_seen, source_after, sent_by, sending, source_at, sink_after, received_by, receiving, sink_at}
use Rattle.circuit.specs.Promise.{sent, heard, WritesTheNextFrame, GivesTheNextPair}
use Rattle.circuit.proofs.Receptions.{whole, as_many}

end : {X : Type 0} (xs : List X) (y d : X) (k : ℕ) → k ≡ length xs → get_or (xs ++ (y ∷ [])) k d ≡ y
end [] y d zero e = refl
end [] y d (suc k) e = absurd (omega arith)
end (x ∷ xs) y d zero e = absurd (omega arith)
end (x ∷ xs) y d (suc k) e = end xs y d k (omega arith)

frames_last : (h : List Event) (s : Source) (e : Event) → (sending s (h ++ (e ∷ []))).frames ≡ (sending s h).frames ++ (sent_by (source_at s h) e).frames
frames_last [] s e = append-nil (sent_by s e).frames
frames_last (x ∷ h) s e =
    ap (λ (fs : List (List ℕ)). (sent_by s x).frames ++ fs) (frames_last h (source_after s x) e)
    ∙ sym (append_assoc (sent_by s x).frames (sending (source_after s x) h).frames (sent_by (source_at (source_after s x) h) e).frames)

-- a put that writes: what the event sends is the put as it went
pub writes_next : (s : Source) (e : Event) (pair : List ℤ) (answer : Answer Sent) (octets : List ℕ)
    → put_seen answer pair octets ≡ sent_by s e → WritesTheNextFrame s e answer octets
writes_next s e pair answer octets is h at was =
    ap (λ (fs : List (List ℕ)). get_or fs (length (sent h).frames) [])
    (frames_last h fresh_source e
    ∙ ap (λ (t : Source). (sent h).frames ++ (sent_by t e).frames) at
    ∙ ap (λ (o : Outgoing). (sent h).frames ++ o.frames) (sym is)
    ∙ ap (λ (a : Answer Sent). (sent h).frames ++ (put_seen a pair octets).frames) was)
    ∙ end (sent h).frames octets [] (length (sent h).frames) refl

module _ (outlet : Meaning) where
  givens_last : (h : List Event) (s : Sink) (e : Event)
      → (receiving outlet s (h ++ (e ∷ []))).givens ≡ (receiving outlet s h).givens ++ (received_by outlet (sink_at outlet s h) e).givens
  givens_last [] s e = append-nil (received_by outlet s e).givens
  givens_last (x ∷ h) s e =
      ap (λ (gs : List (Option PairGiven)). (received_by outlet s x).givens ++ gs) (givens_last h (sink_after outlet s x) e)
      ∙ sym (append_assoc (received_by outlet s x).givens (receiving outlet (sink_after outlet s x) h).givens (received_by outlet (sink_at outlet (sink_after outlet s x) h) e).givens)

  pub gives_next : (s : Sink) (e : Event) (a : Arrival) (answer : Answer (Option Told)) (words : List ℕ)
      → take_seen answer a words ≡ received_by outlet s e → GivesTheNextPair outlet s e answer words
  gives_next s e a answer words is h at report was N many =
      let before = (heard outlet h).givens in
      ap (λ (gs : List (Option PairGiven)). get_or gs (N + 3) None)
      (givens_last h fresh_sink e
      ∙ ap (λ (t : Sink). (heard outlet h).givens ++ (received_by outlet t e).givens) at
      ∙ ap (λ (i : Incoming). (heard outlet h).givens ++ i.givens) (sym is)
      ∙ ap (λ (x : Answer (Option Told)). (heard outlet h).givens ++ (take_seen x a words).givens) was)
      ∙ end (heard outlet h).givens (Some (record { words = words; report = report })) None (N + 3)
      (many ∙ sym (ap length (whole outlet h fresh_sink) ∙ as_many outlet (heard outlet h).arrivals fresh_sink))
