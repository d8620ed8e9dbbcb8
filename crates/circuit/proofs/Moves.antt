-- Each put is one of two: it changes nothing, or it puts a pair of samples.
use Rattle.std.proofs.Common.{◌≡◌, ℕ, List, map, length, ℤ, Some, None, Option, refl, ◌∙◌}
use Rattle.std.proofs.lemmas.List.{length-map}
use Rattle.words.specs.declared.faults.Layer.{Layer}
use Rattle.words.specs.Answers.{Answer, gives, refuses}
use Rattle.words.specs.Meaning.{Meaning, middle}
use Rattle.words.specs.Lists.{first_refused}
use Rattle.pairs.specs.Sending.{IsPair}
use Rattle.circuit.specs.Putting.{Source, Put, first_outside, measuring, refusing, accepting, by_values, valued, unless_refused, putting, putting_words}
use Rattle.circuit.proofs.Measured.{measured}
use Rattle.circuit.proofs.Outside.{none_outside}

pub data Move (s : Source) (frame : List ℕ) (values : List ℤ) (put : Put) : Type 0 where
  idle : (n p : ℕ) (l : Layer) → put ≡ refusing s frame (refuses n p l) → Move s frame values put
  accepted : length frame ≡ 80 → IsPair values → put ≡ accepting s frame s.held values → Move s frame values put

module _ (s : Source) (frame : List ℕ) where
  by_found : (values : List ℤ) → length frame ≡ 80 → length values ≡ 64 → (o : Option ℕ) → first_outside 0 values ≡ o → Move s frame values (by_values s frame o values)
  by_found values f n None e = accepted f (record { all = n; bounded = λ k l. none_outside values 0 e k }) refl
  by_found values f n (Some i) e = idle 2 i _ refl

  by_value : (values : List ℤ) → length frame ≡ 80 → length values ≡ 64 → Move s frame values (valued s frame values)
  by_value values f n = by_found values f n (first_outside 0 values) refl

  -- a refusal beforehand, or none
  by_answer : (values : List ℤ) (put : Put) (a b : Answer (Unit {0})) → a ≡ b → ((x : Unit {0}) → gives x ≡ b → Move s frame values put) → Move s frame values (unless_refused s frame a put)
  by_answer values put (gives x) b e k = k x e
  by_answer values put (refuses n p l) b e k = idle n p l refl

  pub put_moves : (samples : List ℤ) → Move s frame samples (putting s frame samples)
  put_moves samples =
      by_answer samples (valued s frame samples) _ (measuring (length samples) (length frame)) refl
      (λ x e. let m = measured (length samples) (length frame) x e in by_value samples m.0 m.1)

  pub words_move : (law : Meaning) (words : List ℕ) → Move s frame (map (middle law) words) (putting_words s frame law words)
  words_move law words =
      let values = map (middle law) words in
      by_answer values (unless_refused s frame (first_refused law.refusal 0 words) (valued s frame values)) _ (measuring (length words) (length frame)) refl
      (λ x e. let m = measured (length words) (length frame) x e in
      by_answer values (valued s frame values) _ (first_refused law.refusal 0 words) refl
      (λ y d. by_value values m.0 (length-map words (middle law) ∙ m.1)))
