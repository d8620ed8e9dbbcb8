-- What a call answers: a value, or a refusal by its number, place and layer; and the answers of making and reading one word.
use Rattle.std.specs.Prelude.{ℕ, cond, ℤ, Ok, Err, Result, ◌==◌}
use Rattle.words.specs.declared.faults.WordFault.{WordFault}
use Rattle.words.specs.declared.faults.Layer.{Layer}
use Rattle.words.specs.declared.faults.Refusal.{Refusal}
use Rattle.words.specs.declared.faults.Layer.TheVariants.{Word}
use Rattle.words.specs.Faults.{refusal_of}
use Rattle.words.specs.Meaning.{Meaning, inside, middle}

pub data Answer (X : Type 0) : Type 0 where
  gives : X → Answer X
  refuses : (number place : ℕ) → Layer → Answer X

-- A result by what it says to its user: the value by what is shown of it, the fault by the refusal that it brings.
abbrev pub answered : {X Y E : Type 0} → (E → Refusal) → (X → Y) → Result X E → Answer Y
answered refusal shown (Ok x) = gives (shown x)
answered refusal shown (Err e) = refuses (refusal e).number (refusal e).place (refusal e).layer

abbrev pub answer : {X : Type 0} → Result X WordFault → Answer X
answer r = answered refusal_of (λ x. x) r

-- Making the word of v: refused by 2 exactly where v is none of the law's values.
abbrev pub making : Meaning → ℤ → Answer ℕ
making m v = cond (inside m v) (gives (m.word v)) (refuses 2 0 Word)

-- Reading w: refused exactly where it belongs to no value, by the number that the law names.
abbrev pub reading : Meaning → ℕ → Answer ℤ
reading m w = cond (m.refusal w == 0) (gives (middle m w)) (refuses (m.refusal w) 0 Word)
