-- Lists of values or words under a law: the room for the output, the first refusal, and what is written.
use Rattle.std.specs.Prelude.{◌≡◌, ℕ, Result, ◌+◌, cond, List, [], ◌∷◌, length, ℤ, ◌==◌}
use Rattle.words.specs.declared.faults.WordFault.{WordFault}
use Rattle.words.specs.declared.faults.Layer.TheVariants.{Word, Pair}
use Rattle.words.specs.Meaning.{Meaning, inside}
use Rattle.words.specs.Answers.{Answer, gives, refuses, answer}

-- 0 for a value that has a word, else the number by which making one is refused.
abbrev pub unmade : Meaning → ℤ → ℕ
unmade m v = cond (inside m v) 0 2

-- The first element that is refused, by its number and its index, counted from i.
abbrev pub first_refused : {X : Type 0} → (X → ℕ) → ℕ → List X → Answer (Unit {0})
first_refused f i [] = gives tt
first_refused f i (x ∷ xs) = cond (f x == 0) (first_refused f (i + 1) xs) (refuses (f x) i Word)

-- What converting x answers: f has the number by which it is refused, or 0, and g what it becomes.
abbrev pub said : {A B : Type 0} → (A → ℕ) → (A → B) → A → Answer B
said f g x = cond (f x == 0) (gives (g x)) (refuses (f x) 0 Word)

-- Each call answers what f and g say.
abbrev pub Converts : {A B : Type 0} → (A → Result B WordFault → Type 0) → (A → ℕ) → (A → B) → Type 0
Converts {A} {B} post f g = (x : A) (r : Result B WordFault) → post x r → answer r ≡ said f g x

-- Making words of all values, into room for n words.
abbrev pub making_all : Meaning → List ℤ → ℕ → Answer (Unit {0})
making_all m values n = cond (n == length values) (first_refused (unmade m) 0 values) (refuses 6 n Word)

-- Reading all words, into room for n values.
abbrev pub reading_all : Meaning → List ℕ → ℕ → Answer (Unit {0})
reading_all m words n = cond (n == length words) (first_refused m.refusal 0 words) (refuses 6 n Pair)
