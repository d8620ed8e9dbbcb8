-- A trial of a word law: how far a value's word is read from the value.
use Rattle.std.specs.Prelude.{ℕ, max, List, [], ◌∷◌, map, ℤ, ◌-ℤ◌, fold, unsigned_abs}
use Rattle.words.specs.Meaning.{Meaning, middle}
use Rattle.words.specs.Answers.{Answer, gives, refuses}
use Rattle.words.specs.Lists.{making_all}

abbrev pub distance : ℤ → ℤ → ℕ
distance v w = unsigned_abs (v -ℤ w)

-- What a value's word is read as, and how far that is from the value.
abbrev pub again : Meaning → ℤ → ℤ
again m v = middle m (m.word v)

abbrev pub moved : Meaning → ℤ → ℕ
moved m v = distance v (again m v)

-- The distances between two lists, place by place, and the largest of them.
abbrev pub distances : List ℤ → List ℤ → List ℕ
distances [] ws = []
distances (v ∷ vs) [] = []
distances (v ∷ vs) (w ∷ ws) = distance v w ∷ distances vs ws

abbrev pub largest : List ℕ → ℕ
largest xs = fold max 0 xs

-- The trial of a pair of samples: refused as the making of its words is, else the largest distance.
abbrev pub after : Answer (Unit {0}) → ℕ → Answer ℕ
after (gives t) n = gives n
after (refuses number place layer) n = refuses number place layer

abbrev pub passing : Meaning → List ℤ → Answer ℕ
passing m samples = after (making_all m samples 64) (largest (map (moved m) samples))
