-- Layers by their names, and a word fault by its number, its place and its layer.
use Rattle.std.specs.Prelude.{ℕ, List, codes}
use Rattle.words.specs.declared.faults.WordFault.{WordFault}
use Rattle.words.specs.declared.faults.WordFault.TheVariants.{Outside, WordRoom, ValueRoom, TooLong, Parity, NoValue}
use Rattle.words.specs.declared.faults.Layer.{Layer}
use Rattle.words.specs.declared.faults.Refusal.{Refusal}
use Rattle.words.specs.declared.faults.Layer.TheVariants.{Word, Frame, Pair, Log}

abbrev pub layer_name : Layer → List ℕ
layer_name Word = codes "word"
layer_name Frame = codes "frame"
layer_name Pair = codes "pair"
layer_name Log = codes "log"

abbrev pub number_of : WordFault → ℕ
number_of (Outside p) = 2
number_of (WordRoom p) = 6
number_of (ValueRoom p) = 6
number_of (TooLong p) = 7
number_of (Parity p) = 8
number_of (NoValue p) = 9

abbrev pub place_of : WordFault → ℕ
place_of (Outside p) = p
place_of (WordRoom p) = p
place_of (ValueRoom p) = p
place_of (TooLong p) = p
place_of (Parity p) = p
place_of (NoValue p) = p

-- Room for values is lent by whoever handles pairs; all else concerns words.
abbrev pub layer_of : WordFault → Layer
layer_of (Outside p) = Word
layer_of (WordRoom p) = Word
layer_of (ValueRoom p) = Pair
layer_of (TooLong p) = Word
layer_of (Parity p) = Word
layer_of (NoValue p) = Word

-- What the user is told of it.
abbrev pub refusal_of : WordFault → Refusal
refusal_of e = record { number = number_of e; place = place_of e; layer = layer_of e }
