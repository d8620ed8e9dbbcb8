-- A frame fault by its number, its place and its layer.
use Rattle.std.specs.Prelude.{ℕ}
use Rattle.words.specs.declared.faults.Layer.{Layer}
use Rattle.words.specs.declared.faults.Refusal.{Refusal}
use Rattle.words.specs.declared.faults.Layer.TheVariants.{Frame}
use Rattle.frames.specs.declared.faults.FrameFault.{FrameFault}
use Rattle.frames.specs.declared.faults.FrameFault.TheVariants.{Length, AllOnes, Room}

abbrev pub number_of : FrameFault → ℕ
number_of (Length n) = 3
number_of AllOnes = 4
number_of (Room n) = 5

abbrev pub place_of : FrameFault → ℕ
place_of (Length n) = n
place_of AllOnes = 0
place_of (Room n) = n

abbrev pub layer_of : FrameFault → Layer
layer_of _ = Frame

-- What the user is told of it.
abbrev pub refusal_of : FrameFault → Refusal
refusal_of e = record { number = number_of e; place = place_of e; layer = layer_of e }
