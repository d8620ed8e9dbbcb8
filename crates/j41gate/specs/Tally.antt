-- The counts of a trial over many pairs, and the report of them.
use Rattle.std.specs.Prelude.{ℕ, ◌+◌, max, List, ◌++◌, Ok, Err, codes, decimal, Result}
use Rattle.words.specs.declared.faults.WordFault.{WordFault}
use Rattle.j41gate.specs.declared.tally.Tally.{Tally}

abbrev pub fresh : ℕ → Tally
fresh bits = record { bits = bits; pairs = 0; words = 0; refused = 0; distance = 0 }

-- One pair more, whose trial answered a distance or was refused.
abbrev pub noted : Tally → Result ℕ WordFault → Tally
noted t (Ok d) = record { bits = t.bits; pairs = t.pairs + 1; words = t.words + 64; refused = t.refused; distance = max t.distance d }
noted t (Err e) = record { bits = t.bits; pairs = t.pairs + 1; words = t.words; refused = t.refused + 1; distance = t.distance }

-- The lines of the report.
abbrev pub report : Tally → List ℕ
report t =
    codes "pairs " ++ (decimal t.pairs ++ (codes "\nwords " ++ (decimal t.words ++ (codes "\nbits " ++ (decimal t.bits
    ++ (codes "\nrefused " ++ (decimal t.refused ++ (codes "\ndistance " ++ decimal t.distance))))))))
