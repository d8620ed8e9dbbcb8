-- The refusal that an answer brings, and the line that tells of a refused unit.
use Rattle.std.specs.Prelude.{ℕ, List, ◌++◌, Some, None, codes, decimal, Option}
use Rattle.words.specs.declared.faults.Refusal.{Refusal}
use Rattle.words.specs.Faults.{layer_name}
use Rattle.words.specs.Answers.{Answer, gives, refuses}
use Rattle.telling.specs.declared.refused.Unit.{Unit}
use Rattle.telling.specs.declared.refused.Unit.TheVariants.{Pair, Frame}
use Rattle.telling.specs.declared.refused.RefusedUnit.{RefusedUnit}

abbrev pub refused_by : {X : Type 0} → Answer X → Option Refusal
refused_by (gives x) = None
refused_by (refuses n p l) = Some (record { number = n; place = p; layer = l })

abbrev pub unit_name : Unit → List ℕ
unit_name Pair = codes "pair"
unit_name Frame = codes "frame"

abbrev pub refused : Unit → ℕ → Refusal → RefusedUnit
refused unit number refusal = record { unit = unit; number = number; refusal = refusal }

abbrev pub told : RefusedUnit → List ℕ
told u =
    codes "refusal " ++ (unit_name u.unit ++ (codes " " ++ (decimal u.number ++ (codes " number " ++ (decimal u.refusal.number
    ++ (codes " place " ++ (decimal u.refusal.place ++ (codes " layer " ++ layer_name u.refusal.layer))))))))
