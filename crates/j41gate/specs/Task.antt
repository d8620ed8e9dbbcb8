-- The task that the arguments name: none at all is the report.
use Rattle.std.specs.Prelude.{ℕ, cond, List, [], ◌∷◌, Some, None, codes, Option}
use Rattle.std.specs.Str.{bytes_eq}
use Rattle.j41gate.specs.declared.crossing.Direction.TheVariants.{Encode, Decode}
use Rattle.j41gate.specs.declared.task.Task.{Task}
use Rattle.j41gate.specs.declared.task.Task.TheVariants.{Report, Cross}

abbrev pub by_name : List ℕ → Option Task
by_name name =
    cond (bytes_eq name (codes "encode")) (Some (Cross Encode)) (cond (bytes_eq name (codes "decode")) (Some (Cross Decode)) None)

abbrev pub by_arguments : List (List ℕ) → Option Task
by_arguments [] = Some Report
by_arguments (name ∷ []) = by_name name
by_arguments (name ∷ another ∷ more) = None
