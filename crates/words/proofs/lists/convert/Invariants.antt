use Rattle.std.proofs.Common.{◌≡◌, ◌++◌, map, take, drop}
use Rattle.words.specs.Lists.{Converts, first_refused}
use Rattle.words.proofs.lists.convert.Given as goal

abbrev pub invariant-loop-i : goal.invariant-loop-i
invariant-loop-i g l =
    (f : _) (h : _) → Converts (goal.F-post g l.one) f h → first_refused f 0 l.items ≡ first_refused f l.i (drop l.i l.items)

abbrev pub invariant-loop-i-2 : goal.invariant-loop-i-2
invariant-loop-i-2 g l =
    (f : _) (h : _) → Converts (goal.F-post g l.one) f h → l.out ≡ map h (take l.i l.items) ++ drop l.i l.initial.out
