use Rattle.std.proofs.Common.{◌≡◌, max, fold}
use Rattle.std.specs.Slice.Iter.{iter_rest}
use Rattle.std.specs.Iterator.Adapters.{zip_first, zip_second}
use Rattle.j41gate.specs.Trial.{distances, largest}
use Rattle.j41gate.proofs.trial.farthest.Given as goal

abbrev pub invariant-loop-value : goal.invariant-loop-value
invariant-loop-value l =
    fold max l.most (distances (iter_rest (zip_first l.value-iterator)) (iter_rest (zip_second l.value-iterator)))
    ≡ largest (distances l.values l.back)
