-- The refusal of a fault that an answer brings is the one that the answer brings.
use Rattle.std.proofs.Common.{◌≡◌, Some, ap, ◌∙◌}
use Rattle.words.specs.declared.faults.Refusal.{Refusal}
use Rattle.words.specs.Answers.{Answer, refuses}
use Rattle.telling.specs.Told.{refused_by}

pub brought : {X : Type 0} (r s : Refusal) (a : Answer X) → r ≡ s → refuses s.number s.place s.layer ≡ a → Some r ≡ refused_by a
brought r s a same e = ap Some same ∙ ap refused_by e
