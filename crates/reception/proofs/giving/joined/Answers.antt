use Rattle.std.proofs.Common.{ap, refl, ◌∙◌, ◌++◌}
use Rattle.reception.proofs.Joining.{half_written}
use Rattle.reception.proofs.giving.joined.Goals as goal

pub returns : goal.returns
returns c =
    half_written c.copy_from_slice.new.self c.copy_from_slice-2.new.self _ c.copy_from_slice.ensures.len refl
    ∙ ap (λ xs. xs ++ c.copy_from_slice-2.new.self) c.copy_from_slice.ensures.after
    ∙ ap (λ xs. c.args.first.now ++ xs) c.copy_from_slice-2.ensures.after
