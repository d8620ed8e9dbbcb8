use Rattle.std.proofs.Common.{eqb, length, sym, ◌∙◌, arith}
use Rattle.std.proofs.lemmas.Bool.{cond-true, eq-eqb}
use Rattle.frames.specs.Places.{lies_at}
use Rattle.frames.specs.Frame.{carried, octets_of}
use Rattle.frames.specs.Content.{pair_in}
use Rattle.frames.specs.Sheet.{bit_of}
use Rattle.frames.proofs.Rows.{packed_same}
use Rattle.frames.proofs.content.Frame.write.Goals as goal

pub returns-clause-buffer : goal.returns-clause-buffer
unfolding octets_of
returns-clause-buffer c =
    c.pack.ensures ∙ packed_same (bit_of c.of_frame.result.cells) (λ i. carried (pair_in c.args.self.now) (lies_at i)) c.of_frame.ensures
    ∙ sym (cond-true (eqb (length c.args.octets.now) 80) _ _ (eq-eqb _ _ (omega arith)))
