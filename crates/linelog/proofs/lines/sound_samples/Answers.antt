use Rattle.std.proofs.Common.{◌+◌, sym, ap, ◌∙◌, arith}
use Rattle.std.proofs.lemmas.List.{take_all}
use Rattle.linelog.specs.Lines.{sound_samples}
use Rattle.linelog.proofs.Marks.{one_more, no_more}
use Rattle.linelog.proofs.lines.sound_samples.Goals as goal
use Rattle.linelog.proofs.lines.sound_samples.Goals.{then-mark, else-mark}

pub loop-mark-preserved : goal.loop-mark-preserved
loop-mark-preserved c =
    let marks = c.args.block.now.marks in
    let i = c.loop-mark.mark-index in
    elim c.if-mark.branch [
      | then-mark w ↦ (w.sound-is ∙ ap (λ n. n + 1) c.loop-mark.invariant.0 ∙ sym (one_more marks i (omega arith) w.if-mark.true), omega (arith, w.sound-is))
      | else-mark w ↦ (w.sound-is ∙ c.loop-mark.invariant.0 ∙ sym (no_more marks i (omega arith) w.if-mark.false), omega (arith, w.sound-is))
    ]

pub returns : goal.returns
returns c =
    c.loop-mark.invariant.0 ∙ ap sound_samples (take_all c.loop-mark.mark-index c.args.block.now.marks (omega arith))
