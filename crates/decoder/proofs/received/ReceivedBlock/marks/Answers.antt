use Rattle.std.proofs.Common.{false, set, sym, ap, ◌∙◌}
use Rattle.decoder.specs.Findings.{finding}
use Rattle.decoder.specs.Marks.{marks_of}
use Rattle.decoder.proofs.Clearing.{last_cleared}
use Rattle.decoder.proofs.received.ReceivedBlock.marks.Goals as goal

pub returns-then-not-is_sound : goal.returns-then-not-is_sound
returns-then-not-is_sound c =
    let found = finding c.args.self.now.judged.verdict in
    ap (λ ms. set ms 31 false) c.own_marks-marks.ensures
    ∙ last_cleared found
    ∙ ap (marks_of found) (sym c.if-not-is_sound.true ∙ c.is_sound.ensures)
