use Rattle.std.proofs.Common.{◌%◌, refl, sym, ◌∙◌, ⊎_elim}
use Rattle.std.proofs.lemmas.Bool.{cases_lt}
use Rattle.frames.specs.Places.{lies_at}
use Rattle.frames.specs.Frame.{carried}
use Rattle.frames.specs.Content.{pair_in}
use Rattle.frames.proofs.Reading.{spare_carried}
use Rattle.frames.proofs.Cells.{zeros_small, row_of_cells, spare_cell}
use Rattle.frames.proofs.Tables.{seven_writes}
use Rattle.frames.proofs.sheet.Sheet.of_frame.Goals as goal

pub invariant_of-sheet : goal.invariant_of-sheet
invariant_of-sheet c = record { all = refl; bits = zeros_small 632 }

pub returns : goal.returns
returns c =
    let p = pair_in c.args.frame.now in
    let cells = c.write_word-3.new.self.cells in
    let value = seven_writes c.args.frame.now _ _ _ _
    c.write_words.new.self.cells c.write_words-2.new.self.cells c.write_words-3.new.self.cells c.write_words-4.new.self.cells
    c.write_word.new.self.cells c.write_word-2.new.self.cells cells _ _
    refl refl refl refl c.from.ensures c.from-2.ensures
    c.write_words.ensures c.write_words-2.ensures c.write_words-3.ensures c.write_words-4.ensures
    c.write_word.ensures c.write_word-2.ensures c.write_word-3.ensures in
    λ i h. ⊎_elim (λ s. row_of_cells (λ i. carried p (lies_at i)) cells value i h s) (λ s. spare_cell cells i s ∙ sym (spare_carried p i s)) (cases_lt (i % 80) 79)
