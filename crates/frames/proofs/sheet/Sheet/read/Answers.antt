use Rattle.std.proofs.Common.{refl}
use Rattle.frames.proofs.Tables.{read_right}
use Rattle.frames.proofs.sheet.Sheet.read.Goals as goal

pub returns : goal.returns
returns c =
    let a = c.read_words.ensures in
    let b = c.read_words-4.ensures in
    let c' = c.read_words-2.ensures in
    let d = c.read_words-3.ensures in
    read_right c.args.self.now.cells _ _ _ _ c.read_words.result c.read_words-4.result c.read_words-2.result c.read_words-3.result
    c.read_word.result c.read_word-2.result c.read_word-3.result refl refl refl refl
    (a.all, a.value) (b.all, b.value) (c'.all, c'.value) (d.all, d.value)
    c.read_word.ensures.value c.read_word-2.ensures.value c.read_word-3.ensures.value
