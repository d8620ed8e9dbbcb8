use Rattle.std.proofs.Common.{◌≡◌, ℕ, length, ap, ◌∙◌, arith}
use Rattle.words.specs.Lists.{reading_all}
use Rattle.j41gate.proofs.Passing.{all_read, passed}
use Rattle.j41gate.proofs.trial.pass.Goals as goal

pub returns : goal.returns
returns g c =
    let made = c.in_ok-compand.ensures in
    passed (g.L.WordLaw.meaning c.args.law.now) c.args.samples.now c.widen-values.result c.expand.new.values c.compand.new.words c.farthest.result
    c.widen-values.ensures made.answer made.buffer c.in_ok-expand.ensures.buffer c.farthest.ensures

-- what was made is read, so there is no such exit
pub returns-in_err-expand : goal.returns-in_err-expand
returns-in_err-expand g c =
    let m = g.L.WordLaw.meaning c.args.law.now in
    let values = c.widen-values.result in
    let made = c.in_ok-compand.ensures in
    let read = c.in_err-expand.ensures in
    let full : length values ≡ 64 = ap length c.widen-values.ensures ∙ c.told-samples in
    let same = ap (λ l. reading_all m l 64) made.buffer in
    let all = all_read m (g.met.L.WordLaw.cells c.args.law.now) values made.answer full in
    let wrong : ◌≡◌ {A = ℕ} 0 1 = cc (read.answer, same, all) in
    absurd (omega arith)
