use Rattle.std.proofs.Common.{◌≡◌, ◌-◌, true, false, cond, ltb, set, sym, ap, ◌∙◌, subst, ⊎_elim}
use Rattle.std.proofs.lemmas.Bool.{cond-true, cond-false, lt-ltb, le-ltb}
use Rattle.decoder.specs.Findings.{odd, pair, finding}
use Rattle.decoder.specs.Marks.{marks_of}
use Rattle.decoder.proofs.Concealing.{OddNumber, odd_number, PairNumber, pair_number}
use Rattle.decoder.proofs.Clearing.{all, odd_marks, pair_marks}
use Rattle.decoder.proofs.judged.Judged.own_marks.Goals as goal
use Rattle.decoder.proofs.judged.Judged.own_marks.Goals.{then-n-gt1, else-n-gt1}

pub returns-in-Mute : goal.returns-in-Mute
unfolding marks_of
returns-in-Mute c = simp c.in-Mute.is

pub returns-after-n-gt1 : goal.returns-after-n-gt1
returns-after-n-gt1 c =
    let n = c.from-n.result in
    let v = c.args.self.now.verdict in
    let h : OddNumber n = subst OddNumber (sym c.from-n.ensures) (odd_number v c.in-Odd.n c.in-Odd.is c.args.self.now.numbered) in
    let e : c.if-n-gt1.marks ≡ cond (ltb 1 n) (set all (n - 2) false) all =
    elim c.if-n-gt1.branch [
      | then-n-gt1 w ↦ w.marks-is ∙ sym (cond-true _ _ _ (lt-ltb 1 n w.if-n-gt1.true))
      | else-n-gt1 w ↦ w.marks-is ∙ sym (cond-false _ _ _ (le-ltb 1 n w.if-n-gt1.false))
    ] in
    ap (λ ms. set (set ms (n - 1) false) n false) e ∙ odd_marks n h ∙ ap (λ f. marks_of f true) (sym (ap finding c.in-Odd.is ∙ ap odd (sym c.from-n.ensures)))

pub returns-in-Pair : goal.returns-in-Pair
returns-in-Pair c =
    let j = c.from-j.result in
    let v = c.args.self.now.verdict in
    let h : PairNumber j = subst PairNumber (sym c.from-j.ensures) (pair_number v c.in-Pair.j c.in-Pair.is c.args.self.now.numbered) in
    pair_marks j h ∙ ap (λ f. marks_of f true) (sym (ap finding c.in-Pair.is ∙ ap pair (sym c.from-j.ensures)))

pub returns-in-Clean : goal.returns-in-Clean
unfolding marks_of
returns-in-Clean c =
    ⊎_elim (λ e. sym (ap (λ v. marks_of (finding v) true) e)) (λ e. sym (ap (λ v. marks_of (finding v) true) e.1)) c.in-Clean.is
