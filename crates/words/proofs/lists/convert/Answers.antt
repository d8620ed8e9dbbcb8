use Rattle.std.proofs.Common.{set, sym, ap, ◌∙◌, arith}
use Rattle.words.specs.Faults.{number_of}
use Rattle.words.proofs.Refusing.{refusal_more, refusal_stop, refusal_end, none_left, said_no, said_yes, wrote_more, wrote_all}
use Rattle.words.proofs.lists.convert.Goals as goal

pub returns-in-Err-clause-answer : goal.returns-in-Err-clause-answer
returns-in-Err-clause-answer g c f h k =
    let x = c.index-items-i in
    let n = said_no f h x.result _ _ _ (k x.result _ c.in-Err.ensures) in
    let s = refusal_stop f c.args.items.now c.loop-i.i x.result (number_of c.in-Err.fault) c.loop-i-test.true (ap f (sym x.is) ∙ n.0) n.1 in
    let l = n.2 in
    let i = c.loop-i.invariant f h k in
    let at = c.at.ensures in
    cc

pub loop-i-preserved : goal.loop-i-preserved
loop-i-preserved g c f h k =
    let x = c.index-items-i in
    let y = said_yes f h x.result _ (k x.result _ c.in_default.ensures) in
    c.loop-i.invariant f h k ∙ refusal_more f c.args.items.now c.loop-i.i x.result c.loop-i-test.true (ap f (sym x.is) ∙ y.0)

pub returns-in_err-out-clause-answer : goal.returns-in_err-out-clause-answer
returns-in_err-out-clause-answer g c f h k =
    let x = c.index-items-i-in-loop-i-2 in
    let all = c.loop-i.invariant f h k ∙ refusal_end f c.args.items.now c.loop-i.i c.loop-i-test.false in
    absurd (none_left f h c.args.items.now c.loop-i-2.i x.result _ _ _ all c.loop-i-2-test.true x.is (k x.result _ c.in_err-out.ensures))

pub returns-in_err-out-clause-buffer : goal.returns-in_err-out-clause-buffer
returns-in_err-out-clause-buffer g c f h k =
    let x = c.index-items-i-in-loop-i-2 in
    let all = c.loop-i.invariant f h k ∙ refusal_end f c.args.items.now c.loop-i.i c.loop-i-test.false in
    absurd (none_left f h c.args.items.now c.loop-i-2.i x.result _ _ _ all c.loop-i-2-test.true x.is (k x.result _ c.in_err-out.ensures))

pub loop-i-2-preserved : goal.loop-i-2-preserved
loop-i-2-preserved g c f h k =
    let x = c.index-items-i-in-loop-i-2 in
    let y = said_yes f h x.result _ (k x.result _ c.in_ok-out.ensures) in
    ap (set c.loop-i-2.out c.loop-i-2.i) (y.1 ∙ ap h x.is)
    ∙ wrote_more h c.args.items.now c.loop-i-2.out c.args.out.now c.loop-i-2.i x.result c.loop-i-2-test.true (omega arith) (c.loop-i-2.invariant f h k)

pub returns-clause-answer : goal.returns-clause-answer
returns-clause-answer g c f h k = sym (c.loop-i.invariant f h k ∙ refusal_end f c.args.items.now c.loop-i.i c.loop-i-test.false)

pub returns-clause-buffer : goal.returns-clause-buffer
returns-clause-buffer g c f h k = wrote_all h c.args.items.now c.loop-i-2.out c.args.out.now c.loop-i-2.i c.loop-i-2-test.false (omega arith) (c.loop-i-2.invariant f h k)
