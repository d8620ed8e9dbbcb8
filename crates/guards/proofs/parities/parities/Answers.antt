use Rattle.std.proofs.Common.{◌≡◌, ◌+◌, sym, ap, ◌∙◌, arith}
use Rattle.guards.proofs.Groups.{so_far, none_yet, all_24, odd_more, even_more, so_far_small}
use Rattle.guards.proofs.parities.parities.Goals as goal

pub loop-sample-init : goal.loop-sample-init
loop-sample-init c = sym (none_yet c.args.odd.now c.args.even.now)

pub append_parity-parities-requires : goal.append_parity-parities-requires
append_parity-parities-requires c = omega (arith, so_far_small c.args.odd.now c.args.even.now c.loop-sample.sample-index c.loop-sample.parities (omega arith) c.loop-sample.invariant)

pub loop-sample-preserved : goal.loop-sample-preserved
loop-sample-preserved c = c.append_parity-parities.ensures ∙ odd_more c.args.odd.now c.args.even.now c.loop-sample.sample-index c.loop-sample.parities c.loop-sample-test.true c.loop-sample.invariant

pub loop-first-init : goal.loop-first-init
loop-first-init c =
    let end : c.loop-sample.sample-index ≡ 16 = omega arith in
    c.loop-sample.invariant ∙ ap (so_far c.args.odd.now c.args.even.now) end

pub append_parity-parities-requires-in-loop-first : goal.append_parity-parities-requires-in-loop-first
append_parity-parities-requires-in-loop-first c =
    omega (arith, so_far_small c.args.odd.now c.args.even.now (16 + c.loop-first.first-index) c.loop-first.parities (omega arith) c.loop-first.invariant)

pub loop-first-preserved : goal.loop-first-preserved
loop-first-preserved c = c.append_parity-parities-in-loop-first.ensures ∙ even_more c.args.odd.now c.args.even.now c.loop-first.first-index c.loop-first.parities c.loop-first-test.true c.loop-first.invariant

pub returns : goal.returns
returns c =
    let odd = c.args.odd.now in
    let even = c.args.even.now in
    let end : 16 + c.loop-first.first-index ≡ 24 = omega arith in
    record {
      value = c.loop-first.invariant ∙ ap (so_far odd even) end ∙ all_24 odd even;
      small = so_far_small odd even (16 + c.loop-first.first-index) c.loop-first.parities (omega arith) c.loop-first.invariant;
    }
