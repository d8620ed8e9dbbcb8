use Rattle.std.proofs.Common.{◌≡◌, ◌*◌, ◌%◌, ◌^◌, ◌≤◌, ◌∙◌, arith, pow_mono}
use Rattle.std.proofs.lemmas.Nat.{shl_whole}
use Rattle.closeness.proofs.width.Goals as goal

pub returns : goal.returns
returns c =
    let r = c.args.range in
    let p : 2 ^ r ≤ 2 ^ 6 = pow_mono c.requires in
    let e : (1 * 2 ^ r) % 2 ^ 32 ≡ 2 ^ r = shl_whole 1 1 r 32 (omega arith) (omega arith) ∙ omega arith in
    record { value = e; small = omega (arith, e) }
