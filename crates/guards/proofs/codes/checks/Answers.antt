use Rattle.std.proofs.Common.{◌≡◌, ◌*◌, ◌%◌, ◌^◌, sym, ap, ◌∙◌, arith}
use lib.Bits.{bit_and}
use Rattle.std.proofs.lemmas.Nat.{and_mask}
use Rattle.guards.specs.Division.{remainder, guard_syndrome, checks_of}
use Rattle.guards.specs.Parities.{guards}
use Rattle.guards.proofs.Guarding.{guards_clean}
use Rattle.guards.proofs.codes.checks.Goals as goal

pub returns : goal.returns
unfolding checks_of
returns c =
    let p = and_mask c.args.parities 24 in
    let shifted : (bit_and c.args.parities 16777215 * 32) % 2 ^ 32 ≡ 2 ^ 5 * (c.args.parities % 2 ^ 24) = omega arith in
    let value = c.remainder.ensures.value ∙ ap remainder shifted in
    record {
      value = value;
      clean = λ word e. ap (λ k. guard_syndrome (guards word k)) (value ∙ ap checks_of (sym e)) ∙ guards_clean word;
      small = c.remainder.ensures.left.short;
    }
