use Rattle.std.proofs.Common.{◌≡◌, ℕ, ◌+◌, ◌*◌, ◌%◌, ◌^◌, ◌<◌, sym, ap, ◌∙◌, arith}
use lib.Bits.{bit_or, bit_and, or_shifted}
use Rattle.std.proofs.lemmas.Nat.{and_mask}
use Rattle.guards.specs.Division.{guard_syndrome}
use Rattle.guards.specs.Words.{by_sample}
use Rattle.guards.proofs.Guarding.{guards_split}
use Rattle.guards.proofs.parities.block_syndrome.Goals as goal

-- parities and checks side by side
joined : (p c : ℕ) → p < 2 ^ 24 → bit_or ((p * 2 ^ 5) % 2 ^ 32) (bit_and c 31) ≡ p * 2 ^ 5 + c % 2 ^ 5
joined p c h =
    let kept : (p * 2 ^ 5) % 2 ^ 32 ≡ p * 2 ^ 5 = omega arith in
    ap (λ x. bit_or x (bit_and c 31)) kept ∙ ap (bit_or (p * 2 ^ 5)) (and_mask c 5) ∙ or_shifted p 5 (c % 2 ^ 5) (omega arith)

pub returns : goal.returns
returns c =
    let word = by_sample c.args.odd.now c.args.even.now in
    c.syndrome.ensures
    ∙ ap guard_syndrome
    (joined c.parities.result c.args.checks c.parities.ensures.small ∙ ap (λ p. p * 2 ^ 5 + c.args.checks % 2 ^ 5) c.parities.ensures.value
    ∙ sym (guards_split word c.args.checks))
