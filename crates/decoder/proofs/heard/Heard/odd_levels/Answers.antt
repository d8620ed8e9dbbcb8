use Rattle.std.proofs.Common.{◌≡◌, ℕ, ◌+◌, ◌*◌, ◌<◌, get_or, pos, sym, ap, ◌∙◌, arith, rules}
use Rattle.std.proofs.lemmas.Bool.{cond-false}
use Rattle.decoder.specs.Findings.{odd, finding}
use Rattle.decoder.specs.Samples.{plain}
use Rattle.decoder.specs.Received.{received, basic_of}
use Rattle.decoder.proofs.Numbers.{code_odd}
use Rattle.decoder.proofs.Concealing.{odd_number, odd_kept, one_stands_in}
use Rattle.decoder.proofs.heard.Heard.odd_levels.Goals as goal
use Rattle.decoder.proofs.heard.Heard.odd_levels.Goals.{After-levels_of-levels}

-- the levels as they arrived
arrived : (c : After-levels_of-levels) → (k : ℕ) → k < 16 → get_or c.levels_of-levels.result k (pos 0) ≡ plain (received c.args.self.now.block.now) (2 * k + 1)
arrived c k h =
    let b = received c.args.self.now.block.now in
    let range : c.odd.result.range ≡ b.basic = c.odd.ensures.range ∙ sym (ap basic_of c.args.self.now.ranged) in
    rw (code_odd k b, ← range, ← c.odd.ensures.half) (c.levels_of-levels.ensures k h)

pub returns-in-Odd : goal.returns-in-Odd
returns-in-Odd c =
    let number = odd_number c.args.self.now.block.now.judged.verdict c.in-Odd.n c.in-Odd.is c.args.self.now.block.now.judged.numbered in
    let is : c.in-Odd.n ≡ 2 * c.from-i.result + 1 = omega arith in
    one_stands_in (received c.args.self.now.block.now) c.from-i.result c.levels_of-levels.result c.stand_in.result (ap finding c.in-Odd.is ∙ ap odd is) (omega arith) (search rules)
    (arrived (goal.at.returns-in-Odd c).After-levels_of-levels) c.stand_in.ensures

pub returns-in_default : goal.returns-in_default
returns-in_default c = λ k h. arrived (goal.at.returns-in_default c).After-levels_of-levels k h ∙ sym (cond-false _ _ _ (odd_kept c.args.self.now.block.now.judged.verdict c.in_default.not-Odd k))
