use Rattle.std.proofs.Common.{◌≡◌, ℕ, is_some, refl, ap, ◌∙◌}
use Rattle.guards.specs.Located.{outcome, located}
use Rattle.guards.specs.Division.{guard_syndrome}
use Rattle.guards.specs.Parities.{guards}
use Rattle.guards.specs.Words.{by_sample}
use Rattle.decoder.specs.Verdicts.{first_that_applies}
use Rattle.reception.specs.Blocks.{guards_found}
use Rattle.reception.proofs.Judging.{judged_so}
use Rattle.reception.proofs.record.BlockRecord.judge.Goals as goal

pub returns : goal.returns
unfolding guards_found
returns c =
    let odd = c.args.self.now.received.odd in
    let even = c.args.self.now.received.even in
    let checks = c.args.self.now.checks in
    let guards_are : outcome c.locate.result ≡ guards_found odd.words even.words checks =
    c.locate.ensures.answer
    ∙ ap (located 29 guard_syndrome) (c.block_syndrome-syndrome.ensures ∙ ap (λ (n : ℕ). guard_syndrome (guards (by_sample odd.words even.words) n)) c.from.ensures) in
    record {
      checks = refl;
      received = λ word block is told.
          judged_so c.args.lost word block checks (record { judged = c.judge-self.result; odd = odd; even = even })
          (record {
            range_word = c.args.found;
            ranges = c.args.ranges;
            found = is;
            numbers = told;
            verdict = c.judge-self.ensures.answer ∙ ap (first_that_applies c.args.lost (outcome c.args.found) (is_some c.args.ranges)) guards_are;
            told = c.judge-self.ensures.ranges;
          });
    }
