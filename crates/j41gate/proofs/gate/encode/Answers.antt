use Rattle.std.proofs.Common.{cond, map, replicate, is_ok, ap, ◌∙◌}
use lib.Count.{ones}
use Rattle.words.specs.Lists.{making_all}
use Rattle.words.specs.VariantB.{variant_b, gate_word}
use Rattle.j41gate.proofs.Near.{near_all}
use Rattle.j41gate.proofs.gate.encode.Goals as goal

pub returns : goal.returns
unfolding ones
returns c =
    let made = c.compand.ensures.answer ∙ ap (λ l. making_all variant_b l 64) c.widen.ensures in
    record {
      answer = made;
      buffer = c.compand.ensures.buffer ∙ ap (λ l. cond (is_ok c.compand.result) (map gate_word l) (replicate 64 257)) c.widen.ensures;
      near = near_all c.compand.result c.args.samples.now c.told-samples made;
    }
