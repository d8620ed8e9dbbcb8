use Rattle.j41gate.proofs.Within.{expanded_fits}
use Rattle.j41gate.proofs.gate.decode.Goals as goal

pub narrow-requires : goal.narrow-requires
narrow-requires c =
    expanded_fits c.expand-outcome.result c.args.words.now c.expand-outcome.new.values c.told-words c.expand-outcome.ensures.answer c.expand-outcome.ensures.buffer
