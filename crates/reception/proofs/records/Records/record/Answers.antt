use Rattle.frames.specs.Content.{pair_in}
use Rattle.reception.proofs.Turning.{Turned, turned, still_four}
use Rattle.reception.proofs.records.Records.record.Goals as goal

step : (c : goal.After-index-slots-at-3) → Turned c.args.arrived.now.lost (pair_in c.args.arrived.now.frame) c.args.at c.args.slots.now
    c.index-slots-at.result c.index-slots-at-2.result c.follow.new.self c.complete.new.self c.begun.result
step c = record {
  low = c.requires;
  four = c.told-slots;
  follows = c.follow.ensures;
  completes = c.complete.ensures;
  begins = c.begun.ensures;
}

pub returns : goal.returns
returns c = record {
  recent = turned _ _ _ _ _ _ _ _ _ (step c);
  four = still_four _ _ _ _ _ _ _ _ _ (step c);
}
