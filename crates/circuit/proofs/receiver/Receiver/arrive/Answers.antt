use Rattle.std.proofs.Common.{◌≡◌, ◌<◌, length, refl, ap, ◌∙◌, arith}
use Rattle.std.proofs.lemmas.Bool.{cond-true, eq-eqb}
use Rattle.reception.specs.Arrivals.{Arrival}
use Rattle.reception.specs.Carried.{carried, carried_by}
use Rattle.reception.specs.Records.{arrive_by}
use Rattle.circuit.specs.Taking.{Took, sink_of}
use Rattle.circuit.proofs.Answering.{early_is, given_is}
use Rattle.circuit.proofs.receiver.Receiver.arrive.Goals as goal

pub returns-then-self-lt-EARLY : goal.returns-then-self-lt-EARLY
returns-then-self-lt-EARLY g c =
    let s = sink_of c.args.self.now in
    let low : s.seen < 3 = omega arith in
    let early = λ (a : Arrival) (e : carried c.args.arrived.now ≡ carried_by a). early_is (g.O.WordLaw.meaning c.args.self.now.outlet) s c.args.words.now (arrive_by a s.recent) _ (c.arrive.ensures.arrival a e) low in
    record {
      state = λ a e. ap (λ (t : Took). t.sink) (early a e);
      buffer = λ a e. ap (λ (t : Took). t.words) (early a e);
      answer = λ a e. ap (λ (t : Took). t.answer) (early a e);
      outlet = refl;
    }

pub returns : goal.returns
returns g c =
    let s = sink_of c.args.self.now in
    let words = c.args.words.now in
    let three : s.seen ≡ 3 = omega (arith, c.args.self.now.few) in
    let written = c.give.ensures.buffer ∙ cond-true _ _ _ (eq-eqb (length words) 64 c.requires) in
    let given = λ (a : Arrival) (e : carried c.args.arrived.now ≡ carried_by a). given_is (g.O.WordLaw.meaning c.args.self.now.outlet) s words (arrive_by a s.recent) _ _ _ (c.arrive.ensures.arrival a e) written c.give.ensures.report three in
    record {
      state = λ a e. ap (λ (t : Took). t.sink) (given a e);
      buffer = λ a e. ap (λ (t : Took). t.words) (given a e);
      answer = λ a e. ap (λ (t : Took). t.answer) (given a e);
      outlet = refl;
    }
