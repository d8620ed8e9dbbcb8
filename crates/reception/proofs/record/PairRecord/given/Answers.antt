use Rattle.std.proofs.Common.{◌≡◌, cond, eqb, List, map, length, ℤ, subst}
use Rattle.words.specs.Meaning.{Meaning, Wide}
use Rattle.decoder.specs.Received.{received}
use Rattle.reception.proofs.Rows.{BlockSampled, row_whole, row_small, row_same}
use Rattle.reception.proofs.Outlets.{companded}
use Rattle.reception.proofs.record.PairRecord.given.Goals as goal

pub returns : goal.returns
returns g c =
    let m : Meaning = g.O.WordLaw.meaning c.args.outlet.now in
    let wide : Wide m = g.met.O.Outlet.wide c.args.outlet.now in
    let first = received c.args.self.now.first.received in
    let second = received c.args.self.now.second.received in
    let next = received c.args.next.now.first.received in
    let f = c.follower-after_first.result in
    let h = c.follower-after_second.result in
    let xs = c.samples.result in
    let ys = c.samples-2.result in
    let row = c.joined-samples.result in
    let a : BlockSampled first second f xs = record { followed = c.follower-after_first.ensures; value = c.samples.ensures.value; small = c.samples.ensures.small } in
    let b : BlockSampled second next h ys = record { followed = c.follower-after_second.ensures; value = c.samples-2.ensures.value; small = c.samples-2.ensures.small } in
    let joined = c.joined-samples.ensures in
    record {
      report =
          let p = c.report_on.ensures in
          let q = c.report_on-2.ensures in
          let r = c.follower-after_first.ensures in
          let s = c.follower-after_second.ensures in
          cc;
      buffer =
          subst (λ (zs : List ℤ). c.compand.new.words ≡ cond (eqb (length c.args.words.now) 64) (map m.word zs) c.args.words.now)
          (row_same first second next f h xs ys row a b joined)
          (companded m wide row (row_whole first second next f h xs ys row a b joined) (row_small first second next f h xs ys row a b joined)
          c.compand.result c.args.words.now c.compand.new.words c.compand.ensures.answer c.compand.ensures.buffer);
    }
