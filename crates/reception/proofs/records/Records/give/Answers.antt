use Rattle.std.proofs.Common.{◌≡◌, ℕ, ◌+◌, ◌%◌, cond, eqb, map, length, get_or, sym, ap, ◌∙◌, subst, arith}
use Rattle.std.proofs.lemmas.List.{get_or-map}
use Rattle.words.specs.Meaning.{Meaning}
use Rattle.reception.specs.declared.record.PairRecord.{PairRecord}
use Rattle.reception.specs.declared.records.Records.{Records}
use Rattle.reception.specs.Given.{PairGiven, giving}
use Rattle.reception.specs.Records.{recorded, blank_record, recent_of, oldest_given}
use Rattle.reception.specs.Reports.{report_told}
use Rattle.reception.proofs.records.Records.give.Goals as goal

oldest : (rs : Records) (d : PairRecord) → recorded (get_or rs.slots rs.at d) ≡ get_or (recent_of rs) 3 blank_record
oldest rs d =
    let here : rs.at ≡ rs.at % 4 = omega (arith, rs.inside) in
    sym (get_or-map recorded rs.slots rs.at d blank_record (omega (arith, rs.inside, rs.four))) ∙ ap (λ (k : ℕ). get_or (map recorded rs.slots) k blank_record) here

next_newer : (rs : Records) (d : PairRecord) → recorded (get_or rs.slots ((rs.at + 1) % 4) d) ≡ get_or (recent_of rs) 2 blank_record
next_newer rs d = sym (get_or-map recorded rs.slots ((rs.at + 1) % 4) d blank_record (omega (arith, rs.four)))

given_alike : (m : Meaning) (rs : Records) (d e : PairRecord) → giving m (recorded (get_or rs.slots rs.at d)).first (recorded (get_or rs.slots rs.at d)).second (recorded (get_or rs.slots ((rs.at + 1) % 4) e)).first ≡ oldest_given m (recent_of rs)
given_alike m rs d e =
    let first = oldest rs d in
    let next = next_newer rs e in
    cc

pub returns : goal.returns
returns g c =
    let rs = c.args.self.now in
    let words = c.args.words.now in
    let alike = given_alike (g.O.WordLaw.meaning c.args.outlet.now) rs c.index-self-self.result c.index-self-self-2.result in
    record {
      report = subst (λ (p : PairGiven). report_told c.given.result ≡ p.report) alike c.given.ensures.report;
      buffer = subst (λ (p : PairGiven). c.given.new.words ≡ cond (eqb (length words) 64) p.words words) alike c.given.ensures.buffer;
    }
