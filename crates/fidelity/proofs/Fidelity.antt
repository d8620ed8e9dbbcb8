-- Received blocks are faithful to those put, and faithful blocks keep what is promised.
use Rattle.reception.specs.Given.{pair_given}
use Rattle.fidelity.specs.Crossing.{OneOctetHardlyHarms, NoDamageNoHarm}
use Rattle.frames.specs.Places.{IsBlock}
use Rattle.std.proofs.Common.{arith}
use Rattle.fidelity.proofs.Judging.{judged_right, next_judged_right, undamaged_right, next_undamaged_right}
use Rattle.fidelity.proofs.Keeping.{kept, heard, all, few}

first : IsBlock 1
first = record { from = omega arith; upto = omega arith }

second : IsBlock 2
second = record { from = omega arith; upto = omega arith }

pub one_octet_hardly_harms : OneOctetHardlyHarms
unfolding pair_given
one_octet_hardly_harms outlet rule wide pairs arrivals N crosses damage =
    let f1 = judged_right pairs arrivals N crosses damage 1 first in
    let f2 = judged_right pairs arrivals N crosses damage 2 second in
    let f3 = next_judged_right pairs arrivals N crosses damage in
    record {
      sound = kept outlet pairs N f1 f2 f3 rule wide crosses.put;
      heard = heard outlet pairs N f1 f2 f3;
      few = few outlet pairs N damage.frame damage.octet f1 f2 f3 damage.from damage.upto damage.inside;
    }

pub no_damage_no_harm : NoDamageNoHarm
unfolding pair_given
no_damage_no_harm outlet rule wide pairs arrivals N crosses none =
    let f1 = undamaged_right pairs arrivals N crosses none 1 first in
    let f2 = undamaged_right pairs arrivals N crosses none 2 second in
    let f3 = next_undamaged_right pairs arrivals N crosses none in
    record {
      sound = kept outlet pairs N f1 f2 f3 rule wide crosses.put;
      heard = heard outlet pairs N f1 f2 f3;
      all = all outlet pairs N f1 f2 f3;
    }
