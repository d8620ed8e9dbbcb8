use Rattle.fidelity.proofs.Fidelity.{one_octet_hardly_harms, no_damage_no_harm}
use Rattle.circuit.proofs.Histories.{dependable}
use Rattle.circuit.proofs.circuit.Circuit.new.Goals as goal

pub returns : goal.returns
returns g c = record {
  sender = c.new.ensures;
  receiver = c.new-2.ensures.state;
  outlet = c.new-2.ensures.outlet;
  dependable = dependable one_octet_hardly_harms no_damage_no_harm (g.O.WordLaw.meaning c.args.outlet) (g.met.O.WordLaw.cells c.args.outlet) (g.met.O.Outlet.wide c.args.outlet);
}
