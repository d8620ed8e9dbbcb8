-- What the laws mean that the console names, by cases, and that each keeps the cell rule.
use Rattle.words.specs.Meaning.{Meaning, CellRule, Wide}
use Rattle.words.specs.Linear.{linear}
use Rattle.words.specs.LinearRule.{linear_rule, linear_wide}
use Rattle.words.specs.VariantB.{variant_b}
use Rattle.words.specs.GateRule.{gate_rule, gate_wide}
use Rattle.words.specs.Signed.{basic, additional}
use Rattle.words.specs.SignRule.{basic_rule, additional_rule}
use Rattle.console.specs.declared.law.Law.{Law}
use Rattle.console.specs.declared.law.Law.TheVariants.{Outlet, Basic, Additional}
use Rattle.console.specs.declared.outlet.OutletLaw.{OutletLaw}
use Rattle.console.specs.declared.outlet.OutletLaw.TheVariants.{Linear, VariantB}

abbrev pub outlet_meaning : OutletLaw → Meaning
outlet_meaning Linear = linear
outlet_meaning VariantB = variant_b

pub outlet_rule : (law : OutletLaw) → CellRule (outlet_meaning law)
outlet_rule Linear = linear_rule
outlet_rule VariantB = gate_rule

pub outlet_wide : (law : OutletLaw) → Wide (outlet_meaning law)
outlet_wide Linear = linear_wide
outlet_wide VariantB = gate_wide

abbrev pub law_meaning : Law → Meaning
law_meaning (Outlet law) = outlet_meaning law
law_meaning (Basic law) = basic law.range
law_meaning (Additional law) = additional law.basic_range law.range

pub law_rule : (law : Law) → CellRule (law_meaning law)
law_rule (Outlet law) = outlet_rule law
law_rule (Basic law) = basic_rule law.range
law_rule (Additional law) = additional_rule law.basic_range law.range
