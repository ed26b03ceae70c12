use Rattle.std.proofs.Common.{sym, subst}
use Rattle.std.specs.Prelude.{All}
use Rattle.std.proofs.lemmas.List.Elements.{All-filter}
use Rattle.shunt_audit.specs.defs.Findings.{IsOfNight}
use Rattle.shunt_judging.proofs.pins.findings_of_pins.Goals as goal

pub returns-clause-of_night : goal.returns-clause-of_night
returns-clause-of_night c = subst (All (IsOfNight c.args.instance.now)) (sym c.drop_bare.ensures) (All-filter _ (IsOfNight c.args.instance.now) _ c.in_ok-findings.ensures.of_night)
