use Rattle.std.proofs.Common.{◌∙◌, sym, subst, ap, List, length}
use Rattle.std.specs.Prelude.{All}
use Rattle.shunt_report.specs.defs.ZonesTexts.{IsMeetOf}
use Rattle.shunt_zones.specs.declared.records.ZoneLoad.{ZoneLoad}
use Rattle.shunt_throat.proofs.meetings.zones_answer.Goals as goal

pub zones_text-requires-clause-meets : goal.zones_text-requires-clause-meets
zones_text-requires-clause-meets c =
    subst (All (IsMeetOf c.args.zones.now)) (sym c.in_ok-met.ensures) (c.meets.ensures.each c.args.instance.now c.args.zones.now c.args.plan.now c.station.ensures.formed
    c.requires.zones c.requires.plan)

pub zones_text-requires-clause-loads : goal.zones_text-requires-clause-loads
zones_text-requires-clause-loads c = ap (λ (l : List ZoneLoad). length l) c.in_ok-passed.ensures ∙ c.meets.ensures.loads c.args.instance.now c.args.zones.now c.args.plan.now
