use Rattle.std.proofs.Common.{◌∙◌}
use Rattle.shunt_report.specs.defs.ZonesTexts.{meet_line}
use Rattle.shunt_report.proofs.zones.push_meets.Goals as goal
use Rattle.shunt_lists.proofs.Lists.{lines_more as one_more}

pub loop-meet-preserved : goal.loop-meet-preserved
loop-meet-preserved c = one_more (meet_line c.args.zones.now) c.args.meets.now c.loop-meet.meet-index _ c.loop-meet.text c.push_meet.new.text c.loop-meet-test.true
    c.in_ok-push_meet.ensures ∙ c.loop-meet.invariant
