use Rattle.std.proofs.Common.{◌∙◌, arith}
use Rattle.shunt_report.proofs.Lines.{one_zone}
use Rattle.shunt_report.proofs.zones.push_zones.Goals as goal

pub loop-i-preserved : goal.loop-i-preserved
loop-i-preserved c = one_zone c.args.names.now c.args.loads.now c.loop-i.i c.index-names-i.result _ c.index-loads-i.result _ c.loop-i.text c.push_zone.new.text c.loop-i-test.true
    (let lt = c.loop-i-test.true in let many = c.requires in omega (arith, lt, many)) c.index-names-i.is c.index-loads-i.is c.in_ok-push_zone.ensures ∙ c.loop-i.invariant
