use Rattle.std.proofs.Common.{◌+◌, ◌∙◌, ap}
use Rattle.shunt_blocks.specs.defs.Least.{lesser}
use Rattle.shunt_zones.proofs.Least.{left, one_zone}
use Rattle.shunt_zones.proofs.meetings.shared_zone.Goals as goal

pub loop-zone-preserved : goal.loop-zone-preserved
loop-zone-preserved c = ap (λ o. lesser o (left c.args.other.now c.args.own.now (c.loop-zone.zone-index + 1))) c.with_zone-least.ensures
    ∙ one_zone c.args.other.now c.args.own.now c.loop-zone.zone-index _ c.loop-zone.least c.loop-zone-test.true ∙ c.loop-zone.invariant
