use Rattle.std.specs.Prelude.{Some, None}
use Rattle.shunt_checker.specs.defs.PlanFaults.{HasBadBlock}
use Rattle.shunt_checker.specs.defs.Stops.{IsUnitFault, IsPlaceFault}
use Rattle.shunt_checker.proofs.PlanOrder.{moved, from_unit, from_place, from_run, unit_first, place_first}
use Rattle.shunt_checker.proofs.plan_faults.plan_fault.Goals as goal

pub returns-in-Some-unit_fault : goal.returns-in-Some-unit_fault
returns-in-Some-unit_fault c =
    let night = c.args.instance.now in
    let plan = c.args.plan.now in
    let bad = moved (HasBadBlock night) c.as_slice-blocks.result.now plan.blocks c.bad_block.result None c.as_slice-blocks.ensures c.in_default.is c.bad_block.ensures in
    unit_first night plan (from_unit night plan bad) c.in-Some-unit_fault.unit
    (moved (IsUnitFault night) c.as_slice-blocks.result.now plan.blocks c.unit_fault.result
    (Some c.in-Some-unit_fault.unit) c.as_slice-blocks.ensures c.in-Some-unit_fault.is c.unit_fault.ensures)

pub returns-in-Some-place_fault : goal.returns-in-Some-place_fault
returns-in-Some-place_fault c =
    let night = c.args.instance.now in
    let plan = c.args.plan.now in
    let bad = moved (HasBadBlock night) c.as_slice-blocks.result.now plan.blocks c.bad_block.result None c.as_slice-blocks.ensures c.in_default.is c.bad_block.ensures in
    let unit = moved (IsUnitFault night) c.as_slice-blocks.result.now plan.blocks c.unit_fault.result None c.as_slice-blocks.ensures c.in_default-unit_fault.is
    c.unit_fault.ensures in
    place_first night plan (from_place night plan (from_unit night plan bad) unit) c.in-Some-place_fault.position
    (moved (IsPlaceFault night) c.as_slice-blocks.result.now plan.blocks c.place_fault.result
    (Some c.in-Some-place_fault.position) c.as_slice-blocks.ensures c.in-Some-place_fault.is c.place_fault.ensures)

pub late_fault-requires-clause-from : goal.late_fault-requires-clause-from
late_fault-requires-clause-from c =
    let night = c.args.instance.now in
    let plan = c.args.plan.now in
    let bad = moved (HasBadBlock night) c.as_slice-blocks.result.now plan.blocks c.bad_block.result None c.as_slice-blocks.ensures c.in_default.is c.bad_block.ensures in
    let unit = moved (IsUnitFault night) c.as_slice-blocks.result.now plan.blocks c.unit_fault.result None c.as_slice-blocks.ensures c.in_default-unit_fault.is
    c.unit_fault.ensures in
    let place = moved (IsPlaceFault night) c.as_slice-blocks.result.now plan.blocks c.place_fault.result None c.as_slice-blocks.ensures c.in_default-place_fault.is
    c.place_fault.ensures in
    from_run night plan (from_place night plan (from_unit night plan bad) unit) place
