use Rattle.shunt_audit.proofs.BlockStays.{BlockLaws}
use Rattle.shunt_audit.proofs.Stated.{plan_exactly, plan_ordered, only_plan, plan_none}
use Rattle.shunt_audit.proofs.laws.plan_findings.Goals as goal

pub returns-clause-exactly : goal.returns-clause-exactly
returns-clause-exactly c = plan_exactly

pub returns-clause-in_order : goal.returns-clause-in_order
returns-clause-in_order c = plan_ordered

pub returns-clause-one : goal.returns-clause-one
returns-clause-one c = only_plan

pub returns-clause-none : goal.returns-clause-none
returns-clause-none c =
    let laws : BlockLaws = record {
      sound = c.blocks-2.ensures;
      stays = λ night blocks n h. c.stays_of_blocks.ensures.stays night blocks n (c.stays_of_blocks.ensures.in_range night blocks h);
      tracks = λ night blocks h. c.stays_of_blocks.ensures.tracks night blocks (c.stays_of_blocks.ensures.in_range night blocks h);
    } in
    plan_none laws
