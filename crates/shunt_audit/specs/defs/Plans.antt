-- The findings of a plan.
use Rattle.std.specs.Prelude.{◌≡◌, ◌≢◌, ◌⊎◌, ◌↔◌, ◌==◌, not, List, ◌++◌}
use Rattle.shunt_lists.specs.defs.Members.{In}
use Rattle.shunt_instance.specs.defs.Instance.{Night}
use Rattle.shunt_blocks.specs.defs.Lists.{total_cost}
use Rattle.shunt_plan.specs.declared.records.Plan.{Plan}
use Rattle.shunt_audit.specs.declared.types.Finding.{Finding}
use Rattle.shunt_audit.specs.declared.types.Finding.TheVariants.{StatedCost}
use Rattle.shunt_audit.specs.defs.Findings.{IsFinding, AreSorted}
use Rattle.shunt_audit.specs.defs.Listed.{noted, findings_in}

-- the plan states another cost than its blocks have
pub record IsMisstated (night : Night) (plan : Plan) (f : Finding) : Type 0 where
  pub is : f ≡ StatedCost plan.cost (total_cost night plan.blocks)
  pub differs : plan.cost ≢ total_cost night plan.blocks

-- what is wrong with a plan: with its blocks, or with the cost that it states
abbrev pub IsPlanFinding : Night → Plan → Finding → Type 0
IsPlanFinding night plan f = IsFinding night plan.blocks f ⊎ IsMisstated night plan f

-- the findings in their order
unfoldable pub plan_findings : Night → Plan → List Finding
plan_findings night plan = findings_in night plan.blocks ++ noted (not (plan.cost == total_cost night plan.blocks)) (StatedCost plan.cost (total_cost night plan.blocks))

-- in order, exactly the findings of this plan
pub record ArePlanFindings (night : Night) (plan : Plan) (findings : List Finding) : Type 0 where
  pub in_order : AreSorted findings
  pub exactly : (f : Finding) → In f findings ↔ IsPlanFinding night plan f
