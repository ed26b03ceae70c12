-- The answer of `report`.
use Rattle.std.specs.Prelude.{◌≡◌, ◌⊎◌, []}
use Rattle.shunt_instance.specs.defs.Instance.{Night}
use Rattle.shunt_plan.specs.declared.records.Plan.{Plan}
use Rattle.shunt_audit.specs.defs.Plans.{ArePlanFindings}
use Rattle.shunt_report.specs.defs.JsonTexts.{json_of}
use Rattle.shunt_inputs.specs.declared.answers.Outcome.TheVariants as outcome
use Rattle.shunt_inputs.specs.defs.Replies.{Reply, says}
use Rattle.shunt_judging.specs.defs.Audited.{IsFaulty}

-- the answer of `report` on a plan without findings: it is told as one line for other programs
pub record HasReport (x : Night × Plan) (r : Reply) : Type 0 where
  pub none : ArePlanFindings x.0 x.1 []
  pub reply : r ≡ says outcome.Done (json_of x.0 x.1.blocks)

-- the answer of `report` on a plan
abbrev pub IsReported : Night × Plan → Reply → Type 0
IsReported x r = IsFaulty x r ⊎ HasReport x r
