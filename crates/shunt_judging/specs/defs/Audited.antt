-- The answer of `audit`.
use Rattle.std.specs.Prelude.{◌≡◌, List, [], ◌∷◌, ◌≢◌, Option, Some, None}
use Rattle.shunt_inputs.specs.declared.answers.Outcome.{Outcome}
use Rattle.shunt_inputs.specs.declared.answers.Outcome.TheVariants as outcome
use Rattle.shunt_instance.specs.defs.Instance.{Night}
use Rattle.shunt_blocks.specs.defs.Lists.{IsFeasible, total_cost}
use Rattle.shunt_plan.specs.declared.records.Plan.{Plan}
use Rattle.shunt_audit.specs.declared.types.Finding.{Finding}
use Rattle.shunt_audit.specs.defs.Plans.{ArePlanFindings}
use Rattle.shunt_report.specs.defs.FindingTexts.{findings_of}
use Rattle.shunt_inputs.specs.declared.answers.Answer.{Answer}
use Rattle.shunt_inputs.specs.defs.Replies.{reply_of, Reply, says}

-- the plan is feasible in its night and states its cost
abbrev pub IsClean : Night × Plan → Type 0
IsClean x = IsFeasible x.0 x.1.blocks × (x.1.cost ≡ total_cost x.0 x.1.blocks)

-- an audit ends well where it finds nothing
abbrev pub audit_outcome : List Finding → Outcome
audit_outcome [] = outcome.Done
audit_outcome (f ∷ findings) = outcome.Findings

-- the answer of `audit` on a plan: its findings and what its blocks cost are printed
pub record IsAudited (x : Night × Plan) (r : Reply) : Type 0 where
  pub findings : List Finding
  pub told : ArePlanFindings x.0 x.1 findings
  pub reply : r ≡ says (audit_outcome findings) (findings_of x.0 findings (total_cost x.0 x.1.blocks))

-- the answer on a plan with findings, where the command wants one without: they and what its blocks cost are printed
pub record IsFaulty (x : Night × Plan) (r : Reply) : Type 0 where
  pub findings : List Finding
  pub told : ArePlanFindings x.0 x.1 findings
  pub some : findings ≢ []
  pub reply : r ≡ says outcome.Findings (findings_of x.0 findings (total_cost x.0 x.1.blocks))

-- that answer on a plan with findings, and none on a feasible plan without
abbrev pub Faults : Night × Plan → Option Answer → Type 0
Faults x (Some a) = IsFaulty x (reply_of a)
Faults x None = ArePlanFindings x.0 x.1 [] × IsFeasible x.0 x.1.blocks
