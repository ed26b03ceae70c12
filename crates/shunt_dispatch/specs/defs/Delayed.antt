-- The answer of `delay`.
use Rattle.std.specs.Prelude.{◌≡◌, ◌⊎◌, List, []}
use Rattle.shunt_instance.specs.defs.Instance.{Night}
use Rattle.shunt_plan.specs.declared.records.Plan.{Plan}
use Rattle.shunt_audit.specs.defs.Plans.{ArePlanFindings}
use Rattle.shunt_delay.specs.declared.records.Delay.{Delay as TrainDelay}
use Rattle.shunt_delay.specs.defs.Delays.{AreDelays}
use Rattle.shunt_report.specs.defs.DelaysTexts.{delays_of}
use Rattle.shunt_inputs.specs.declared.answers.Outcome.TheVariants as outcome
use Rattle.shunt_inputs.specs.defs.Replies.{Reply, says}
use Rattle.shunt_judging.specs.defs.Audited.{IsFaulty}

-- the answer of `delay` on a plan without findings: how late each of its trains can be is printed
pub record HasDelays (x : Night × Plan) (r : Reply) : Type 0 where
  pub none : ArePlanFindings x.0 x.1 []
  pub delays : List TrainDelay
  pub told : AreDelays x.0 x.1.blocks delays
  pub reply : r ≡ says outcome.Done (delays_of x.0 delays)

-- the answer of `delay` on a plan
abbrev pub IsDelayed : Night × Plan → Reply → Type 0
IsDelayed x r = IsFaulty x r ⊎ HasDelays x r
