-- The answer of `improve`.
use Rattle.std.specs.Prelude.{◌≡◌, ◌⊎◌, ℕ, ◌≤◌, List, [], Option, Some, None, Result, Ok}
use Rattle.shunt_store.specs.defs.Files.{Files, content}
use Rattle.shunt_instance.specs.defs.Instance.{Night}
use Rattle.shunt_blocks.specs.declared.records.Block.{Block}
use Rattle.shunt_blocks.specs.defs.Lists.{IsFeasible, total_cost}
use Rattle.shunt_blocks.specs.defs.Pins.{AreUsable, Keeps}
use Rattle.shunt_plan.specs.declared.records.Plan.{Plan}
use Rattle.shunt_plan.specs.defs.Plans.{IsFirstLost}
use Rattle.shunt_audit.specs.defs.Plans.{ArePlanFindings}
use Rattle.shunt_report.specs.defs.PlanTexts.{lost_of}
use Rattle.shunt_inputs.specs.declared.answers.Answer.{Answer}
use Rattle.shunt_inputs.specs.declared.answers.Outcome.TheVariants as outcome
use Rattle.shunt_inputs.specs.declared.pins.Pinned.{Pinned}
use Rattle.shunt_inputs.specs.defs.Inputs.{then_stated, stated_plan, pinned_in}
use Rattle.shunt_inputs.specs.defs.Replies.{Reply, reply_of, says}
use Rattle.shunt_judging.specs.defs.Audited.{IsClean, IsFaulty}
use Rattle.shunt_judging.specs.defs.Pins.{IsUnusable}
use Rattle.shunt_planning.specs.defs.Planned.{IsPlannedAt}

-- the night and the pins that the station file, the timetable file and the pins file of these names state, and the plan in hand that the
-- plan file states in it, or the line for the first of them that isn't accepted
abbrev pub in_hand_in : List ℕ → List ℕ → List ℕ → List ℕ → Files → Result (Pinned × Plan) (List ℕ)
in_hand_in s t i h files = then_stated (pinned_in s t i files) (λ x. then_stated (stated_plan x.instance (content files h)) (λ plan. Ok (x, plan)))

-- the answer on a plan in hand that doesn't keep a pin: the first one that is lost is printed
pub record IsLost (pins : List Block) (plan : Plan) (r : Reply) : Type 0 where
  pub id : ℕ
  pub first : IsFirstLost plan.blocks pins id
  pub reply : r ≡ says outcome.Findings (lost_of id)

-- the answer on a plan in hand that has a finding, or on one without that doesn't keep a pin
abbrev pub IsUnfit : Night → List Block → Plan → Reply → Type 0
IsUnfit night pins plan r = IsFaulty (night, plan) r ⊎ (ArePlanFindings night plan [] × IsLost pins plan r)

-- a plan in hand has no finding, and keeps the pins
pub record IsFit (night : Night) (pins : List Block) (plan : Plan) : Type 0 where
  pub none : ArePlanFindings night plan []
  pub feasible : IsFeasible night plan.blocks
  pub keeps : Keeps plan.blocks pins

-- that answer on an unfit plan, and none on a fit one
abbrev pub FitFaults : Night → List Block → Plan → Option Answer → Type 0
FitFaults night pins plan (Some a) = IsUnfit night pins plan (reply_of a)
FitFaults night pins plan None = IsFit night pins plan

-- a plan and a certificate are written as by `pinned`, and the plan costs no more than the one in hand
abbrev pub IsBettered : List Block → Plan → ℕ → List ℕ → List ℕ → Night → Reply → Type 0
IsBettered pins plan most p k night r = IsPlannedAt (λ cost. cost ≤ total_cost night plan.blocks) pins most p k night r

-- the answer over usable pins: what is wrong with an unfit plan in hand, or a plan that costs no more than a fit one
abbrev pub IsImprovedBeside : List Block → Plan → ℕ → List ℕ → List ℕ → Night → Reply → Type 0
IsImprovedBeside pins plan most p k night r = IsUnfit night pins plan r ⊎ (IsFit night pins plan × IsBettered pins plan most p k night r)

-- the answer of `improve` on a night, pins in it and a plan in hand: what is wrong with pins that aren't usable comes first
abbrev pub IsImproved : ℕ → List ℕ → List ℕ → Pinned × Plan → Reply → Type 0
IsImproved most p k x r = IsUnusable x.0.instance x.0.pins r ⊎ (AreUsable x.0.instance x.0.pins × IsImprovedBeside x.0.pins x.1 most p k x.0.instance r)

-- the pins are usable, and the plan in hand is feasible, states its cost and keeps them
pub record IsInHand (x : Pinned × Plan) : Type 0 where
  pub usable : AreUsable x.0.instance x.0.pins
  pub clean : IsClean (x.0.instance, x.1)
  pub keeps : Keeps x.1.blocks x.0.pins
