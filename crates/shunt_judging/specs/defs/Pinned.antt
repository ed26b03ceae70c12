-- What the files of `check-pinned` state, and its answer.
use Rattle.std.specs.Prelude.{◌≡◌, ◌≤◌, ◌⊎◌, ℕ, List, Result, Ok}
use Rattle.shunt_store.specs.defs.Files.{Files, content}
use Rattle.shunt_instance.specs.defs.Instance.{Night}
use Rattle.shunt_blocks.specs.declared.records.Block.{Block}
use Rattle.shunt_blocks.specs.defs.Lists.{IsFeasible, total_cost}
use Rattle.shunt_blocks.specs.defs.Pins.{AreUsable, Keeps}
use Rattle.shunt_plan.specs.declared.records.Plan.{Plan}
use Rattle.shunt_plan.specs.defs.Plans.{IsFirstLost}
use Rattle.shunt_proof.specs.declared.records.Certificate.{Certificate}
use Rattle.shunt_proof.specs.defs.Accepted.{IsAccepted}
use Rattle.shunt_checker.specs.declared.verdict.Verdict.{Verdict}
use Rattle.shunt_checker.specs.defs.Verdicts.{IsVerdict}
use Rattle.shunt_report.specs.defs.PlanTexts.{lost_of}
use Rattle.shunt_report.specs.defs.VerdictTexts.{verdict_of}
use Rattle.shunt_inputs.specs.declared.answers.Outcome.TheVariants as outcome
use Rattle.shunt_inputs.specs.defs.Inputs.{stated_certificate, stated_pinned, stated_plan, then_stated}
use Rattle.shunt_inputs.specs.defs.Replies.{Reply, says}
use Rattle.shunt_judging.specs.defs.Checked.{check_outcome}
use Rattle.shunt_judging.specs.defs.Pins.{IsUnusable}

-- a night, pins in it, a plan, and a certificate that is to be checked with the plan and the pins
pub record PinChecked : Type 0 where
  pub night : Night
  pub pins : List Block
  pub plan : Plan
  pub certificate : Certificate

-- a plan file and a certificate file over a night and pins in it, or the line for the first of them that isn't accepted
abbrev pub stated_over_pins : Night → List Block → List ℕ → List ℕ → Result PinChecked (List ℕ)
stated_over_pins night pins p k = then_stated (stated_plan night p) (λ plan. then_stated (stated_certificate night k)
    (λ certificate. Ok (record { night = night; pins = pins; plan = plan; certificate = certificate })))

-- those that a station file, a timetable file, a pins file, a plan file and a certificate file state, or the line for the first of them
-- that isn't accepted
unfoldable pub stated_pin_check : List ℕ → List ℕ → List ℕ → List ℕ → List ℕ → Result PinChecked (List ℕ)
stated_pin_check s t i p k = then_stated (stated_pinned s t i) (λ x. stated_over_pins x.instance x.pins p k)

-- the same of what the files of these names hold
abbrev pub pin_check_in : List ℕ → List ℕ → List ℕ → List ℕ → List ℕ → Files → Result PinChecked (List ℕ)
pin_check_in s t i p k files = stated_pin_check (content files s) (content files t) (content files i) (content files p) (content files k)

-- the pins are usable, and the certificate is accepted with the plan, which keeps them
pub record IsPinProved (x : PinChecked) : Type 0 where
  pub usable : AreUsable x.night x.pins
  pub accepted : IsAccepted x.night x.pins x.plan.blocks x.plan.cost x.certificate

-- the pins are usable; the plan is feasible, keeps them and states its cost, which the certificate has too; and every feasible plan that
-- keeps them costs at least the certificate's bound
pub record BoundsKept (x : PinChecked) : Type 0 where
  pub usable : AreUsable x.night x.pins
  pub feasible : IsFeasible x.night x.plan.blocks
  pub keeps : Keeps x.plan.blocks x.pins
  pub states : x.plan.cost ≡ total_cost x.night x.plan.blocks
  pub cost : x.certificate.cost ≡ x.plan.cost
  pub least : (other : List Block) → IsFeasible x.night other → Keeps other x.pins → x.certificate.bound ≤ total_cost x.night other

-- the answer of `check-pinned` on a plan that doesn't keep a pin: the first such pin is printed
pub record IsLost (x : PinChecked) (r : Reply) : Type 0 where
  pub id : ℕ
  pub first : IsFirstLost x.plan.blocks x.pins id
  pub reply : r ≡ says outcome.Findings (lost_of id)

-- the answer of `check-pinned` on a plan that keeps the pins: the verdict is printed
pub record IsPinVerdict (x : PinChecked) (r : Reply) : Type 0 where
  pub keeps : Keeps x.plan.blocks x.pins
  pub verdict : Verdict
  pub told : IsVerdict x.night x.pins x.plan x.certificate verdict
  pub reply : r ≡ says (check_outcome verdict) (verdict_of x.night x.certificate verdict)

-- the answer of `check-pinned`: pins that aren't usable come first, then a pin that isn't kept, then the verdict
abbrev pub IsPinChecked : PinChecked → Reply → Type 0
IsPinChecked x r = IsUnusable x.night x.pins r ⊎ (AreUsable x.night x.pins × (IsLost x r ⊎ IsPinVerdict x r))
