-- What the files of `check` state, and its answer.
use Rattle.std.specs.Prelude.{◌≡◌, ℕ, ◌≤◌, List, [], Result, Ok}
use Rattle.shunt_store.specs.defs.Files.{Files, content}
use Rattle.shunt_inputs.specs.declared.answers.Outcome.{Outcome}
use Rattle.shunt_inputs.specs.declared.answers.Outcome.TheVariants as outcome
use Rattle.shunt_instance.specs.defs.Instance.{Night}
use Rattle.shunt_blocks.specs.declared.records.Block.{Block}
use Rattle.shunt_blocks.specs.defs.Lists.{IsFeasible, total_cost}
use Rattle.shunt_plan.specs.declared.records.Plan.{Plan}
use Rattle.shunt_proof.specs.defs.Accepted.{IsAccepted}
use Rattle.shunt_checker.specs.declared.verdict.Verdict.{Verdict}
use Rattle.shunt_checker.specs.declared.verdict.Verdict.TheVariants as verdict
use Rattle.shunt_checker.specs.defs.Verdicts.{IsVerdict}
use Rattle.shunt_report.specs.defs.VerdictTexts.{verdict_of}
use Rattle.shunt_proof.specs.declared.records.Certificate.{Certificate}
use Rattle.shunt_inputs.specs.defs.Inputs.{then_stated, stated_plans, stated_certificate}
use Rattle.shunt_inputs.specs.defs.Replies.{Reply, says}

-- a night, a plan in it, and a certificate that is to be checked with the plan
pub record Checkable : Type 0 where
  pub night : Night
  pub plan : Plan
  pub certificate : Certificate

-- those that a station file, a timetable file, a plan file and a certificate file state, or the line for the first of them that isn't
-- accepted
unfoldable pub stated_check : List ℕ → List ℕ → List ℕ → List ℕ → Result Checkable (List ℕ)
stated_check s t p k = then_stated (stated_plans s t p) (λ x. then_stated (stated_certificate x.0 k)
    (λ certificate. Ok (record { night = x.0; plan = x.1; certificate = certificate })))

-- the same of what the files of these names hold
abbrev pub check_in : List ℕ → List ℕ → List ℕ → List ℕ → Files → Result Checkable (List ℕ)
check_in s t p k files = stated_check (content files s) (content files t) (content files p) (content files k)

-- the certificate is accepted with the plan
abbrev pub IsProved : Checkable → Type 0
IsProved x = IsAccepted x.night [] x.plan.blocks x.plan.cost x.certificate

-- the plan is feasible and states its cost, which the certificate has too, and every feasible plan costs at least the certificate's
-- bound
pub record BoundsAll (x : Checkable) : Type 0 where
  pub feasible : IsFeasible x.night x.plan.blocks
  pub states : x.plan.cost ≡ total_cost x.night x.plan.blocks
  pub cost : x.certificate.cost ≡ x.plan.cost
  pub least : (other : List Block) → IsFeasible x.night other → x.certificate.bound ≤ total_cost x.night other

-- a check ends well where it accepts
abbrev pub check_outcome : Verdict → Outcome
check_outcome (verdict.Accepted bound) = outcome.Done
check_outcome (verdict.Rejected row reason) = outcome.Findings

-- the answer of `check` on a plan and a certificate: the verdict is printed
pub record IsChecked (x : Checkable) (r : Reply) : Type 0 where
  pub verdict : Verdict
  pub told : IsVerdict x.night [] x.plan x.certificate verdict
  pub reply : r ≡ says (check_outcome verdict) (verdict_of x.night x.certificate verdict)
