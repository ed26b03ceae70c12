-- What the files of `compare` state, and its answer.
use Rattle.std.specs.Prelude.{◌≡◌, ◌⊎◌, ℕ, List, [], ◌∷◌, Result, Ok}
use Rattle.shunt_store.specs.defs.Files.{Files, content}
use Rattle.shunt_instance.specs.defs.Instance.{Night}
use Rattle.shunt_blocks.specs.declared.records.Block.{Block}
use Rattle.shunt_blocks.specs.defs.Lists.{total_cost}
use Rattle.shunt_blocks.specs.defs.Pins.{Keeps}
use Rattle.shunt_plan.specs.declared.records.Plan.{Plan}
use Rattle.shunt_audit.specs.defs.Plans.{ArePlanFindings}
use Rattle.shunt_compare.specs.declared.records.Change.{Change}
use Rattle.shunt_compare.specs.declared.records.Comparison.{Comparison}
use Rattle.shunt_compare.specs.defs.Changes.{IsComparison}
use Rattle.shunt_report.specs.defs.ComparisonTexts.{comparison_of}
use Rattle.shunt_inputs.specs.declared.answers.Outcome.{Outcome}
use Rattle.shunt_inputs.specs.declared.answers.Outcome.TheVariants as outcome
use Rattle.shunt_inputs.specs.defs.Inputs.{then_stated, stated_plans, stated_other}
use Rattle.shunt_inputs.specs.defs.Replies.{Reply, says}
use Rattle.shunt_judging.specs.defs.Audited.{IsClean, IsFaulty}

-- a night with two plans in it
pub record Comparable : Type 0 where
  pub night : Night
  pub plan : Plan
  pub other : Plan

-- those that a station file, a timetable file and two plan files state, or the line for the first of them that isn't accepted
unfoldable pub stated_comparison : List ℕ → List ℕ → List ℕ → List ℕ → Result Comparable (List ℕ)
stated_comparison s t p o = then_stated (stated_plans s t p) (λ x. then_stated (stated_other x.0 o) (λ other. Ok (record { night = x.0; plan = x.1; other = other })))

-- the same of what the files of these names hold
abbrev pub comparison_in : List ℕ → List ℕ → List ℕ → List ℕ → Files → Result Comparable (List ℕ)
comparison_in s t p o files = stated_comparison (content files s) (content files t) (content files p) (content files o)

-- both plans are feasible and state their costs, and each keeps the other's blocks, whatever their ids
pub record AreAlike (x : Comparable) : Type 0 where
  pub clean : IsClean (x.night, x.plan)
  pub other_clean : IsClean (x.night, x.other)
  pub keeps : Keeps x.plan.blocks x.other.blocks
  pub kept : Keeps x.other.blocks x.plan.blocks

-- a comparison ends well where nothing is otherwise
abbrev pub compared_outcome : List Change → List Block → Outcome
compared_outcome [] [] = outcome.Done
compared_outcome (c ∷ changes) blocks = outcome.Findings
compared_outcome [] (b ∷ blocks) = outcome.Findings

-- the first plan has no findings, and the other one has some, which are printed
pub record IsOtherFaulty (x : Comparable) (r : Reply) : Type 0 where
  pub none : ArePlanFindings x.night x.plan []
  pub faulty : IsFaulty (x.night, x.other) r

-- neither has findings, and what the other plan does otherwise is printed
pub record HasComparison (x : Comparable) (r : Reply) : Type 0 where
  pub none : ArePlanFindings x.night x.plan []
  pub other_none : ArePlanFindings x.night x.other []
  pub comparison : Comparison
  pub told : IsComparison x.night x.plan.blocks x.other.blocks comparison
  pub reply : r ≡ says (compared_outcome comparison.changes comparison.regrouped)
      (comparison_of x.night comparison (total_cost x.night x.plan.blocks) (total_cost x.night x.other.blocks))

-- the answer of `compare` on two plans
abbrev pub IsCompared : Comparable → Reply → Type 0
IsCompared x r = IsFaulty (x.night, x.plan) r ⊎ (IsOtherFaulty x r ⊎ HasComparison x r)
