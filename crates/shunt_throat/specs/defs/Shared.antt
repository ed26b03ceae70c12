-- What the files of `drivers` state, and its answer.
use Rattle.std.specs.Prelude.{◌≡◌, ℕ, List, [], ◌∷◌, Option, Result, Ok}
use Rattle.shunt_store.specs.defs.Files.{Files, content}
use Rattle.shunt_inputs.specs.declared.answers.Outcome.TheVariants as outcome
use Rattle.shunt_instance.specs.defs.Instance.{Night}
use Rattle.shunt_plan.specs.declared.records.Plan.{Plan}
use Rattle.shunt_rows.specs.defs.Records.{text_of_rows}
use Rattle.shunt_report.specs.defs.DriversTexts.{sharing_of}
use Rattle.shunt_drivers.specs.declared.records.Duty.{Duty}
use Rattle.shunt_drivers.specs.defs.RosterFormat.{IsRoster}
use Rattle.shunt_drivers.specs.defs.RosterRows.{rows_of as roster_rows}
use Rattle.shunt_drivers.specs.defs.Shared.{IsFewest}
use Rattle.shunt_zones.specs.defs.Moves.{moves_of}
use Rattle.shunt_drivers.specs.declared.records.Crew.{Crew}
use Rattle.shunt_inputs.specs.defs.Inputs.{then_stated, stated_plans, stated_crew}
use Rattle.shunt_inputs.specs.defs.Replies.{Reply}

-- a night, a plan in it, and how long drivers are with moves
pub record Sharable : Type 0 where
  pub night : Night
  pub plan : Plan
  pub crew : Crew

-- those that a station file, a timetable file, a plan file and a crew file state, or the line for the first of them that isn't
-- accepted
unfoldable pub stated_sharing : List ℕ → List ℕ → List ℕ → List ℕ → Result Sharable (List ℕ)
stated_sharing s t p c = then_stated (stated_plans s t p) (λ x. then_stated (stated_crew x.0 c) (λ crew. Ok (record { night = x.0; plan = x.1; crew = crew })))

-- the same of what the files of these names hold
abbrev pub sharing_in : List ℕ → List ℕ → List ℕ → List ℕ → Files → Result Sharable (List ℕ)
sharing_in s t p c files = stated_sharing (content files s) (content files t) (content files p) (content files c)

-- the answer of `drivers` on a plan: duties of its moves are written as a roster, and told, which share them among as few drivers as
-- can be
pub record IsShared (file : List ℕ) (x : Sharable) (r : Reply) : Type 0 where
  pub duties : List Duty
  pub drivers : ℕ
  pub busy : Option ℕ
  pub fewest : IsFewest x.night x.crew (moves_of x.night x.plan.blocks) duties drivers busy
  pub roster : IsRoster (moves_of x.night x.plan.blocks) duties
  pub reply : r ≡ record { outcome = outcome.Done; writes = (file, text_of_rows (roster_rows duties)) ∷ []; text = sharing_of duties drivers busy }
