-- What the files of `roster` state, and its answer.
use Rattle.std.specs.Prelude.{◌≡◌, ℕ, List, Option, None, Some, Result, Ok}
use Rattle.shunt_store.specs.defs.Files.{Files, content}
use Rattle.shunt_inputs.specs.declared.answers.Outcome.{Outcome}
use Rattle.shunt_inputs.specs.declared.answers.Outcome.TheVariants as outcome
use Rattle.shunt_instance.specs.defs.Instance.{Night}
use Rattle.shunt_plan.specs.declared.records.Plan.{Plan}
use Rattle.shunt_report.specs.defs.DriversTexts.{roster_of}
use Rattle.shunt_drivers.specs.declared.records.Duty.{Duty}
use Rattle.shunt_drivers.specs.declared.records.RosterFault.{RosterFault}
use Rattle.shunt_drivers.specs.defs.RosterFaults.{fault_in}
use Rattle.shunt_drivers.specs.defs.Shared.{IsSharingOf}
use Rattle.shunt_zones.specs.defs.Moves.{moves_of}
use Rattle.shunt_drivers.specs.declared.records.Crew.{Crew}
use Rattle.shunt_inputs.specs.defs.Inputs.{then_stated, stated_roster}
use Rattle.shunt_inputs.specs.defs.Replies.{Reply, says}
use Rattle.shunt_throat.specs.defs.Shared.{stated_sharing}

-- a night, a plan in it, how long drivers are with moves, and duties of the plan's moves
pub record Rosterable : Type 0 where
  pub night : Night
  pub plan : Plan
  pub crew : Crew
  pub duties : List Duty

-- those that a station file, a timetable file, a plan file, a crew file and a roster file state, or the line for the first of them
-- that isn't accepted
unfoldable pub stated_rostering : List ℕ → List ℕ → List ℕ → List ℕ → List ℕ → Result Rosterable (List ℕ)
stated_rostering s t p c d = then_stated (stated_sharing s t p c) (λ x. then_stated (stated_roster x.night x.plan d)
    (λ duties. Ok (record { night = x.night; plan = x.plan; crew = x.crew; duties = duties })))

-- the same of what the files of these names hold
abbrev pub rostering_in : List ℕ → List ℕ → List ℕ → List ℕ → List ℕ → Files → Result Rosterable (List ℕ)
rostering_in s t p c d files = stated_rostering (content files s) (content files t) (content files p) (content files c) (content files d)

-- each move of the plan has one duty, and no two of one driver run at one minute
abbrev pub SharesAll : Rosterable → Type 0
SharesAll x = IsSharingOf x.night x.crew (moves_of x.night x.plan.blocks) x.duties

-- a roster ends well where it has no fault
abbrev pub roster_outcome : Option RosterFault → Outcome
roster_outcome None = outcome.Done
roster_outcome (Some f) = outcome.Findings

-- the answer of `roster` on a plan and duties: their fault is printed, or the number of drivers
abbrev pub IsRostered : Rosterable → Reply → Type 0
IsRostered x r = r ≡ says (roster_outcome (fault_in x.night x.crew x.plan x.duties)) (roster_of x.duties (fault_in x.night x.crew x.plan x.duties))
