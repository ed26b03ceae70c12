-- What the files of `zones` state, and its answer.
use Rattle.std.specs.Prelude.{◌≡◌, ℕ, List, [], ◌∷◌, Result, Ok}
use Rattle.shunt_store.specs.defs.Files.{Files, content}
use Rattle.shunt_inputs.specs.declared.answers.Outcome.{Outcome}
use Rattle.shunt_inputs.specs.declared.answers.Outcome.TheVariants as outcome
use Rattle.shunt_instance.specs.defs.Instance.{Night}
use Rattle.shunt_plan.specs.declared.records.Plan.{Plan}
use Rattle.shunt_report.specs.defs.ZonesTexts.{zones_of}
use Rattle.shunt_tracks.specs.declared.run.Event.{Event}
use Rattle.shunt_zones.specs.declared.records.Meet.{Meet}
use Rattle.shunt_zones.specs.defs.Loads.{loads_in}
use Rattle.shunt_zones.specs.defs.Meetings.{Before, MeetIn, meets_in}
use Rattle.shunt_zones.specs.defs.Moves.{moves_of}
use Rattle.shunt_zones.specs.declared.records.Zones.{Zones as ThroatZones}
use Rattle.shunt_inputs.specs.defs.Inputs.{then_stated, stated_plans, stated_zones}
use Rattle.shunt_inputs.specs.defs.Replies.{Reply, says}

-- a night, a plan in it, and the zones of its throat
pub record Passable : Type 0 where
  pub night : Night
  pub plan : Plan
  pub zones : ThroatZones

-- those that a station file, a timetable file, a plan file and a zones file state, or the line for the first of them that isn't
-- accepted
unfoldable pub stated_passing : List ℕ → List ℕ → List ℕ → List ℕ → Result Passable (List ℕ)
stated_passing s t p z = then_stated (stated_plans s t p) (λ x. then_stated (stated_zones x.0 z) (λ zones. Ok (record { night = x.0; plan = x.1; zones = zones })))

-- the same of what the files of these names hold
abbrev pub passing_in : List ℕ → List ℕ → List ℕ → List ℕ → Files → Result Passable (List ℕ)
passing_in s t p z files = stated_passing (content files s) (content files t) (content files p) (content files z)

-- no two moves of the plan, of which the first comes earlier in key order, meet in a zone
abbrev pub NoneMeet : Passable → Type 0
NoneMeet x = (e f : Event) (zone : ℕ) → Before e f (moves_of x.night x.plan.blocks) → MeetIn x.night x.zones e f zone → ⊥

-- what passes the zones ends well where nothing meets
abbrev pub meets_outcome : List Meet → Outcome
meets_outcome [] = outcome.Done
meets_outcome (m ∷ meets) = outcome.Findings

-- the answer of `zones` on a plan: its meets, and the load of each zone, are printed
abbrev pub IsPassed : Passable → Reply → Type 0
IsPassed x r = r ≡ says (meets_outcome (meets_in x.night x.zones x.plan)) (zones_of x.zones (meets_in x.night x.zones x.plan) (loads_in x.night x.zones x.plan))
