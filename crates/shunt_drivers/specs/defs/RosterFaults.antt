-- What is at fault with a roster.
use Rattle.std.specs.Prelude.{◌≡◌, ◌↔◌, ℕ, ◌==◌, nat_lt, Bool, ◌&&◌, List, [], ◌∷◌, ◌++◌, find, Option, Some, None, option_map}
use Rattle.std.specs.List.{filter_map}
use Rattle.std.specs.Option.{is_none, option_or}
use Rattle.shunt_lists.specs.defs.Members.{In}
use Rattle.shunt_instance.specs.defs.Instance.{Night}
use Rattle.shunt_plan.specs.declared.records.Plan.{Plan}
use Rattle.shunt_tracks.specs.declared.run.Event.{Event}
use Rattle.shunt_zones.specs.defs.Meetings.{Before}
use Rattle.shunt_zones.specs.defs.Moves.{moves_of}
use Rattle.shunt_drivers.specs.declared.records.Crew.{Crew}
use Rattle.shunt_drivers.specs.declared.records.Duty.{Duty}
use Rattle.shunt_drivers.specs.declared.records.RosterFault.{RosterFault}
use Rattle.shunt_drivers.specs.declared.records.RosterFault.TheVariants as faults
use Rattle.shunt_drivers.specs.declared.faults.Task.{Task}
use Rattle.shunt_drivers.specs.defs.RosterFormat.{is_one, name_of, named_by}
use Rattle.shunt_drivers.specs.defs.Spans.{span_of}
use Rattle.shunt_drivers.specs.defs.Shared.{HasDuty, Overlap, IsSharingOf}

-- the duty of a move among these
abbrev pub duty_for : List Duty → Event → Option Duty
duty_for duties e = find (λ d. is_one (named_by d) (name_of e)) duties

-- what Absent names of a move
abbrev pub absence_of : Event → RosterFault
absence_of e = faults.Absent e.key.enters e.key.id

-- Absent with the first of these moves that has no duty
abbrev pub absent_in : List Duty → List Event → Option RosterFault
absent_in duties moves = option_map absence_of (find (λ e. is_none (duty_for duties e)) moves)

-- the duty of a move with when it runs
abbrev pub task_of : Night → Crew → List Duty → Event → Option Task
task_of night crew duties e = option_map (λ d. record { span = span_of night crew e; duty = d }) (duty_for duties e)

-- those of the moves that have a duty, in the moves' order
abbrev pub tasks_of : Night → Crew → List Duty → List Event → List Task
tasks_of night crew duties moves = filter_map (task_of night crew duties) moves

-- whether one driver has both, and one begins before the other ends, each way
abbrev pub overlaps : Task → Task → Bool
overlaps a b = a.duty.driver == b.duty.driver && nat_lt a.span.start b.span.end && nat_lt b.span.start a.span.end

-- what Overlap names of two
abbrev pub overlap_of : Task → Task → RosterFault
overlap_of a b = faults.Overlap a.duty b.duty

-- Overlap with a task and the first of these that overlaps it
abbrev pub overlap_with : Task → List Task → Option RosterFault
overlap_with a later = option_map (overlap_of a) (find (overlaps a) later)

-- Overlap with the first pair of these, by the first and then the second
abbrev pub overlap_in : List Task → Option RosterFault
overlap_in [] = None
overlap_in (a ∷ later) = option_or (overlap_with a later) (overlap_in later)

-- the fault of a roster of these moves
abbrev pub fault_of : Night → Crew → List Event → List Duty → Option RosterFault
fault_of night crew moves duties = option_or (absent_in duties moves) (overlap_in (tasks_of night crew duties moves))

-- the fault of a roster of a plan's moves
unfoldable pub fault_in : Night → Crew → Plan → List Duty → Option RosterFault
fault_in night crew plan duties = fault_of night crew (moves_of night plan.blocks) duties

-- the move with this word and id is the first without a duty
pub record IsFirstAbsent (moves : List Event) (duties : List Duty) (enters : Bool) (id : ℕ) : Type 0 where
  pub before : List Event
  pub move : Event
  pub after : List Event
  pub place : moves ≡ before ++ move ∷ after
  pub had : (e : Event) → In e before → HasDuty duties e
  pub absent : HasDuty duties move → ⊥
  pub named : name_of move ≡ (enters, id)

-- each move has a duty, and these two are of the first pair that overlaps: none overlaps whose first move comes earlier, nor one
-- with the same first move whose second comes earlier
pub record IsFirstOverlap (night : Night) (crew : Crew) (moves : List Event) (duties : List Duty) (a b : Duty) : Type 0 where
  pub each : (e : Event) → In e moves → HasDuty duties e
  pub before : List Event
  pub first : Event
  pub between : List Event
  pub second : Event
  pub after : List Event
  pub place : moves ≡ (before ++ first ∷ between) ++ second ∷ after
  pub overlap : Overlap night crew duties first second a b
  pub earlier : (e f : Event) (c d : Duty) → In e before → Before e f moves → Overlap night crew duties e f c d → ⊥
  pub nearer : (f : Event) (d : Duty) → In f between → Overlap night crew duties first f a d → ⊥

-- what the fault of a roster says: None, a sharing; Absent, the first move without a duty; Overlap, the first pair that overlaps
pub record InWords (night : Night) (crew : Crew) (plan : Plan) (duties : List Duty) : Type 0 where
  pub none : (fault_in night crew plan duties ≡ None) ↔ IsSharingOf night crew (moves_of night plan.blocks) duties
  pub absent : (enters : Bool) (id : ℕ) → (fault_in night crew plan duties ≡ Some (faults.Absent enters id)) ↔ IsFirstAbsent (moves_of night plan.blocks) duties enters id
  pub overlap : (a b : Duty) → (fault_in night crew plan duties ≡ Some (faults.Overlap a b)) ↔ IsFirstOverlap night crew (moves_of night plan.blocks) duties a b
