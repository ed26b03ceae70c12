-- The moves of a plan, shared among drivers.
use Rattle.std.specs.Prelude.{◌≡◌, ℕ, ◌≤◌, true, All, List, map, length, Option}
use Rattle.shunt_lists.specs.defs.Members.{In, AreDistinct}
use Rattle.shunt_instance.specs.defs.Instance.{Night}
use Rattle.shunt_tracks.specs.declared.run.Event.{Event}
use Rattle.shunt_zones.specs.defs.Meetings.{Before}
use Rattle.shunt_drivers.specs.declared.records.Crew.{Crew}
use Rattle.shunt_drivers.specs.declared.records.Duty.{Duty}
use Rattle.shunt_drivers.specs.defs.SharedMoves.{runs_at, IsBusy}
use Rattle.shunt_drivers.specs.defs.RosterFormat.{name_of, named_by}
use Rattle.shunt_drivers.specs.defs.Spans.{span_of, spans_of}

-- it is one of these duties, and that of a move
abbrev pub IsDutyOf : List Duty → Event → Duty → Type 0
IsDutyOf duties e d = In d duties × (named_by d ≡ name_of e)

-- one of these duties is that of a move
abbrev pub HasDuty : List Duty → Event → Type 0
HasDuty duties e = (d : Duty) × IsDutyOf duties e d

-- one driver has both duties, and there is a minute at which both moves run
pub record Overlap (night : Night) (crew : Crew) (duties : List Duty) (e f : Event) (a b : Duty) : Type 0 where
  pub first : IsDutyOf duties e a
  pub second : IsDutyOf duties f b
  pub driver : a.driver ≡ b.driver
  pub minute : ℕ
  pub runs : runs_at minute (span_of night crew e) ≡ true
  pub runs_too : runs_at minute (span_of night crew f) ≡ true

-- each of these moves has one duty, and no two of one driver run at one minute
pub record IsSharingOf (night : Night) (crew : Crew) (moves : List Event) (duties : List Duty) : Type 0 where
  pub each : (e : Event) → In e moves → HasDuty duties e
  pub once : AreDistinct (map named_by duties)
  pub apart : (e f : Event) (a b : Duty) → Before e f moves → Overlap night crew duties e f a b → ⊥

-- the drivers of these duties
abbrev pub drivers_of : List Duty → List ℕ
drivers_of duties = map (λ d. d.driver) duties

-- a sharing of these moves in their order among that many drivers, numbered from 1, each of whom has a move; as many run at the busy
-- minute as there are drivers, and fewer at each before it; and no sharing uses fewer: a list that names all of its drivers is as long
pub record IsFewest (night : Night) (crew : Crew) (moves : List Event) (duties : List Duty) (drivers : ℕ) (busy : Option ℕ) : Type 0 where
  pub in_order : map named_by duties ≡ map name_of moves
  pub sharing : IsSharingOf night crew moves duties
  pub numbered : All (λ d. (1 ≤ d.driver) × (d.driver ≤ drivers)) duties
  pub used : (driver : ℕ) → 1 ≤ driver → driver ≤ drivers → In driver (drivers_of duties)
  pub at_busy : IsBusy (spans_of night crew moves) drivers busy
  pub fewest : (other : List Duty) (names : List ℕ) → IsSharingOf night crew moves other → ((driver : ℕ) → In driver (drivers_of other) → In driver names) → drivers ≤ length names
