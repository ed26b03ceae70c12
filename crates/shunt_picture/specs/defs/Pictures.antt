-- What the picture of a plan shows.
use Rattle.std.specs.Prelude.{◌≡◌, ℕ, ◌+◌, ◌-◌, ◌*◌, ◌/◌, ◌<◌, ◌≤◌, min, max, false, Bool, All, List, map, length, fold, if◌then◌else◌}
use Rattle.std.specs.List.{range_with_len}
use Rattle.shunt_instance.specs.declared.records.UnitType.{UnitType}
use Rattle.shunt_instance.specs.declared.records.Train.{Train}
use Rattle.shunt_instance.specs.defs.Words.{train_at, is_standing}
use Rattle.shunt_instance.specs.defs.Instance.{Night}
use Rattle.shunt_blocks.specs.defs.Lists.{total_cost}
use Rattle.shunt_plan.specs.declared.records.Plan.{Plan}
use Rattle.shunt_audit.specs.defs.Plans.{plan_findings}
use Rattle.shunt_picture.specs.declared.records.LegendType.{LegendType}
use Rattle.shunt_picture.specs.declared.records.Picture.{Picture}
use Rattle.shunt_picture.specs.defs.Words.{kind_words}
use Rattle.shunt_picture.specs.defs.Told.{looses_of}
use Rattle.shunt_picture.specs.defs.Marks.{arrive_mark, depart_mark}
use Rattle.shunt_picture.specs.defs.Lanes.{IsLaneOf}

-- a type in the legend
abbrev pub kind_of : UnitType → LegendType
kind_of t = record { name = t.name; length = t.length; words = kind_words t.name t.length }

-- the lesser of a minute and that of a train that doesn't stand
abbrev pub earlier : ℕ → Train → ℕ
earlier m t = if is_standing t then m else min m t.minute

-- the first minute in which one of these trains moves, or 47:00
abbrev pub first_move : List Train → ℕ
first_move trains = fold earlier 2820 trains

-- the minute of the last of these trains, or 0
abbrev pub last_minute : List Train → ℕ
last_minute trains = (train_at trains (length trains - 1)).minute

-- from when on a night with trains that stand already is shown, an hour before its first move, and any other night
abbrev pub shown_from : Bool → ℕ → ℕ
shown_from stands move = if stands then move - 60 else move

-- the hour of that minute, where trains that stand come first, and the hour after the last train
abbrev pub first_hour : Night → ℕ
first_hour night = shown_from (is_standing (train_at night.arrive 0)) (min (first_move night.arrive) (first_move night.depart)) / 60

abbrev pub last_hour : Night → ℕ
last_hour night = max (max (last_minute night.arrive) (last_minute night.depart) / 60 + 1) (first_hour night + 1)

-- a train that moves does so within these hours, and one that stands isn't past them
pub record IsWithin (from to : ℕ) (t : Train) : Type 0 where
  pub after : is_standing t ≡ false → 60 * from ≤ t.minute
  pub before : t.minute < 60 * to

abbrev pub IsWithinHours : Night → Train → Type 0
IsWithinHours night t = IsWithin (first_hour night) (last_hour night) t

-- the station with its types, the hours in which trains move, the trains with what findings tell of them, a lane for each track, and the
-- blocks that have no stay; findings and cost are those of the audit
pub record IsPictureOf (night : Night) (plan : Plan) (p : Picture) : Type 0 where
  pub station : p.station ≡ night.station.name
  pub kinds : p.kinds ≡ map kind_of night.station.types
  pub from : p.from ≡ first_hour night
  pub to : p.to ≡ last_hour night
  pub findings : p.findings ≡ length (plan_findings night plan)
  pub cost : p.cost ≡ total_cost night plan.blocks
  pub stated : p.stated ≡ plan.cost
  pub arrive : p.arrive ≡ map (arrive_mark night (plan_findings night plan)) (range_with_len 0 (length night.arrive))
  pub depart : p.depart ≡ map (depart_mark night (plan_findings night plan)) (range_with_len 0 (length night.depart))
  pub tracks : map (λ l. l.track.0) p.lanes ≡ range_with_len 0 (length night.station.tracks)
  pub lanes : All (IsLaneOf night (plan_findings night plan) plan.blocks (60 * p.from) (60 * p.to)) p.lanes
  pub loose : p.loose ≡ looses_of night (plan_findings night plan) plan.blocks
