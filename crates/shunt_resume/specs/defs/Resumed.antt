-- What a plan leaves of a night from a minute on.
use Rattle.std.specs.Prelude.{◌≡◌, ℕ, ◌+◌, ◌<◌, ◌≤◌, IsTrue, ◌||◌, Bool, false, not, nat_le, List, [], ◌∷◌, map, flat_map, filter, sum_by, Option, Some, None, is_some, cond, if◌then◌else◌, bytes_eq}
use Rattle.std.specs.List.{range_with_len}
use Rattle.shunt_lists.specs.defs.Members.{In}
use Rattle.shunt_instance.specs.declared.records.PlacedRun.{PlacedRun}
use Rattle.shunt_instance.specs.declared.records.Station.{Station}
use Rattle.shunt_instance.specs.declared.records.Train.{Train}
use Rattle.shunt_instance.specs.declared.records.Timetable.{Timetable}
use Rattle.shunt_instance.specs.defs.Words.{train_at, is_standing}
use Rattle.shunt_instance.specs.defs.Instance.{Night, night_of}
use Rattle.shunt_timetable.specs.defs.TimetableFormat.{with_run}
use Rattle.shunt_blocks.specs.declared.records.Shape.{Shape}
use Rattle.shunt_blocks.specs.declared.records.Block.{Block}
use Rattle.shunt_blocks.specs.declared.records.Park.{Park}
use Rattle.shunt_blocks.specs.defs.Shapes.{shape_of}
use Rattle.shunt_blocks.specs.defs.Ways.{has_placed}
use Rattle.shunt_audit.specs.defs.Listed.{by_id}
use Rattle.shunt_resume.specs.declared.records.Tally.{Tally}

-- whether a block has come by a minute, and whether it has gone
abbrev pub has_come_by : Night → ℕ → Block → Bool
has_come_by night m b = nat_le (train_at night.arrive b.arr.0).minute m

abbrev pub has_gone_by : Night → ℕ → Block → Bool
has_gone_by night m b = nat_le (train_at night.depart b.dep.0).minute m

-- the unit at a place of a block's train
abbrev pub unit_at_place : Block → ℕ → Shape
unit_at_place b place = record (shape_of b) { p = place; n = 1 }

-- the run of a unit alone that was cleared away
abbrev pub cleared : ℕ → PlacedRun
cleared place = record { first = place; count = 1; came_by = None }

-- those of a block's units that haven't come yet
abbrev pub cleared_runs : Night → Block → List PlacedRun
cleared_runs night b = map cleared (filter (λ place. not (has_placed night (unit_at_place b place))) (range_with_len b.p b.n))

-- the run of a block that came to a track
abbrev pub run_of : Block → Park → PlacedRun
run_of b k = record { first = b.p; count = b.n; came_by = Some (record { track = k.track; side = k.side_in }) }

-- the same, where its train doesn't stand and none of its units has come yet
abbrev pub parked_runs : Night → Block → Park → List PlacedRun
parked_runs night b k = if is_standing (train_at night.arrive b.arr.0) || has_placed night (shape_of b) then [] else run_of b k ∷ []

-- what comes of a block by its option
abbrev pub option_runs : Night → Block → Option Park → List PlacedRun
option_runs night b None = cleared_runs night b
option_runs night b (Some k) = parked_runs night b k

-- what has come of a block by a minute, and had not come before
unfoldable pub new_runs : Night → ℕ → Block → List PlacedRun
new_runs night m b = if has_come_by night m b then option_runs night b b.park else []

-- the same, where its train has a name
abbrev pub runs_for : Night → ℕ → List ℕ → Block → List PlacedRun
runs_for night m name b = if bytes_eq (train_at night.arrive b.arr.0).name name then new_runs night m b else []

-- that of all blocks of the train with a name
abbrev pub train_runs : Night → ℕ → List Block → List ℕ → List PlacedRun
train_runs night m blocks name = flat_map (runs_for night m name) blocks

-- runs with more, put among them one after the other
abbrev pub with_runs : List PlacedRun → List PlacedRun → List PlacedRun
with_runs [] runs = runs
with_runs (r ∷ more) runs = with_runs more (with_run r runs)

-- a train with what has come of it by a minute, as a plan's blocks have it
abbrev pub resumed_train : Night → ℕ → List Block → Train → Train
resumed_train night m blocks t = record t { placed = with_runs (train_runs night m blocks t.name) t.placed }

-- a timetable with what has come by a minute
abbrev pub resumed : Night → ℕ → List Block → Timetable → Timetable
resumed night m blocks t = record t { arrive = map (resumed_train night m blocks) t.arrive }

-- the night from a minute on
abbrev pub next_night : Station → Timetable → ℕ → List Block → Night
next_night s t m blocks = night_of s (resumed (night_of s t) m blocks t)

-- the blocks that have gone by a minute, by ascending id
unfoldable pub gone : Night → ℕ → List Block → List Block
gone night m blocks = by_id (filter (has_gone_by night m) blocks)

-- a parked block is one of the placed runs of its train, and came to its track by its side
pub record IsPlacedAsItIs (night : Night) (b : Block) (k : Park) : Type 0 where
  pub run : PlacedRun
  pub there : In run (train_at night.arrive b.arr.0).placed
  pub first : run.first ≡ b.p
  pub count : run.count ≡ b.n
  pub came_by : run.came_by ≡ Some (record { track = k.track; side = k.side_in })

-- how many of these runs stand on a track, and how many were cleared away
abbrev pub parked_in : List PlacedRun → ℕ
parked_in runs = sum_by (λ r. cond (is_some r.came_by) 1 0) runs

abbrev pub cleared_in : List PlacedRun → ℕ
cleared_in runs = sum_by (λ r. cond (is_some r.came_by) 0 1) runs

-- the same of all trains of a timetable
abbrev pub tally_of : Timetable → Tally
tally_of t = record { parked = sum_by (λ r. parked_in r.placed) t.arrive; cleared = sum_by (λ r. cleared_in r.placed) t.arrive }

-- two blocks of one train have a unit in common
pub record ShareUnits (b c : Block) : Type 0 where
  pub train : b.arr.0 ≡ c.arr.0
  pub before : c.p < b.p + b.n
  pub behind : b.p < c.p + c.n

-- a block has just the units of another one, and comes to its track by its side
pub record IsAsItCame (b : Block) (k : Park) (c : Block) (j : Park) : Type 0 where
  pub first : c.p ≡ b.p
  pub count : c.n ≡ b.n
  pub track : j.track ≡ k.track
  pub side_in : j.side_in ≡ k.side_in

-- Other blocks leave what has come by a minute as a plan's blocks have it. Where one of these came to a track, and its train doesn't stand, each
-- parked block with one of its units is as it came; and no parked block has a unit that was cleared away and had not come before.
pub record LeaveAsItCame (night : Night) (m : ℕ) (blocks others : List Block) : Type 0 where
  pub parked : (b : Block) (k : Park) (c : Block) (j : Park) → In b blocks → IsTrue (has_come_by night m b) → b.park ≡ Some k
      → is_standing (train_at night.arrive b.arr.0) ≡ false → In c others → c.park ≡ Some j → ShareUnits b c → IsAsItCame b k c j
  pub cleared : (b c : Block) (j : Park) (place : ℕ) → In b blocks → IsTrue (has_come_by night m b) → b.park ≡ None → In c others → c.park ≡ Some j
      → b.arr.0 ≡ c.arr.0 → b.p ≤ place → place < b.p + b.n → c.p ≤ place → place < c.p + c.n → IsTrue (has_placed night (unit_at_place b place))
