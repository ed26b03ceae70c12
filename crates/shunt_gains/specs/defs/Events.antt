-- Numbers of a night's events without gaps.
use Rattle.std.specs.Prelude.{◌≡◌, ℕ, ◌+◌, ◌-◌, ◌<◌, ◌≤◌, List, length, slice_index_or}
use Rattle.shunt_instance.specs.defs.Words.{train_at}
use Rattle.shunt_instance.specs.defs.Instance.{Night, position_at, unit_total, position_total, first_position}
use Rattle.shunt_stacks.specs.defs.Numbers.{arrives, departs, IsNumbering}
use Rattle.shunt_gains.specs.declared.numbers.Events.{Events}

-- so many positions have left by a minute: those before this number, and none from it on
pub record IsGoneBy (night : Night) (minute gone : ℕ) : Type 0 where
  pub within : gone ≤ position_total night
  pub left : (v : ℕ) → v < gone → departs night v ≤ minute
  pub stay : (v : ℕ) → gone ≤ v → v < position_total night → minute < departs night v

-- so many units come before a minute: those before this number, and none from it on
pub record IsComeBefore (night : Night) (minute come : ℕ) : Type 0 where
  pub within : come ≤ unit_total night
  pub before : (u : ℕ) → u < come → arrives night u < minute
  pub later : (u : ℕ) → come ≤ u → u < unit_total night → minute ≤ arrives night u

-- how many positions leave before one, of their departing trains alone: those of earlier trains, and the later places of its own
abbrev pub places_before : Night → ℕ → ℕ
places_before night v = first_position night (position_at night v).train.0 + (length (train_at night.depart (position_at night v).train.0).units - (position_at night v).place)

-- the number of a unit's entry: before it come the earlier units, and the positions that have left by then
abbrev pub IsEntryNumber : Night → ℕ → ℕ → Type 0
IsEntryNumber night u number = (gone : ℕ) × IsGoneBy night (arrives night u) gone × (number ≡ u + gone)

-- the number of a position's leave: before it come the units that arrive before it, and the positions that leave before it
abbrev pub IsLeaveNumber : Night → ℕ → ℕ → Type 0
IsLeaveNumber night v number = (come : ℕ) × IsComeBefore night (departs night v) come × (number ≡ come + places_before night v)

-- the numbers of all entries, unit by unit
pub record AreEntries (night : Night) (numbers : List ℕ) : Type 0 where
  pub long : length numbers ≡ unit_total night
  pub each : (u : ℕ) → u < unit_total night → IsEntryNumber night u (slice_index_or numbers u 0)

-- the numbers of all leaves, position by position
pub record AreLeaves (night : Night) (numbers : List ℕ) : Type 0 where
  pub long : length numbers ≡ position_total night
  pub each : (v : ℕ) → v < position_total night → IsLeaveNumber night v (slice_index_or numbers v 0)

-- the number of a unit's entry, and that of a position's leave
abbrev pub entry_of : Events → ℕ → ℕ
entry_of e u = slice_index_or e.entries.items u 0

abbrev pub leave_of : Events → ℕ → ℕ
leave_of e v = slice_index_or e.leaves.items v 0

-- how many events are numbered
abbrev pub events_in : Events → ℕ
events_in e = length e.entries.items + length e.leaves.items

-- one number for each unit and each position, and no more; they rise in the order of the night's events
pub record AreEvents (night : Night) (e : Events) : Type 0 where
  pub entries : length e.entries.items ≡ unit_total night
  pub leaves : length e.leaves.items ≡ position_total night
  pub numbers : IsNumbering night (events_in e) (entry_of e) (leave_of e)
  pub few : events_in e ≤ 320
