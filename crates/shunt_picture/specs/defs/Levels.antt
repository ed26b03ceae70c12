-- How much stands on a track.
use Rattle.std.specs.Prelude.{ℕ, ◌==◌, nat_le, nat_lt, Bool, ◌&&◌, ◌||◌, List, map, filter, sum_by, if◌then◌else◌}
use Rattle.std.specs.List.{list_any, range_with_len}
use Rattle.shunt_base.specs.declared.keys.Stay.{Stay}
use Rattle.shunt_picture.specs.declared.records.LoadLevel.{LoadLevel}

-- the length of a stay where it stands after a minute, else 0
abbrev pub load_of : ℕ → Stay → ℕ
load_of minute s = if nat_le s.enter.minute minute && nat_lt minute s.leave.minute then s.length else 0

-- these lengths, added up
abbrev pub load_at : List Stay → ℕ → ℕ
load_at stays minute = sum_by (load_of minute) stays

-- the load from a minute on
abbrev pub level_at : List Stay → ℕ → LoadLevel
level_at stays minute = record { minute = minute; load = load_at stays minute }

-- whether a stay begins or ends in a minute
abbrev pub comes_or_goes : ℕ → Stay → Bool
comes_or_goes minute s = (s.enter.minute == minute) || (s.leave.minute == minute)

abbrev pub is_event : List Stay → ℕ → Bool
is_event stays minute = list_any (comes_or_goes minute) stays

-- whether the load is told at a minute: it is the first one, or a stay begins or ends there
abbrev pub is_shown : List Stay → ℕ → ℕ → Bool
is_shown stays first minute = (minute == first) || is_event stays minute

-- the load at the first of that many minutes from one on, and at each at which a stay begins or ends
abbrev pub levels_of : List Stay → ℕ → ℕ → List LoadLevel
levels_of stays from count = map (level_at stays) (filter (is_shown stays from) (range_with_len from count))
