-- Which unit can go with which position, and lists that give each unit a position.
use Rattle.std.specs.Prelude.{◌≡◌, ℕ, ◌<◌, ◌≤◌, Bool, true, false, not, ◌&&◌, ◌==◌, List, [], map, length, slice_index, slice_index_or}
use Rattle.shunt_lists.specs.defs.Below.{count_below}
use Rattle.shunt_instance.specs.defs.Instance.{Night, units_of, positions_of, ready_of, leaves_of}

-- a unit: its type, and the minute from which it is ready; or a position: its type, and the minute at which it leaves
pub record Entry : Type 0 where
  pub kind : ℕ
  pub minute : ℕ

-- the unit or position of this number
abbrev pub entry_at : List Entry → ℕ → Entry
entry_at entries i = slice_index_or entries i (record { kind = 0; minute = 0 })

-- whether this number isn't left out: the mask has no true there
abbrev pub is_in_rest : List Bool → ℕ → Bool
is_in_rest mask i = not (slice_index_or mask i false)

-- this number is that of an entry of the rest
pub record IsOfRest (entries : List Entry) (mask : List Bool) (i : ℕ) : Type 0 where
  pub there : i < length entries
  pub left : is_in_rest mask i ≡ true

-- a unit and a position are matchable where their types are equal and the position leaves no earlier than the unit is ready
pub record IsMatchable (unit position : Entry) : Type 0 where
  pub kind : unit.kind ≡ position.kind
  pub ready : unit.minute ≤ position.minute

-- the position that the list gives this unit
abbrev pub place_of : List ℕ → ℕ → ℕ
place_of place u = slice_index place u

-- how many units of the rest are given the position v
abbrev pub times_given : List Entry → List Bool → List ℕ → ℕ → ℕ
times_given us um place v = count_below (length us) (λ u. is_in_rest um u && (place_of place u == v))

-- a list that gives each unit of the rest one matchable position of the rest, so that each position of the rest is given exactly once
pub record IsMatchingOfRest (us vs : List Entry) (um vm : List Bool) (place : List ℕ) : Type 0 where
  pub same_length : length place ≡ length us
  pub given : (u : ℕ) → IsOfRest us um u → IsOfRest vs vm (place_of place u)
  pub serves : (u : ℕ) → IsOfRest us um u → IsMatchable (entry_at us u) (entry_at vs (place_of place u))
  pub once : (v : ℕ) → IsOfRest vs vm v → times_given us um place v ≡ 1

-- a list that gives each unit one matchable position, so that each position is given exactly once: a matching of the rest with nothing left out
abbrev pub IsMatching : List Entry → List Entry → List ℕ → Type 0
IsMatching us vs place = IsMatchingOfRest us vs [] [] place

-- the units of a night by their numbers, each with its type and the minute from which it is ready
abbrev pub unit_entries : Night → List Entry
unit_entries night = map (λ u. record { kind = u.kind.0; minute = ready_of night.station night.arrive u }) (units_of night.arrive)

-- the positions of a night by their numbers, each with its type and the minute at which it leaves
abbrev pub position_entries : Night → List Entry
position_entries night = map (λ v. record { kind = v.kind.0; minute = leaves_of night.depart v }) (positions_of night.depart)

-- along the entries of each type the minute never falls
abbrev pub RisesByKind : List Entry → Type 0
RisesByKind entries = (i j : ℕ) → i < j → j < length entries → (entry_at entries i).kind ≡ (entry_at entries j).kind → (entry_at entries i).minute ≤ (entry_at entries j).minute
