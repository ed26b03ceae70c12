-- The blocks that stand on tracks while orders are followed.
use Rattle.std.specs.Prelude.{ℕ, ◌+◌, ◌==◌, not, List, [], ◌∷◌, ◌++◌, filter, find, fold, take, drop, sum_by, position, Option, Some, None, option_map, if◌then◌else◌}
use Rattle.shunt_base.specs.declared.ids.Side.{Side}
use Rattle.shunt_base.specs.declared.ids.Side.TheVariants.{A, B}
use Rattle.shunt_sheet.specs.declared.records.Order.{Order}
use Rattle.shunt_page.specs.declared.occupancy.Stood.{Stood}

-- a block that an order puts on its track
abbrev pub stood_by : Order → Stood
stood_by o = record { id = o.id; track = o.track; length = o.length }

-- all tracks in one list: of two blocks of a track the one nearer its A end comes first
abbrev pub put : Side → Stood → List Stood → List Stood
put A s stood = s ∷ stood
put B s stood = stood ++ s ∷ []

-- the others
abbrev pub without : ℕ → List Stood → List Stood
without id stood = filter (λ s. not (s.id == id)) stood

-- what stands after an order; a leave takes its block away wherever it stands
abbrev pub after : List Stood → Order → List Stood
after stood o = if o.enters then put o.side (stood_by o) stood else without o.id stood

-- the length of a block where it stands on a track, else 0
abbrev pub length_on : ℕ → Stood → ℕ
length_on track s = if s.track.0 == track then s.length else 0

-- what stands on a track, in dm
abbrev pub load_on : ℕ → List Stood → ℕ
load_on track stood = sum_by (length_on track) stood

-- the block nearest the A end of a track, and the one nearest the B end
abbrev pub first_on : ℕ → List Stood → Option ℕ
first_on track stood = option_map (λ s. s.id) (find (λ s. s.track.0 == track) stood)

abbrev pub later_on : ℕ → Option ℕ → Stood → Option ℕ
later_on track last s = if s.track.0 == track then Some s.id else last

abbrev pub last_on : ℕ → List Stood → Option ℕ
last_on track stood = fold (later_on track) None stood

-- the place of the block with an id, from 0
abbrev pub place_of : ℕ → List Stood → Option ℕ
place_of id stood = position (λ s. s.id == id) stood

-- the block in front of which one stands that enters by a side, or the one that stands in the way of one that leaves by it
abbrev pub met : Side → ℕ → List Stood → Option ℕ
met A track stood = first_on track stood
met B track stood = last_on track stood

abbrev pub next_to : Side → ℕ → List Stood → Option ℕ → Option ℕ
next_to side track stood None = None
next_to A track stood (Some k) = last_on track (take k stood)
next_to B track stood (Some k) = first_on track (drop (k + 1) stood)

abbrev pub in_way : Side → ℕ → ℕ → List Stood → Option ℕ
in_way side track id stood = next_to side track stood (place_of id stood)

abbrev pub beside : List Stood → Order → Option ℕ
beside stood o = if o.enters then met o.side o.track.0 stood else in_way o.side o.track.0 o.id stood
