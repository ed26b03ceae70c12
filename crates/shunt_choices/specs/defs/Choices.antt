-- The choices for a unit: shapes that begin there, and their options, in their order.
use Rattle.std.specs.Prelude.{◌≡◌, ◌⊎◌, ℕ, zero, suc, ◌+◌, ◌<◌, Bool, true, false, List, [], ◌∷◌, ◌++◌, map, sum_by, is_ok, if◌then◌else◌, filter, length, slice_index_or, Option, Some, None}
use Rattle.std.specs.List.{flat_map, range_with_len}
use Rattle.std.specs.Option.{IsSomeAnd}
use Rattle.shunt_base.specs.declared.ids.Side.{Side}
use Rattle.shunt_base.specs.declared.ids.Side.TheVariants.{A, B}
use Rattle.shunt_stays.specs.defs.Run.{run_of}
use Rattle.shunt_instance.specs.defs.Instance.{Night, unit_at, position_at, unit_total, position_total}
use Rattle.shunt_blocks.specs.declared.records.Shape.{Shape}
use Rattle.shunt_blocks.specs.declared.records.Block.{Block}
use Rattle.shunt_blocks.specs.declared.records.Park.{Park}
use Rattle.shunt_blocks.specs.defs.Shapes.{unit_from, HasUnit, HasPosition, IsShape, IsPair}
use Rattle.shunt_blocks.specs.defs.Blocks.{IsOption, is_option}
use Rattle.shunt_blocks.specs.defs.Lists.{track_lengths, stays_of, placed}
use Rattle.shunt_choices.specs.defs.Paths.{Masks, masks_of, next_of}
use Rattle.shunt_choices.specs.defs.Free.{is_free_run}
use Rattle.shunt_lists.specs.defs.Members.{In}

-- a shape of uncovered units and positions that begins at a unit
pub record IsFreeShape (night : Night) (covered : Masks) (u : ℕ) (s : Shape) : Type 0 where
  pub shape : IsShape night s
  pub first : unit_from night s ≡ u
  pub units : (k : ℕ) → HasUnit night s k → slice_index_or covered.units k true ≡ false
  pub positions : (k : ℕ) → HasPosition night s k → slice_index_or covered.places k true ≡ false

-- a shape of uncovered units and positions
abbrev pub IsFree : Night → Masks → Shape → Type 0
IsFree night covered s = IsFreeShape night covered (unit_from night s) s

-- all free shapes
pub record AreFreeShapes (night : Night) (covered : Masks) (shapes : List Shape) : Type 0 where
  pub each : (s : Shape) → In s shapes → IsFree night covered s
  pub all : (s : Shape) → IsFree night covered s → In s shapes

-- neither is covered, and they are matchable
pub record IsFreePair (night : Night) (covered : Masks) (u v : ℕ) : Type 0 where
  pub unit : slice_index_or covered.units u true ≡ false
  pub position : slice_index_or covered.places v true ≡ false
  pub pair : IsPair night u v

-- of shapes with one first unit: by the number of units, then by departing train, then by place there
abbrev pub LaterBefore : Shape → Shape → Type 0
LaterBefore s t = (s.n < t.n) ⊎ ((s.n ≡ t.n) × ((s.dep.0 < t.dep.0) ⊎ ((s.dep.0 ≡ t.dep.0) × (s.q < t.q))))

-- the first shape comes before the second: by the first unit, and then by these
abbrev pub ShapeBefore : Shape → Shape → Type 0
ShapeBefore s t = (s.arr.0 < t.arr.0) ⊎ ((s.arr.0 ≡ t.arr.0) × ((s.p < t.p) ⊎ ((s.p ≡ t.p) × LaterBefore s t)))

-- side A comes before side B
abbrev pub SideBefore : Side → Side → Type 0
SideBefore s t = (s ≡ A) × (t ≡ B)

-- tracks ascending, then the side in, then the side out
abbrev pub ParkBefore : Park → Park → Type 0
ParkBefore k l = (k.track.0 < l.track.0) ⊎ ((k.track ≡ l.track) × (SideBefore k.side_in l.side_in ⊎ ((k.side_in ≡ l.side_in) × SideBefore k.side_out l.side_out)))

-- unparked comes first
abbrev pub OptionBefore : Option Park → Option Park → Type 0
OptionBefore o None = ⊥
OptionBefore None (Some l) = Unit {0}
OptionBefore (Some k) (Some l) = ParkBefore k l

-- a choice: a shape with one of its options
pub record Choice : Type 0 where
  pub shape : Shape
  pub option : Option Park

-- a shape of uncovered units and positions that begins at a unit, with one of its options
pub record IsChoice (night : Night) (covered : Masks) (u : ℕ) (c : Choice) : Type 0 where
  pub shape : IsFreeShape night covered u c.shape
  pub option : IsOption night c.shape c.option

-- by shape, and then by option
abbrev pub ChoiceBefore : Choice → Choice → Type 0
ChoiceBefore c d = ShapeBefore c.shape d.shape ⊎ ((c.shape ≡ d.shape) × OptionBefore c.option d.option)

-- a run of n units from u on and of n positions from v on, as a shape
abbrev pub shape_at : Night → ℕ → ℕ → ℕ → Shape
shape_at night u n v = record { arr = (unit_at night u).train; p = (unit_at night u).place; n = n; dep = (position_at night v).train; q = (position_at night v).place }

-- the shapes of that many units that begin at a unit among uncovered units and positions, by their first position
abbrev pub shapes_of_length : Night → Masks → ℕ → ℕ → List Shape
shapes_of_length night covered u n = map (shape_at night u n) (filter (is_free_run night covered u n) (range_with_len 0 (position_total night)))

-- the shapes that begin at a unit among uncovered units and positions: those of one unit, then those of two, and so on
unfoldable pub shapes_of : Night → Masks → ℕ → List Shape
shapes_of night covered u = flat_map (shapes_of_length night covered u) (range_with_len 1 8)

-- a track with its pairs of sides
abbrev pub parks_on : ℕ → List Park
parks_on t = record { track = record { 0 = t }; side_in = A; side_out = A } ∷ record { track = record { 0 = t }; side_in = A; side_out = B } ∷
    record { track = record { 0 = t }; side_in = B; side_out = A } ∷ record { track = record { 0 = t }; side_in = B; side_out = B } ∷ []

-- each track of that many with its pairs of sides
abbrev pub parks_below : ℕ → List Park
parks_below tracks = flat_map parks_on (range_with_len 0 tracks)

-- unparked, and each track with its pairs of sides
abbrev pub candidates : ℕ → List (Option Park)
candidates tracks = None ∷ map Some (parks_below tracks)

-- the options of a shape
unfoldable pub options_of : Night → Shape → List (Option Park)
options_of night s = filter (is_option night s) (candidates (length night.station.tracks))

-- each option of a shape with it
abbrev pub choices_with : Night → Shape → List Choice
choices_with night s = map (λ o. record { shape = s; option = o }) (options_of night s)

-- the choices for a unit: each shape that begins there with each of its options
abbrev pub choices_of : Night → Masks → ℕ → List Choice
choices_of night covered u = flat_map (choices_with night) (shapes_of night covered u)

-- the block of a choice, with an id
abbrev pub chosen : ℕ → Choice → Block
chosen id c = record { id = id; arr = c.shape.arr; p = c.shape.p; n = c.shape.n; dep = c.shape.dep; q = c.shape.q; park = c.option }

-- a choice at a list of blocks: one for its least uncovered unit
abbrev pub IsChoiceAt : Night → List Block → Choice → Type 0
IsChoiceAt night blocks c = IsSomeAnd (next_of (masks_of night blocks)) (λ u. IsChoice night (masks_of night blocks) u c)

-- the choices for a unit that may be there
abbrev pub choices_where : Night → Masks → Option ℕ → List Choice
choices_where night covered None = []
choices_where night covered (Some u) = choices_of night covered u

-- the choices at a list of blocks in their order
abbrev pub choices_at : Night → List Block → List Choice
choices_at night blocks = choices_where night (masks_of night blocks) (next_of (masks_of night blocks))

-- the blocks with the block of a choice
abbrev pub longer_by : List Block → Choice → List Block
longer_by blocks c = blocks ++ chosen (length blocks + 1) c ∷ []

-- whether the run of these blocks goes through, with their places as ids
abbrev pub runs_placed : Night → List Block → Bool
runs_placed night blocks = is_ok (run_of (track_lengths night.station) (stays_of night (placed blocks)))

-- how many partial plans begin with these blocks and add at most that many: these alone, and those that begin with one more block of a
-- choice whose run goes through
unfoldable pub plans_from : ℕ → Night → List Block → ℕ
plans_from zero night blocks = 1
plans_from (suc more) night blocks = 1 + sum_by (λ c. if runs_placed night (longer_by blocks c) then plans_from more night (longer_by blocks c) else 0) (choices_at night blocks)

-- how many partial plans begin with these pins: each further block has a unit
abbrev pub partial_plans : Night → List Block → ℕ
partial_plans night pins = plans_from (unit_total night) night pins
