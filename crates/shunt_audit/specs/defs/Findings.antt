-- What the findings of a list of blocks are, and their order.
use Rattle.std.specs.Prelude.{◌≡◌, ◌⊎◌, ◌↔◌, ℕ, ◌<◌, ◌≤◌, IsTrue, IsSome, AllPairs, slice_index, List, None}
use Rattle.shunt_lists.specs.defs.Members.{In}
use Rattle.shunt_base.specs.declared.keys.Stay.{Stay}
use Rattle.shunt_stays.specs.defs.Crossings.{Crosses, load_after}
use Rattle.shunt_instance.specs.defs.Instance.{Night, unit_total, position_total}
use Rattle.shunt_blocks.specs.declared.records.Block.{Block}
use Rattle.shunt_blocks.specs.defs.Shapes.{shape_of}
use Rattle.shunt_blocks.specs.defs.Ways.{way_in, way_out}
use Rattle.shunt_blocks.specs.defs.Blocks.{type_fault}
use Rattle.shunt_blocks.specs.defs.Stays.{is_too_soon}
use Rattle.shunt_blocks.specs.defs.Lists.{times_unit, times_position, track_lengths, stays_of}
use Rattle.shunt_audit.specs.declared.types.Finding.{Finding}
use Rattle.shunt_audit.specs.declared.types.Finding.TheVariants.{UnitBare, UnitTwice, PlaceBare, PlaceTwice, WrongType, TooSoon, NoRouteIn, NoRouteOut, Crossing, TooLong, StatedCost}

-- one of these items has this id, and this holds of it
pub record Has {X : Type 0} (id_of : X → ℕ) (items : List X) (id : ℕ) (Holds : X → Type 0) : Type 0 where
  pub item : X
  pub there : In item items
  pub named : id_of item ≡ id
  pub holds : Holds item

-- the same of blocks, and of stays
abbrev pub HasBlock : List Block → ℕ → (Block → Type 0) → Type 0
HasBlock blocks id Holds = Has (λ b. b.id) blocks id Holds

abbrev pub HasStay : List Stay → ℕ → (Stay → Type 0) → Type 0
HasStay stays id Holds = Has (λ s. s.id) stays id Holds

-- the load just after a stay's entry is this, and above its track's length
pub record IsOver (lengths : List ℕ) (stays : List Stay) (load : ℕ) (s : Stay) : Type 0 where
  pub is : load ≡ load_after stays s
  pub above : slice_index lengths s.track.0 < load

-- what is wrong with a list of blocks: a unit or a position that is in none or in two of them; a block with a wrong type, that is
-- too soon, or is parked without a way in or out; two of their stays that cross, the first to enter first; an entry after which
-- more stands on its track than the track is long
abbrev pub IsFinding : Night → List Block → Finding → Type 0
IsFinding night blocks (UnitBare u) = (u < unit_total night) × (times_unit night blocks u ≡ 0)
IsFinding night blocks (UnitTwice u) = (u < unit_total night) × (2 ≤ times_unit night blocks u)
IsFinding night blocks (PlaceBare v) = (v < position_total night) × (times_position night blocks v ≡ 0)
IsFinding night blocks (PlaceTwice v) = (v < position_total night) × (2 ≤ times_position night blocks v)
IsFinding night blocks (WrongType id) = HasBlock blocks id (λ b. IsTrue (type_fault night b))
IsFinding night blocks (TooSoon id) = HasBlock blocks id (λ b. IsTrue (is_too_soon night (shape_of b)))
IsFinding night blocks (NoRouteIn id) = HasBlock blocks id (λ b. IsSome b.park × (way_in night b ≡ None))
IsFinding night blocks (NoRouteOut id) = HasBlock blocks id (λ b. IsSome b.park × (way_out night b ≡ None))
IsFinding night blocks (Crossing i j) = HasStay (stays_of night blocks) i (λ b. HasStay (stays_of night blocks) j (Crosses b))
IsFinding night blocks (TooLong id load) = HasStay (stays_of night blocks) id (IsOver (track_lengths night.station) (stays_of night blocks) load)
IsFinding night blocks (StatedCost stated real) = ⊥

-- the unit or position that a finding names is the night's
abbrev pub IsOfNight : Night → Finding → Type 0
IsOfNight night (UnitBare u) = u < unit_total night
IsOfNight night (UnitTwice u) = u < unit_total night
IsOfNight night (PlaceBare v) = v < position_total night
IsOfNight night (PlaceTwice v) = v < position_total night
IsOfNight night (WrongType id) = Unit {0}
IsOfNight night (TooSoon id) = Unit {0}
IsOfNight night (NoRouteIn id) = Unit {0}
IsOfNight night (NoRouteOut id) = Unit {0}
IsOfNight night (Crossing i j) = Unit {0}
IsOfNight night (TooLong id load) = Unit {0}
IsOfNight night (StatedCost stated real) = Unit {0}

-- the number of a finding's kind
abbrev pub kind_of : Finding → ℕ
kind_of (UnitBare u) = 1
kind_of (UnitTwice u) = 2
kind_of (PlaceBare v) = 3
kind_of (PlaceTwice v) = 4
kind_of (WrongType id) = 5
kind_of (TooSoon id) = 6
kind_of (NoRouteIn id) = 7
kind_of (NoRouteOut id) = 8
kind_of (Crossing i j) = 9
kind_of (TooLong id load) = 10
kind_of (StatedCost stated real) = 11

-- the first number that it carries
abbrev pub first_of : Finding → ℕ
first_of (UnitBare u) = u
first_of (UnitTwice u) = u
first_of (PlaceBare v) = v
first_of (PlaceTwice v) = v
first_of (WrongType id) = id
first_of (TooSoon id) = id
first_of (NoRouteIn id) = id
first_of (NoRouteOut id) = id
first_of (Crossing i j) = i
first_of (TooLong id load) = id
first_of (StatedCost stated real) = stated

-- the second number that it carries, or 0
abbrev pub second_of : Finding → ℕ
second_of (UnitBare u) = 0
second_of (UnitTwice u) = 0
second_of (PlaceBare v) = 0
second_of (PlaceTwice v) = 0
second_of (WrongType id) = 0
second_of (TooSoon id) = 0
second_of (NoRouteIn id) = 0
second_of (NoRouteOut id) = 0
second_of (Crossing i j) = j
second_of (TooLong id load) = load
second_of (StatedCost stated real) = real

-- by kind, then by the numbers
abbrev pub FindingBefore : Finding → Finding → Type 0
FindingBefore f g = (kind_of f < kind_of g) ⊎ ((kind_of f ≡ kind_of g) × ((first_of f < first_of g) ⊎ ((first_of f ≡ first_of g) × (second_of f < second_of g))))

-- each comes before all later ones
abbrev pub AreSorted : List Finding → Type 0
AreSorted findings = AllPairs FindingBefore findings

-- in order, exactly the findings of these blocks
pub record AreFindings (night : Night) (blocks : List Block) (findings : List Finding) : Type 0 where
  pub in_order : AreSorted findings
  pub exactly : (f : Finding) → In f findings ↔ IsFinding night blocks f
