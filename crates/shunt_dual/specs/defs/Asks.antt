-- What the free shapes of a night ask of their units, where positions and prices have their values.
use Rattle.std.specs.Prelude.{◌≡◌, ◌⊎◌, All, map, ℕ, ◌+◌, ◌*◌, ◌<◌, ◌≤◌, ℤ, pos, ◌-ℤ◌, List, Option, Some, None, length, slice_index_or}
use Rattle.shunt_lists.specs.defs.Members.{In}
use Rattle.shunt_base.specs.declared.duals.Price.{Price}
use Rattle.shunt_instance.specs.defs.Instance.{Night}
use Rattle.shunt_blocks.specs.declared.records.Shape.{Shape}
use Rattle.shunt_blocks.specs.declared.records.Park.{Park}
use Rattle.shunt_blocks.specs.defs.Shapes.{AreRunsWithin, unit_from, position_from}
use Rattle.shunt_blocks.specs.defs.Blocks.{IsOption}
use Rattle.shunt_blocks.specs.defs.Costs.{cost_with}
use Rattle.shunt_blocks.specs.defs.Stays.{shape_length}
use Rattle.shunt_choices.specs.defs.Paths.{Masks}
use Rattle.shunt_choices.specs.defs.Choices.{IsFree, AreFreeShapes}
use Rattle.shunt_prices.specs.defs.Sums.{sum_z_below}
use Rattle.shunt_prices.specs.defs.Prices.{price_part_with}
use Rattle.shunt_prices.specs.defs.Cases.{HasRoom}
use Rattle.shunt_dual.specs.declared.unit_values.Ask.{Ask}
use Rattle.shunt_dual.specs.declared.shape_demands.Demand.{Demand}

-- what charges by track take of an option
abbrev pub charge_at : List ℕ → Option Park → ℕ
charge_at charges None = 0
charge_at charges (Some k) = slice_index_or charges k.track.0 0

-- the weight of a shape with an option, where that takes so much
abbrev pub weight_at : Night → List ℕ → Shape → Option Park → ℕ
weight_at night charges s park = 1000 * cost_with night s park + charge_at charges park

-- the weight of a shape with an option, where unparked blocks weigh nothing more
abbrev pub weight_of : Night → List Price → Shape → Option Park → ℕ
weight_of night prices s park = 1000 * cost_with night s park + price_part_with night prices s park

-- the weight of an option of the shape that has room
pub record IsGiven (night : Night) (charges : List ℕ) (s : Shape) (weight : ℕ) : Type 0 where
  pub option : Option Park
  pub is_option : IsOption night s option
  pub room : HasRoom night s option
  pub is : weight ≡ weight_at night charges s option

-- costs by track after one more option: where that is parked and has room, the cost there is at most its own
pub record AreCostsWith (night : Night) (s : Shape) (option : Option Park) (old new : List ℕ) : Type 0 where
  pub long : length old ≡ 60 → length new ≡ 60
  pub less : (t : ℕ) → slice_index_or new t 0 ≤ slice_index_or old t 0
  pub room : (k : Park) → option ≡ Some k → length old ≡ 60 → HasRoom night s option → slice_index_or new k.track.0 0 ≤ cost_with night s option
  pub one : (t : ℕ) → (slice_index_or new t 0 ≡ slice_index_or old t 0) ⊎ ((k : Park) × (option ≡ Some k) × (k.track.0 ≡ t) × HasRoom night s (Some k)
      × (slice_index_or new t 0 ≡ cost_with night s (Some k)))

-- the cost of a shape on a track: unparked, or parked there in a way that has room
abbrev pub IsCostOn : Night → Shape → ℕ → ℕ → Type 0
IsCostOn night s t cost = (cost ≡ cost_with night s None) ⊎ ((k : Park) × IsOption night s (Some k) × HasRoom night s (Some k) × (k.track.0 ≡ t)
    × (cost ≡ cost_with night s (Some k)))

-- for each track a cost of a shape, at most that of each way to park it there that has room: it is the cost of such a way, or unparked
pub record AreCosts (night : Night) (s : Shape) (costs : List ℕ) : Type 0 where
  pub long : length costs ≡ 60
  pub small : (t : ℕ) → slice_index_or costs t 0 ≤ cost_with night s None
  pub each : (k : Park) → IsOption night s (Some k) → HasRoom night s (Some k) → slice_index_or costs k.track.0 0 ≤ cost_with night s (Some k)
  pub one : (t : ℕ) → t < 60 → IsCostOn night s t (slice_index_or costs t 0)

-- the least weight of the options of a shape that have room
pub record IsLeastWeight (night : Night) (prices : List Price) (s : Shape) (weight : ℕ) : Type 0 where
  pub option : Option Park
  pub is_option : IsOption night s option
  pub room : HasRoom night s option
  pub is : weight ≡ weight_of night prices s option
  pub least : (park : Option Park) → IsOption night s park → HasRoom night s park → weight ≤ weight_of night prices s park

-- what a shape asks of its units: to come to no more than its least weight less the values of its positions
pub record IsAskOf (night : Night) (beta : List ℤ) (prices : List Price) (s : Shape) (a : Ask) : Type 0 where
  pub first : a.first ≡ unit_from night s
  pub n : a.n ≡ s.n
  pub weight : ℕ
  pub least : IsLeastWeight night prices s weight
  pub most : a.most ≡ pos weight -ℤ sum_z_below s.n (λ k. slice_index_or beta (position_from night s + k) (pos 0))

-- what these shapes ask, one by one
pub record AreAsksOf (night : Night) (beta : List ℤ) (prices : List Price) (shapes : List Shape) (asks : List Ask) : Type 0 where
  pub long : length asks ≡ length shapes
  pub each : (i : ℕ) (s : Shape) (a : Ask) → i < length shapes → IsAskOf night beta prices (slice_index_or shapes i s) (slice_index_or asks i a)

-- free shapes, and each one that begins below a unit
pub record AreFreeBelow (night : Night) (covered : Masks) (u : ℕ) (shapes : List Shape) : Type 0 where
  pub each : (s : Shape) → In s shapes → IsFree night covered s
  pub all : (s : Shape) → IsFree night covered s → unit_from night s < u → In s shapes

-- a shape with its length, its cost unparked and its costs by track
pub record IsDemand (night : Night) (d : Demand) : Type 0 where
  pub within : AreRunsWithin night d.shape
  pub long : d.long ≡ shape_length night d.shape
  pub short : d.long ≤ 40000
  pub unparked : d.unparked ≡ cost_with night d.shape None
  pub small : d.unparked ≤ 4000000
  pub costs : AreCosts night d.shape d.costs

-- their shapes
abbrev pub shapes_asked : List Demand → List Shape
shapes_asked = map (λ d. d.shape)

-- the same with their lengths and costs
pub record AreDemands (night : Night) (covered : Masks) (demands : List Demand) : Type 0 where
  pub free : AreFreeShapes night covered (shapes_asked demands)
  pub each : All (IsDemand night) demands
