-- Shapes with options that weigh less than their duals, and where they are looked for.
use Rattle.std.specs.Prelude.{◌≡◌, ℕ, ◌+◌, ◌*◌, ◌≤◌, ◌<◌, ℤ, pos, ◌<ℤ◌, true, false, length, List, Option, Some, None}
use Rattle.shunt_base.specs.declared.ids.Side.{Side}
use Rattle.shunt_base.specs.declared.ids.TrackId.{TrackId}
use Rattle.shunt_base.specs.declared.duals.Price.{Price}
use Rattle.shunt_base.specs.declared.duals.Case.{Case}
use Rattle.shunt_instance.specs.defs.Instance.{Night}
use Rattle.shunt_blocks.specs.declared.records.Shape.{Shape}
use Rattle.shunt_blocks.specs.declared.records.Park.{Park}
use Rattle.shunt_blocks.specs.defs.Blocks.{IsOption, IsParkable}
use Rattle.shunt_blocks.specs.defs.Costs.{cost_with}
use Rattle.shunt_blocks.specs.defs.Stays.{shape_length}
use Rattle.shunt_choices.specs.defs.Paths.{Masks}
use Rattle.shunt_choices.specs.defs.Choices.{Choice as PathChoice}
use Rattle.shunt_prices.specs.defs.Prices.{track_length, price_part_with}
use Rattle.shunt_prices.specs.defs.Cases.{HasRoom, weight_with, duals_over}
use Rattle.shunt_proof.specs.declared.records.Version.{Version}
use Rattle.shunt_checker.specs.defs.Asked.{IsAsked}
use Rattle.shunt_checker.specs.defs.Searches.{IsOneOfShape, IsFreeOne}

-- a shape can be parked so, which is asked, and weighs less than a sum where the prices on the track come to a part
pub record IsLightPark (version : Version) (night : Night) (s : Shape) (sum : ℤ) (part : ℕ) (k : Park) : Type 0 where
  pub parkable : IsParkable night s k
  pub asked : IsAsked version (Some k)
  pub light : pos (1000 * cost_with night s (Some k) + part) <ℤ sum

-- the same on one track by one side in
pub record IsLightBy (version : Version) (night : Night) (s : Shape) (sum : ℤ) (part : ℕ) (track : TrackId) (side_in : Side) (k : Park) : Type 0 where
  pub on : k.track ≡ track
  pub by : k.side_in ≡ side_in
  pub light : IsLightPark version night s sum part k

-- the same on one track that is long enough
pub record IsLightOn (version : Version) (night : Night) (s : Shape) (sum : ℤ) (part : ℕ) (track : TrackId) (k : Park) : Type 0 where
  pub on : k.track ≡ track
  pub room : shape_length night s ≤ track_length night track.0
  pub light : IsLightPark version night s sum part k

-- the same on any track that is long enough, by the prices there
pub record IsLightParked (version : Version) (night : Night) (prices : List Price) (s : Shape) (sum : ℤ) (k : Park) : Type 0 where
  pub track : k.track.0 < length night.station.tracks
  pub room : shape_length night s ≤ track_length night k.track.0
  pub light : IsLightPark version night s sum (price_part_with night prices s (Some k)) k

-- a shape's option that has room and is asked weighs less in a case than the shape's duals
pub record IsLight (version : Version) (night : Night) (case : Case) (c : PathChoice) : Type 0 where
  pub option : IsOption night c.shape c.option
  pub room : HasRoom night c.shape c.option
  pub asked : IsAsked version c.option
  pub light : weight_with night case c.shape c.option <ℤ duals_over night case.duals c.shape

-- the same of one shape
abbrev pub IsLightShape : Version → Night → Case → Shape → PathChoice → Type 0
IsLightShape version night case s = IsOneOfShape (IsLight version night case) s

-- the same of a free shape
abbrev pub IsFreeLight : Version → Night → Masks → Case → PathChoice → Type 0
IsFreeLight version night covered case = IsFreeOne night covered (IsLight version night case)

-- a shape's option that is parked, or none
abbrev pub offered : Shape → Option Park → Option PathChoice
offered s None = None
offered s (Some k) = Some (record { shape = s; option = Some k })
