-- Duals and cases of a night, within the limits.
use Rattle.std.specs.Prelude.{◌≡◌, ℕ, zero, suc, ◌+◌, ◌-◌, ◌<◌, ◌≤◌, ℤ, pos, neg_ℤ, ◌≤ℤ◌, All, AllPairs, List, [], ◌∷◌, map, length, slice_index_or}
use Rattle.shunt_lists.specs.defs.Members.{AreDistinct}
use Rattle.shunt_base.specs.declared.ids.ArrId.{ArrId}
use Rattle.shunt_base.specs.declared.ids.TrackId.{TrackId}
use Rattle.shunt_base.specs.declared.duals.PriceKind.{PriceKind}
use Rattle.shunt_base.specs.declared.duals.PriceKind.TheVariants as kind
use Rattle.shunt_base.specs.declared.duals.Price.{Price}
use Rattle.shunt_base.specs.declared.duals.Duals.{Duals}
use Rattle.shunt_base.specs.declared.duals.Case.{Case}
use Rattle.shunt_instance.specs.defs.Instance.{Night, unit_total, position_total}

-- from 1 to 8 parts
abbrev pub IsKind : PriceKind → Type 0
IsKind kind.Length = Unit {0}
IsKind (kind.Parts r) = (1 ≤ r) × (r ≤ 8)

-- its track and its train are the night's, and its value is at most 1,000,000,000
pub record IsPrice (night : Night) (price : Price) : Type 0 where
  pub kind : IsKind price.kind
  pub track : price.track.0 < length night.station.tracks
  pub train : price.train.0 < length night.arrive
  pub value : price.value ≤ 1000000000

-- at most 64 of them
pub record ArePrices (night : Night) (prices : List Price) : Type 0 where
  pub few : length prices ≤ 64
  pub each : All (IsPrice night) prices

-- what tells two prices of a list apart: kind, track and train
abbrev pub place_of_price : Price → PriceKind × (TrackId × ArrId)
place_of_price price = (price.kind, (price.track, price.train))

-- no two prices agree in kind, track and train
abbrev pub AreApart : List Price → Type 0
AreApart prices = AreDistinct (map place_of_price prices)

-- within plus or minus 999,999,999,999
pub record IsValue (z : ℤ) : Type 0 where
  pub low : neg_ℤ (pos 999999999999) ≤ℤ z
  pub high : z ≤ℤ pos 999999999999

-- a value for each unit and one for each position, and prices
pub record AreDuals (night : Night) (d : Duals) : Type 0 where
  pub alphas : length d.alpha ≡ unit_total night
  pub betas : length d.beta ≡ position_total night
  pub alphas_in : All IsValue d.alpha
  pub betas_in : All IsValue d.beta
  pub prices : ArePrices night d.prices

-- a number of unparked blocks, a multiplier and duals within their limits
pub record IsCase (night : Night) (c : Case) : Type 0 where
  pub to : c.to ≤ 160
  pub multiplier : IsValue c.multiplier
  pub duals : AreDuals night c.duals

-- the case with a number, from 0
abbrev pub case_at : List Case → ℕ → Case
case_at cases k = slice_index_or cases k (record { to = 0; multiplier = pos 0; duals = record { alpha = []; beta = []; prices = [] } })

-- the least number of unparked blocks of the plans that the case with a number speaks of
abbrev pub from_of : List Case → ℕ → ℕ
from_of cases zero = 0
from_of cases (suc k) = (case_at cases k).to + 1

-- one or two cases, whose greatest numbers ascend to 160
pub record AreCases (night : Night) (cases : List Case) : Type 0 where
  pub some : 1 ≤ length cases
  pub few : length cases ≤ 2
  pub each : All (IsCase night) cases
  pub rise : AllPairs (λ c d. c.to < d.to) cases
  pub last : (case_at cases (length cases - 1)).to ≡ 160

-- plain duals are this one case
abbrev pub plain : Duals → List Case
plain d = record { to = 160; multiplier = pos 0; duals = d } ∷ []
