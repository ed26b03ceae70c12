-- Duals whose price of kind length for a track and a train has risen, and how far a sweep over tracks and trains has come.
use Rattle.std.specs.Prelude.{◌≡◌, ◌⊎◌, ℕ, ◌+◌, ◌<◌, ◌/◌, ◌%◌, ℤ, ◌+ℤ◌, ◌≤ℤ◌, ◌<ℤ◌, if◌then◌else◌, length, List, [], ◌∷◌, Option, Some, None}
use Rattle.shunt_base.specs.declared.duals.PriceKind.TheVariants as kind
use Rattle.shunt_base.specs.declared.duals.Price.{Price}
use Rattle.shunt_base.specs.declared.duals.Duals.{Duals}
use Rattle.shunt_instance.specs.defs.Instance.{Night, unit_total}
use Rattle.shunt_blocks.specs.declared.records.Block.{Block}
use Rattle.shunt_prices.specs.defs.Sums.{IsWithin}
use Rattle.shunt_prices.specs.defs.Limits.{ArePrices, AreApart, AreDuals}
use Rattle.shunt_prices.specs.defs.Cases.{DualsHold}
use Rattle.shunt_prices.specs.defs.Bounds.{duals_sum}
use Rattle.shunt_prices.specs.defs.Steps.{is_by_length, is_length_price, AreRefitted, IsPriceStep}
use Rattle.shunt_dual.specs.declared.price_raises.RaisedStep.{RaisedStep}

-- the price of kind length for a track and a train
abbrev pub price_at : ℕ → ℕ → ℕ → Price
price_at value track train = record { kind = kind.Length; track = record { 0 = track }; train = record { 0 = train }; value = value }

-- a price that has risen by a number
abbrev pub lifted : ℕ → Price → Price
lifted by price = record price { value = price.value + by }

-- prices of which the one of kind length for a track and a train has risen by a number; where none is listed it was 0
abbrev pub raised_by : ℕ → ℕ → ℕ → List Price → List Price
raised_by by track train [] = price_at by track train ∷ []
raised_by by track train (price ∷ prices) = if is_length_price track train price then lifted by price ∷ prices else price ∷ raised_by by track train prices

-- the prices of parts among these
abbrev pub parts_of : List Price → List Price
parts_of [] = []
parts_of (price ∷ prices) = if is_by_length price.kind then parts_of prices else price ∷ parts_of prices

-- duals with the same values of positions and the same prices of parts
pub record KeepsDuals (old new : Duals) : Type 0 where
  pub beta : new.beta ≡ old.beta
  pub parts : parts_of new.prices ≡ parts_of old.prices

-- duals within the limits that hold at a path
pub record AreHeld (night : Night) (path : List Block) (d : Duals) : Type 0 where
  pub are : AreDuals night d
  pub hold : DualsHold night path d

-- the same, of which no two prices agree in kind, track and train
pub record AreGood (night : Night) (path : List Block) (d : Duals) : Type 0 where
  pub are : AreDuals night d
  pub hold : DualsHold night path d
  pub apart : AreApart d.prices

-- duals in which each uncovered unit, one after the other, has got its greatest value, and by how much their sum has risen
pub record AreRefit (night : Night) (path : List Block) (old new : Duals) (risen : ℤ) : Type 0 where
  pub held : AreHeld night path new
  pub refitted : AreRefitted night path (unit_total night) old new
  pub sum : duals_sum night path new ≡ duals_sum night path old +ℤ risen
  pub small : IsWithin 319999999999680 risen

-- the same with the price for a track and a train risen before
pub record IsRaise (night : Night) (path : List Block) (by track train : ℕ) (old new : Duals) (gain : ℤ) : Type 0 where
  pub good : AreGood night path new
  pub kept : KeepsDuals old new
  pub refitted : AreRefitted night path (unit_total night) (record old { prices = raised_by by track train old.prices }) new
  pub sum : duals_sum night path new ≡ duals_sum night path old +ℤ gain
  pub small : IsWithin 4000000000000000000 gain

-- such duals, or none where the prices leave their limits
abbrev pub IsTriedRaise : Night → List Block → ℕ → ℕ → ℕ → Duals → Option RaisedStep → Type 0
IsTriedRaise night path by track train old None = ArePrices night (raised_by by track train old.prices) → ⊥
IsTriedRaise night path by track train old (Some step) = IsRaise night path by track train old step.duals step.gain

-- no price step for a track and a train has a higher sum
abbrev pub NoneHigher : Night → List Block → ℕ → ℕ → Duals → Type 0
NoneHigher night path track train old = (new : Duals) (step : IsPriceStep night path old new) → step.track ≡ track → step.train ≡ train
    → duals_sum night path new ≤ℤ duals_sum night path old

-- duals as they were, where no step for a track and a train has a higher sum, or others with a higher sum
pub record AreImproved (night : Night) (path : List Block) (track train : ℕ) (old new : Duals) : Type 0 where
  pub good : AreGood night path new
  pub kept : KeepsDuals old new
  pub either : ((new ≡ old) × NoneHigher night path track train old) ⊎ (duals_sum night path old <ℤ duals_sum night path new)

-- duals with a higher sum
pub record AreHigher (night : Night) (path : List Block) (old new : Duals) : Type 0 where
  pub good : AreGood night path new
  pub kept : KeepsDuals old new
  pub higher : duals_sum night path old <ℤ duals_sum night path new

-- after that many pairs of track and train: the given duals, for which no step so far has a higher sum, or others with a higher sum
pub record AreSwept (night : Night) (path : List Block) (given : Duals) (k : ℕ) (now : Duals) : Type 0 where
  pub good : AreGood night path now
  pub kept : KeepsDuals given now
  pub either : ((now ≡ given) × ((i : ℕ) → i < k → NoneHigher night path (i / length night.arrive) (i % length night.arrive) given))
      ⊎ (duals_sum night path given <ℤ duals_sum night path now)
