-- What shapes offer: how much more their values come to than they weigh.
use Rattle.std.specs.Prelude.{◌≡◌, ℕ, ◌<◌, ◌≤◌, ℤ, pos, ◌-ℤ◌, ◌<ℤ◌, List, Some, slice_index_or}
use Rattle.shunt_lists.specs.defs.Members.{In}
use Rattle.shunt_base.specs.declared.duals.Duals.{Duals}
use Rattle.shunt_instance.specs.defs.Instance.{Night}
use Rattle.shunt_blocks.specs.declared.records.Shape.{Shape}
use Rattle.shunt_blocks.specs.declared.records.Park.{Park}
use Rattle.shunt_blocks.specs.defs.Shapes.{AreRunsWithin}
use Rattle.shunt_blocks.specs.defs.Blocks.{IsParkable}
use Rattle.shunt_blocks.specs.defs.Stays.{shape_length}
use Rattle.shunt_prices.specs.defs.Sums.{IsWithin}
use Rattle.shunt_prices.specs.defs.Prices.{price_part_with}
use Rattle.shunt_prices.specs.defs.Cases.{duals_over}
use Rattle.shunt_dual.specs.declared.case_offers.Offer.{Offer}
use Rattle.shunt_dual.specs.defs.Asks.{weight_at, weight_of}

-- a shape with its length, the sum of its values, and what prices take of it on each track
pub record IsOffer (night : Night) (d : Duals) (o : Offer) : Type 0 where
  pub long : o.long ≡ shape_length night o.shape
  pub worth : o.worth ≡ duals_over night d o.shape
  pub charges : (k : Park) → k.track.0 < 60 → slice_index_or o.charges k.track.0 0 ≡ price_part_with night d.prices o.shape (Some k)

-- its runs are within their trains, and its numbers within the limits
pub record IsSmallOffer (night : Night) (o : Offer) : Type 0 where
  pub within : AreRunsWithin night o.shape
  pub worth : IsWithin 15999999999984 o.worth
  pub charges : (t : ℕ) → slice_index_or o.charges t 0 ≤ 23039936000000000

-- how much more the values of a shape come to than it weighs where it is parked so
abbrev pub offered : Night → Offer → Park → ℤ
offered night o k = o.worth -ℤ pos (weight_at night o.charges o.shape (Some k))

-- offers of some of these shapes, with each shape whose values come to more than it weighs in some way to park
pub record AreOffers (night : Night) (d : Duals) (shapes : List Shape) (offers : List Offer) : Type 0 where
  pub each : (o : Offer) → In o offers → In o.shape shapes × IsOffer night d o × IsSmallOffer night o
  pub all : (s : Shape) (k : Park) → In s shapes → IsParkable night s k → pos (weight_of night d.prices s (Some k)) <ℤ duals_over night d s
      → (o : Offer) × In o offers × (o.shape ≡ s)
