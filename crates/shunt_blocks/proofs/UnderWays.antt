-- Ways that cost no less than a number.
use Rattle.std.specs.Prelude.{Option, Some, None, IfSome, unwrap_or}
use Rattle.std.proofs.Common.{◌≡◌, ℕ, ◌≤◌, sym, subst, arith}
use Rattle.shunt_base.specs.declared.ids.Side.{Side}
use Rattle.shunt_base.specs.declared.ids.Side.TheVariants.{A, B}
use Rattle.shunt_base.specs.declared.ids.TrackId.{TrackId}

-- a way, where there is one, costs no less
abbrev pub IsUnder : Option ℕ → ℕ → Type 0
IsUnder way least = IfSome way (λ c. least ≤ c)

own_under : (way : Option ℕ) (least cost : ℕ) → cost ≡ unwrap_or way 1000000 → least ≤ cost → IsUnder way least
own_under None least cost e le = tt
own_under (Some c) least cost e le = omega (arith, e, le)

-- what is no more than the cost by either side is no more than that of any way to the track
module _ (way : TrackId → Side → Option ℕ) (track : TrackId) (a b least : ℕ) (by_a : a ≡ unwrap_or (way track A) 1000000) (by_b : b ≡ unwrap_or (way track B) 1000000)
    (first : least ≤ a) (second : least ≤ b) where
  by_side : (side : Side) → IsUnder (way track side) least
  by_side A = own_under (way track A) least a by_a first
  by_side B = own_under (way track B) least b by_b second

  pub under_both : (t : TrackId) (side : Side) → t ≡ track → IsUnder (way t side) least
  under_both t side e = subst (λ (w : TrackId). IsUnder (way w side) least) (sym e) (by_side side)
