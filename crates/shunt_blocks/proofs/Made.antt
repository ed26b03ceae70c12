-- Shapes and places to park, made of their parts.
use Rattle.std.proofs.Common.{◌≡◌, ℕ}
use Rattle.shunt_base.specs.declared.ids.ArrId.{ArrId}
use Rattle.shunt_base.specs.declared.ids.DepId.{DepId}
use Rattle.shunt_base.specs.declared.ids.TrackId.{TrackId}
use Rattle.shunt_base.specs.declared.ids.Side.{Side}
use Rattle.shunt_blocks.specs.declared.records.Shape.{Shape}
use Rattle.shunt_blocks.specs.declared.records.Park.{Park}

abbrev pub made_shape : ArrId → ℕ → ℕ → DepId → ℕ → Shape
made_shape arr p n dep q = record { arr = arr; p = p; n = n; dep = dep; q = q }

abbrev pub made_park : TrackId → Side → Side → Park
made_park track a b = record { track = track; side_in = a; side_out = b }

-- on the track with a number
abbrev pub parked : ℕ → Side → Side → Park
parked t a b = record { track = record { 0 = t }; side_in = a; side_out = b }

pub same_park : (t r : ℕ) (a b c e : Side) → t ≡ r → a ≡ b → c ≡ e → parked t a c ≡ parked r b e
same_park t r a b c e f g h = cc
