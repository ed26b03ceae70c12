-- What a caller sees of timelines.
use Rattle.std.specs.Prelude.{ℕ, List}
use Rattle.shunt_base.specs.declared.keys.Stay.{Stay}

-- the stays that are there, the lengths of the tracks, and how many stays more there may be without memory
pub record Holding : Type 0 where
  pub stays : List Stay
  pub lengths : List ℕ
  pub spare : ℕ
