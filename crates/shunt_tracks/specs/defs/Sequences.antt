-- The ids of the blocks on a track.
use Rattle.std.specs.Prelude.{ℕ, List}

-- ids from A to B, and how many there may be
pub record Ids : Type 0 where
  pub ids : List ℕ
  pub room : ℕ
