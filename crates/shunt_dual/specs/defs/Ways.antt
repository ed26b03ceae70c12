-- What the ways of trains to and from tracks cost at least.
use Rattle.std.specs.Prelude.{ℕ, ◌<◌, ◌≤◌, length, slice_index_or}
use Rattle.shunt_base.specs.declared.ids.ArrId.{ArrId}
use Rattle.shunt_base.specs.declared.ids.DepId.{DepId}
use Rattle.shunt_instance.specs.defs.Instance.{Night}
use Rattle.shunt_blocks.specs.declared.records.Park.{Park}
use Rattle.shunt_blocks.specs.defs.Ways.{IsUnderIn, IsUnderOut}
use Rattle.shunt_dual.specs.declared.ways.LeastWays.{LeastWays}

-- no way of any train costs less than what stands at its number, on whatever track
pub record AreLeastWays (night : Night) (ways : LeastWays) : Type 0 where
  pub ins : (a : ArrId) (k : Park) → a.0 < length night.arrive → k.track.0 < length night.station.tracks → IsUnderIn night a k (slice_index_or ways.ins a.0 0)
  pub outs : (d : DepId) (k : Park) → d.0 < length night.depart → k.track.0 < length night.station.tracks → IsUnderOut night d k (slice_index_or ways.outs d.0 0)
  pub few_in : (a : ℕ) → slice_index_or ways.ins a 0 ≤ 1000000
  pub few_out : (d : ℕ) → slice_index_or ways.outs d 0 ≤ 1000000
