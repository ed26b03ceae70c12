-- What a recorder in memory holds.
use Rattle.std.specs.Prelude.{ℕ, List}
use Rattle.shunt_proof.specs.declared.records.Node.{Node}
use Rattle.shunt_proof.specs.declared.records.Version.{Version}
use Rattle.shunt_proof.specs.declared.list_recorder.ListState.{ListState}
use Rattle.shunt_proof.specs.declared.list_recorder.ListState.TheVariants as doing
use Rattle.shunt_proof.specs.defs.Recorders.{Stage, Open, Stalled, Finished}

-- its version and nodes, how many cases they have, and what it can do
pub record Listed : Type 0 where
  pub version : Version
  pub nodes : List Node
  pub cases : ℕ
  pub stage : Stage

abbrev pub stage_of : ListState → Stage
stage_of doing.Open = Open
stage_of doing.Stalled = Stalled
stage_of (doing.Finished cost bound) = Finished cost bound
