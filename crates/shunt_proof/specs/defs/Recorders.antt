-- What a recorder of nodes does.
use Rattle.std.specs.Prelude.{ℕ, Result, Ok, Err}
use Rattle.shunt_proof.specs.declared.recorder.RecordError.{RecordError}
use Rattle.shunt_proof.specs.declared.recorder.RecordError.TheVariants as errors

-- what a recorder can do: note nodes; nothing more, for want of memory; nothing more, with the cost and bound that were stated;
-- nothing more, for a fault
pub data Stage : Type 0 where
  Open : Stage
  Stalled : Stage
  Finished : ℕ → ℕ → Stage
  Failed : Stage

-- the stage behind a call that is to leave this one: a refused call leaves the recorder stalled or failed
abbrev pub stage_behind : {T : Type 0} → Stage → Result T RecordError → Stage
stage_behind meant (Ok x) = meant
stage_behind meant (Err errors.Memory) = Stalled
stage_behind meant (Err errors.Fault) = Failed
