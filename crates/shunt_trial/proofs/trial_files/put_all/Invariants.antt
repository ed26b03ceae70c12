use Rattle.std.proofs.Common.{◌≡◌, map, drop}
use Rattle.shunt_store.specs.defs.Files.{Closed}
use Rattle.shunt_inputs.specs.defs.Replies.{pair_of}
use Rattle.shunt_inputs.specs.defs.Writes.{written}
use Rattle.shunt_trial.proofs.trial_files.put_all.Given as goal

abbrev pub invariant-files : goal.invariant-files
invariant-files l = record {
  put : written (map pair_of (drop l.write-index l.writes)) l.store.files ≡ written (map pair_of l.writes) l.fn.store.files;
  stage : l.store.stage ≡ Closed;
}
