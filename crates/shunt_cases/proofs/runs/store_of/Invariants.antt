use Rattle.std.proofs.Common.{◌≡◌}
use Rattle.shunt_store.specs.defs.Files.{Closed}
use Rattle.shunt_cases.proofs.runs.store_of.Given as goal

abbrev pub invariant-loop-file : goal.invariant-loop-file
invariant-loop-file l = l.store.stage ≡ Closed
