use Rattle.std.proofs.Common.{◌≡◌, length}
use Rattle.shunt_choices.specs.defs.EntryRuns.{filled}
use Rattle.shunt_choices.proofs.covered.fill.Given as goal

abbrev pub invariant-loop-k : goal.invariant-loop-k
invariant-loop-k l = record {
  size : length l.mask ≡ length l.fn.mask;
  done : l.mask ≡ filled l.fn.mask l.from l.k l.covered;
}
