use Rattle.std.proofs.Common.{◌≡◌, take}
use Rattle.shunt_choices.specs.defs.Paths.{masks_of}
use Rattle.shunt_choices.proofs.covered.Covered.of.Given as goal

abbrev pub invariant-loop-k : goal.invariant-loop-k
invariant-loop-k l = record {
  done : l.covered ≡ masks_of l.instance (take l.k l.blocks);
}
