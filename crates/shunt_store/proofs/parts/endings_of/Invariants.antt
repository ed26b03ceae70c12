use Rattle.std.proofs.Common.{◌≡◌, ◌++◌, ◌+◌, ◌≤◌, length}
use Rattle.shunt_store.specs.defs.Parts.{part_endings}
use Rattle.shunt_store.proofs.parts.endings_of.Given as goal

abbrev pub invariant-endings : goal.invariant-endings
invariant-endings l = record {
  name : l.name ≡ l.rest ++ part_endings l.many;
  few : l.many + length l.rest ≤ length l.name;
}

abbrev pub decreases-endings : goal.decreases-endings
decreases-endings l = length l.rest
