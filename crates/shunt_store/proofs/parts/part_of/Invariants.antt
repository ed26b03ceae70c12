use Rattle.std.proofs.Common.{◌≡◌, ◌++◌, string_bytes}
use Rattle.shunt_store.specs.defs.Parts.{part_endings}
use Rattle.shunt_store.proofs.parts.part_of.Given as goal

abbrev pub invariant-loop-done : goal.invariant-loop-done
invariant-loop-done g l = string_bytes l.part ≡ l.target ++ part_endings l._done
