use Rattle.std.specs.Prelude.{nat_le}
use Rattle.std.proofs.Common.{◌≡◌, ◌++◌}
use Rattle.shunt_blocks.specs.defs.Lists.{times_position}
use Rattle.shunt_audit.specs.declared.types.Finding.TheVariants.{PlaceTwice}
use Rattle.shunt_audit.specs.defs.Listed.{noted, noted_below}
use Rattle.shunt_audit.proofs.covers.add_twice_places.Given as goal

abbrev pub invariant-loop-position : goal.invariant-loop-position
invariant-loop-position l = l.findings.items ≡ l.initial.findings.items ++ noted_below l.position (λ k. noted (nat_le 2 (times_position l.instance l.blocks k)) (PlaceTwice k))
