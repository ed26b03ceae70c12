use Rattle.std.specs.Prelude.{nat_le}
use Rattle.std.proofs.Common.{◌≡◌, ◌++◌}
use Rattle.shunt_blocks.specs.defs.Lists.{times_unit}
use Rattle.shunt_audit.specs.declared.types.Finding.TheVariants.{UnitTwice}
use Rattle.shunt_audit.specs.defs.Listed.{noted, noted_below}
use Rattle.shunt_audit.proofs.covers.add_twice_units.Given as goal

abbrev pub invariant-loop-unit : goal.invariant-loop-unit
invariant-loop-unit l = l.findings.items ≡ l.initial.findings.items ++ noted_below l.unit (λ k. noted (nat_le 2 (times_unit l.instance l.blocks k)) (UnitTwice k))
