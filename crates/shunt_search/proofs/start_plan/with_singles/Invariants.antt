use Rattle.std.proofs.Common.{◌≡◌, ◌++◌}
use Rattle.shunt_blocks.specs.defs.Pins.{singles_below}
use Rattle.shunt_search.proofs.start_plan.with_singles.Given as goal

abbrev pub invariant-loop-unit : goal.invariant-loop-unit
invariant-loop-unit l = l.blocks.items ≡ l.pins ++ singles_below l.instance l.pins l.place l.unit
