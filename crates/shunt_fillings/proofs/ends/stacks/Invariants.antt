use Rattle.std.proofs.Common.{◌≡◌}
use Rattle.shunt_fillings.specs.defs.Pieces.{all_seen}
use Rattle.shunt_fillings.proofs.Listed.{open_below}
use Rattle.shunt_fillings.proofs.ends.stacks.Given as goal

abbrev pub invariant-loop-t : goal.invariant-loop-t
invariant-loop-t l = all_seen l.stacks.items ≡ open_below l.instance.station l.t
