use Rattle.std.proofs.Common.{◌≡◌}
use Rattle.shunt_recount.specs.defs.Offers.{stacks_at, open_below}
use Rattle.shunt_recount.proofs.ends.all_ends.Given as goal

abbrev pub invariant-loop-t : goal.invariant-loop-t
invariant-loop-t l = stacks_at l.ends.items ≡ open_below l.instance.station l.t
