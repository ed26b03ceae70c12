use Rattle.std.proofs.Common.{◌≡◌, take}
use Rattle.shunt_stacks.specs.defs.Stacks.{blocks_of}
use Rattle.shunt_stacks.specs.defs.Numbers.{entry_number, leave_number, fixed_spans}
use Rattle.shunt_recount.specs.defs.Visits.{spans_of}
use Rattle.shunt_recount.specs.defs.Offers.{stack_at}
use Rattle.shunt_recount.proofs.events.fixed_visits.Given as goal

abbrev pub invariant-blocks-2 : goal.invariant-blocks-2
invariant-blocks-2 l = spans_of l.visits.items ≡ fixed_spans l.instance (entry_number l.instance) (leave_number l.instance)
    (blocks_of (stack_at l.end) (take l.block-index l.blocks))
