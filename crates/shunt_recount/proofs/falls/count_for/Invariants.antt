use Rattle.std.specs.Prelude.{false}
use Rattle.std.proofs.Common.{◌≡◌, take}
use Rattle.shunt_lists.specs.defs.Members.{In}
use Rattle.shunt_stacks.specs.defs.Stacks.{is_of}
use Rattle.shunt_recount.specs.declared.counts.StackCount.{StackCount}
use Rattle.shunt_recount.specs.defs.Offers.{stack_at}
use Rattle.shunt_recount.proofs.falls.count_for.Given as goal

abbrev pub invariant-counts : goal.invariant-counts
invariant-counts l = (k : StackCount) → In k (take l.count-index l.counts) → is_of (stack_at k.end) l.option ≡ false
