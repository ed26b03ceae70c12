use Rattle.std.proofs.Common.{◌≡◌, take}
use Rattle.shunt_lists.specs.defs.Members.{In}
use Rattle.shunt_recount.specs.declared.counts.StackCount.{StackCount}
use Rattle.shunt_recount.specs.defs.Offers.{stacks_at}
use Rattle.shunt_recount.specs.defs.Recounts.{IsCountOf, stacks_in}
use Rattle.shunt_recount.proofs.recounts.counts_of.Given as goal

abbrev pub invariant-ends : goal.invariant-ends
invariant-ends l = record {
  stacks : stacks_in l.counts.items ≡ stacks_at (take l.end-index l.ends);
  each : (k : StackCount) → In k l.counts.items → IsCountOf l.instance l.path.blocks l.case k;
}
