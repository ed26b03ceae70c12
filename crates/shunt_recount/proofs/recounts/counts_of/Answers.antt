use Rattle.std.proofs.Common.{List, sym, subst, slice_index_or}
use Rattle.shunt_lists.specs.defs.Members.{In}
use Rattle.shunt_base.specs.declared.ids.Side.TheVariants.{A}
use Rattle.shunt_stacks.specs.defs.Stacks.{stacks}
use Rattle.shunt_recount.specs.declared.ends.TrackEnd.{TrackEnd}
use Rattle.shunt_recount.specs.declared.counts.StackCount.{StackCount}
use Rattle.shunt_recount.specs.defs.Offers.{stack_at}
use Rattle.shunt_recount.specs.defs.Recounts.{IsCountOf}
use Rattle.shunt_recount.proofs.Totalled.{end_in, more_stacks, more_each}
use Rattle.shunt_recount.proofs.recounts.counts_of.Goals as goal

pub count_of-requires-clause-track : goal.count_of-requires-clause-track
count_of-requires-clause-track c =
    let d : TrackEnd = record { track = record { 0 = 0 }; side = A } in
    let all = stacks c.args.instance.now.station in
    let there = end_in c.args.ends.now c.ends.end-index d all c.ends-test.true c.requires.ends in
    ((c.stacks_of_stations.ensures.open_at c.args.instance.now.station (stack_at (slice_index_or c.args.ends.now c.ends.end-index d))).0 there).0

pub ends-preserved : goal.ends-preserved
ends-preserved c =
    let d : TrackEnd = record { track = record { 0 = 0 }; side = A } in
    let k = c.in_ok-count_of.field-0 in
    let items = c.in_ok-push.ensures.items in
    record {
      stacks = more_stacks c.args.ends.now c.ends.end-index d c.ends.counts.items c.push.new.self.items k c.ends-test.true items c.ends.invariant.stacks
          c.in_ok-count_of.ensures.end;
      each = subst (λ (ks : List StackCount). (x : StackCount) → In x ks → IsCountOf c.args.instance.now c.args.path.now.blocks c.args.case.now x) (sym {A = List StackCount} items)
          (more_each c.args.instance.now c.args.path.now.blocks c.args.case.now c.ends.counts.items k c.ends.invariant.each c.in_ok-count_of.ensures.is);
    }
