use Rattle.shunt_recount.specs.defs.Visits.{spans_of}
use Rattle.shunt_recount.proofs.Ordered.{same_spans, same_own, same_small}
use Rattle.shunt_recount.proofs.visits.Visits.new.Goals as goal

pub returns-clause-visits : goal.returns-clause-visits
returns-clause-visits c =
    let fixed = same_spans c.args.fixed.items c.in_order-fixed.result.items c.in_order-fixed.ensures.same in
    let free = same_spans c.args.free.items c.in_order-free.result.items c.in_order-free.ensures.same in
    record {
      own = same_own (spans_of c.args.fixed.items) (spans_of c.args.free.items) (spans_of c.in_order-fixed.result.items)
          (spans_of c.in_order-free.result.items) fixed free c.requires.own;
      small = same_small (spans_of c.args.fixed.items) (spans_of c.args.free.items) (spans_of c.in_order-fixed.result.items)
          (spans_of c.in_order-free.result.items) fixed free c.requires.small;
      fixed_rise = c.in_order-fixed.ensures.order;
      free_rise = c.in_order-free.ensures.order;
    }

pub returns-clause-fixed_same : goal.returns-clause-fixed_same
returns-clause-fixed_same c = same_spans c.args.fixed.items c.in_order-fixed.result.items c.in_order-fixed.ensures.same

pub returns-clause-free_same : goal.returns-clause-free_same
returns-clause-free_same c = same_spans c.args.free.items c.in_order-free.result.items c.in_order-free.ensures.same
