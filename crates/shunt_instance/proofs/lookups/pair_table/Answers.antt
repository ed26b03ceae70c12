use Rattle.std.proofs.Common.{arith}
use Rattle.shunt_instance.specs.defs.Tables.{ArePairs}
use Rattle.shunt_instance.proofs.Cells.{whole, pairs_start, pairs_back}
use Rattle.shunt_instance.proofs.lookups.pair_table.Goals as goal

pub permits-init : goal.permits-init
permits-init c = record { within = omega arith; table = pairs_start c.args.permits.now _ (c.in_ok-pairs.ensures.items_if_clones_equal (λ y h. h)) }

pub permits-preserved : goal.permits-preserved
permits-preserved c = record {
  within = omega arith;
  table = rw c.permit_cell.ensures.exact (pairs_back c.args.permits.now c.permits.left c.permits.pairs.items _ c.permits-test.true c.permits.invariant.within c.requires
      c.permits.invariant.table);
}

pub returns : goal.returns
returns c = whole (λ permits. ArePairs permits c.permits.pairs.items) c.args.permits.now c.permits.left c.permits-test.false c.permits.invariant.table
