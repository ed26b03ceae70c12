use Rattle.std.proofs.Common.{arith}
use Rattle.shunt_instance.specs.defs.Tables.{AreNamed}
use Rattle.shunt_instance.proofs.Cells.{whole, named_start, named_back}
use Rattle.shunt_instance.proofs.lookups.named_table.Goals as goal

pub permits-init : goal.permits-init
permits-init c = record { within = omega arith; table = named_start c.args.permits.now _ (c.in_ok-named.ensures.items_if_clones_equal (λ y h. h)) }

pub permits-preserved : goal.permits-preserved
permits-preserved c = record {
  within = omega arith;
  table = named_back c.args.permits.now c.permits.left c.permits.named.items _ c.permits-test.true c.permits.invariant.within c.requires c.permits.invariant.table;
}

pub returns : goal.returns
returns c = whole (λ permits. AreNamed permits c.permits.named.items) c.args.permits.now c.permits.left c.permits-test.false c.permits.invariant.table
