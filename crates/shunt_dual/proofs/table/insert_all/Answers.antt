use Rattle.std.proofs.Common.{arith}
use Rattle.shunt_dual.specs.defs.Tables.{cost_at, top}
use Rattle.shunt_dual.proofs.Seats.{empty_paired, empty_duals, empty_root, empty_count}
use Rattle.shunt_dual.proofs.table.insert_all.Goals as goal

pub loop-k-init : goal.loop-k-init
loop-k-init c = record {
  paired = empty_paired c.args.n _ _ c.requires.owner;
  duals = empty_duals c.args.n top (cost_at c.args.table.now c.args.n) _ _ _ _ c.requires.alpha c.requires.debt;
  free = omega (arith, empty_count c.args.n _ c.requires.owner);
  root = λ e. omega (arith, empty_root c.args.n _ c.requires.owner);
}
