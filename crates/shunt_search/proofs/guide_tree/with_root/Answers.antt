use Rattle.std.proofs.Common.{arith}
use Rattle.std.proofs.lemmas.Grind.{common_steps}
use Rattle.shunt_search.proofs.Stocked.{replaced}
use Rattle.shunt_search.proofs.guide_tree.with_root.Goals as goal

pub returns-clause-stock : goal.returns-clause-stock
returns-clause-stock c = λ night all statable. (replaced night c.args.tree.stock.items c.args.cases
    (let empty = c.is_empty-none.ensures in let some = c.if-none.false in grind (arith, common_steps)) all statable).0
