use Rattle.shunt_search.proofs.Stocked.{all_statable}
use Rattle.shunt_search.proofs.guide_tree.proposed_tree.Goals as goal

pub returns-clause-stock : goal.returns-clause-stock
returns-clause-stock g c = c.in_ok-own.ensures.stock c.args.instance.now (all_statable c.args.instance.now c.in_ok-tree.tree.stock.items c.in_ok-tree.ensures.cases
    c.in_ok-tree.ensures.apart) c.requires.statable
