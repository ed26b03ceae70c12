use Rattle.std.specs.Prelude.{All}
use Rattle.std.proofs.Common.{◌≤◌, List, length, sym, subst}
use Rattle.shunt_blocks.specs.declared.records.Block.{Block}
use Rattle.shunt_blocks.specs.defs.Shapes.{IsWithinTrains}
use Rattle.shunt_search.proofs.YardChanges.{few_path}
use Rattle.shunt_search.proofs.known.keep_cheaper.Goals as goal

pub path_cost-cost-requires-clause-within : goal.path_cost-cost-requires-clause-within
path_cost-cost-requires-clause-within c = subst (λ (l : List Block). All (IsWithinTrains c.args.instance.now) l) (sym c.blocks-2.ensures)
    (λ k d lt. (c.requires.each k d lt).within)

pub path_cost-cost-requires-clause-few : goal.path_cost-cost-requires-clause-few
path_cost-cost-requires-clause-few c = subst (λ (l : List Block). length l ≤ 160) (sym c.blocks-2.ensures)
    (few_path c.few_blocks.ensures.most c.args.instance.now c.args.path.now c.units.result c.requires c.units.ensures.exact c.units.ensures.few)
