use Rattle.std.proofs.Common.{◌≡◌, sym, ◌∙◌, arith}
use Rattle.shunt_blocks.specs.defs.Lists.{total_cost}
use Rattle.shunt_proof.specs.declared.records.NodeKind.TheVariants.{Whole}
use Rattle.shunt_proof.specs.defs.Nodes.{node_at}
use Rattle.shunt_checker.proofs.Looked.{against}
use Rattle.shunt_checker.proofs.Descents.{best_kept, best_whole}
use Rattle.shunt_checker.proofs.walk.best_after.Goals as goal

pub returns-then-not-is_whole-clause-exact : goal.returns-then-not-is_whole-clause-exact
returns-then-not-is_whole-clause-exact c =
    best_kept (node_at c.args.certificate.now.nodes c.args.k).kind (total_cost c.args.instance.now c.args.path.now.blocks) c.args.best
    (λ whole. against c.is_whole.result (c.kind_of.result ≡ Whole) c.is_whole.ensures c.if-not-is_whole.true (c.kind_of.ensures ∙ whole))

pub returns-then-cost-best-clause-exact : goal.returns-then-cost-best-clause-exact
returns-then-cost-best-clause-exact c =
    best_whole (node_at c.args.certificate.now.nodes c.args.k).kind c.path_cost-cost.result c.path_cost-cost.result
    (total_cost c.args.instance.now c.args.path.now.blocks) c.args.best
    (sym c.kind_of.ensures ∙ c.is_whole.ensures.0 c.if-not-is_whole.false) (let lt = c.if-cost-best.true in omega (arith, lt)) c.path_cost-cost.ensures.exact

pub returns-else-cost-best-clause-exact : goal.returns-else-cost-best-clause-exact
returns-else-cost-best-clause-exact c =
    best_whole (node_at c.args.certificate.now.nodes c.args.k).kind c.args.best c.path_cost-cost.result (total_cost c.args.instance.now c.args.path.now.blocks) c.args.best
    (sym c.kind_of.ensures ∙ c.is_whole.ensures.0 c.if-not-is_whole.false) (let le = c.if-cost-best.false in omega (arith, le)) c.path_cost-cost.ensures.exact
