use Rattle.std.specs.Prelude.{IfOk, IsTrue, ◌↔◌}
use Rattle.std.proofs.Common.{◌≤◌, List, length, subst, sym, arith}
use Rattle.shunt_instance.specs.defs.Instance.{unit_total}
use Rattle.shunt_blocks.specs.declared.records.Block.{Block}
use Rattle.shunt_blocks.specs.defs.Lists.{RunsThrough, placed}
use Rattle.shunt_checker.proofs.descent.path_runs.Goals as goal

pub runs_placed-requires-clause-few : goal.runs_placed-requires-clause-few
runs_placed-requires-clause-few c =
    let most : length c.args.path.now.blocks ≤ unit_total c.args.instance.now = c.few_blocks.ensures.most c.args.instance.now c.args.path.now.blocks
    (λ k d lt. (c.requires.each k d lt).within) c.requires.apart in
    subst (λ (bs : List Block). length bs ≤ 400) (sym c.blocks-2.ensures) (omega (arith, most))

pub returns : goal.returns
returns c = subst (λ (bs : List Block). IfOk c.runs_placed.result (λ b. IsTrue b ↔ RunsThrough c.args.instance.now (placed bs))) c.blocks-2.ensures c.runs_placed.ensures
