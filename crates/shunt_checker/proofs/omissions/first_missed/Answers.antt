use Rattle.std.specs.Prelude.{IfOk}
use Rattle.std.proofs.Common.{subst}
use Rattle.shunt_choices.specs.defs.Paths.{Masks}
use Rattle.shunt_proof.specs.declared.records.Version.TheVariants.{Stacks}
use Rattle.shunt_checker.specs.defs.Firsts.{Finds}
use Rattle.shunt_checker.specs.defs.Searches.{IsOneAt}
use Rattle.shunt_checker.specs.defs.Misses.{IsMissed}
use Rattle.shunt_checker.specs.defs.NodeFaults.{EarlierChoice}
use Rattle.shunt_checker.proofs.Nexts.{next_in}
use Rattle.shunt_checker.proofs.omissions.first_missed.Goals as goal
use Rattle.shunt_choices.proofs.Trails.{masks_fit}

pub found_at-requires-clause-covered : goal.found_at-requires-clause-covered
found_at-requires-clause-covered c = masks_fit c.args.instance.now c.args.branch.now.path.now c.covered.result.now c.covered.ensures c.requires.branch.path

pub found_at-requires-clause-fits : goal.found_at-requires-clause-fits
found_at-requires-clause-fits c = (c.requires.branch, c.covered.ensures)

pub found_at-requires-clause-unit : goal.found_at-requires-clause-unit
found_at-requires-clause-unit c = next_in c.args.instance.now c.args.branch.now.path.now c.args.u c.requires.branch.path c.requires.next

pub returns : goal.returns
returns c =
    let b = c.args.branch.now in
    subst (λ (m : Masks). IfOk c.found_at.result (Finds (IsOneAt c.args.instance.now m
    (IsMissed Stacks c.args.instance.now b.path.now.blocks b.cases.now b.nodes.now b.node b.stated) c.args.u) (EarlierChoice c.args.instance.now)))
    c.covered.ensures c.found_at.ensures
