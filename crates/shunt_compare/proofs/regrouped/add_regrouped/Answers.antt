use Rattle.std.proofs.Common.{◌+◌, List, sym, subst}
use Rattle.shunt_blocks.specs.declared.records.Block.{Block}
use Rattle.shunt_blocks.specs.defs.Shapes.{begins_at}
use Rattle.shunt_compare.specs.defs.Changes.{AreBelow, IsRegrouped}
use Rattle.shunt_compare.proofs.Below.{passed_over, put_behind}
use Rattle.shunt_compare.proofs.Placed.{one_beginning}
use Rattle.shunt_compare.proofs.regrouped.add_regrouped.Goals as goal

pub returns-in_default : goal.returns-in_default
returns-in_default c = passed_over (begins_at c.args.instance.now) (IsRegrouped c.args.was.now c.args.now.now) c.args.unit c.args.blocks.now.items c.requires.blocks
    c.in_default.ensures.none

pub returns : goal.returns
returns c = subst (λ (xs : List Block). AreBelow (begins_at c.args.instance.now) (IsRegrouped c.args.was.now c.args.now.now) (c.args.unit + 1) xs) (sym c.in_ok-push.ensures.items)
    (put_behind (begins_at c.args.instance.now) (IsRegrouped c.args.was.now c.args.now.now) c.args.unit c.args.blocks.now.items c.in-Some.block c.requires.blocks
    c.in-Some.ensures.begins c.in-Some.ensures.some
    (λ other at h. one_beginning c.args.instance.now c.args.was.now c.args.now.now c.requires.now c.in-Some.block other c.args.unit c.requires.unit c.in-Some.ensures.begins at
    c.in-Some.ensures.some h))
