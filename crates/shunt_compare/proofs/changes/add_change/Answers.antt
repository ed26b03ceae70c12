use Rattle.std.proofs.Common.{◌+◌, List, sym, subst, ◌∙◌, arith}
use Rattle.shunt_compare.specs.declared.records.Change.{Change}
use Rattle.shunt_compare.specs.defs.Changes.{AreBelow, IsChange}
use Rattle.shunt_compare.proofs.Below.{passed_over, put_behind}
use Rattle.shunt_compare.proofs.Placed.{one_change}
use Rattle.shunt_compare.proofs.changes.add_change.Goals as goal

pub returns-in_default : goal.returns-in_default
returns-in_default c = passed_over (λ (x : Change). x.unit) (IsChange c.args.instance.now c.args.was.now c.args.now.now) c.args.unit c.args.changes.now.items c.requires.changes
    c.in_default.ensures.none

pub returns : goal.returns
returns c = subst (λ (xs : List Change). AreBelow (λ (x : Change). x.unit) (IsChange c.args.instance.now c.args.was.now c.args.now.now) (c.args.unit + 1) xs)
    (sym c.in_ok-push.ensures.items)
    (put_behind (λ (x : Change). x.unit) (IsChange c.args.instance.now c.args.was.now c.args.now.now) c.args.unit c.args.changes.now.items c.in-Some.change c.requires.changes
    c.in-Some.ensures.unit c.in-Some.ensures.some
    (λ other at h. one_change c.args.instance.now c.args.was.now c.args.now.now c.requires.was c.requires.now c.in-Some.change other
    (omega (arith, c.in-Some.ensures.unit, c.requires.unit))
    (at ∙ sym c.in-Some.ensures.unit) c.in-Some.ensures.some h))
