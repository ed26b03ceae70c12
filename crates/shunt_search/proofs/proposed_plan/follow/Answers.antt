use Rattle.std.proofs.Common.{List, sym, subst, ap}
use Rattle.shunt_lists.specs.defs.Members.{In}
use Rattle.shunt_blocks.specs.declared.records.Block.{Block}
use Rattle.shunt_choices.specs.defs.Paths.{Trail, IsPartialPlan}
use Rattle.shunt_search.specs.declared.child.Child.{Child}
use Rattle.shunt_search.specs.defs.Judges.{version_of}
use Rattle.shunt_search.proofs.proposed_plan.follow.Goals as goal

pub push-requires-clause-next : goal.push-requires-clause-next
push-requires-clause-next c =
    let child = c.in-Some.child in
    (c.in_ok-children.ensures.each child (subst (λ (l : List Child). In child l) c.deref.ensures.value c.in-Some.ensures)).next

pub returns-clause-partial : goal.returns-clause-partial
returns-clause-partial c = λ pins plan.
    let child = c.in-Some.child in
    subst (λ (l : List Block). IsPartialPlan c.args.instance.now pins l) (sym (ap (λ (t : Trail). t.blocks) c.push.ensures.path))
    (c.open_plans.ensures (version_of c.args.judge.now) c.args.instance.now pins c.args.yard.now.path.blocks c.args.cases.now c.args.best child plan
    (c.in_ok-children.ensures.each child (subst (λ (l : List Child). In child l) c.deref.ensures.value c.in-Some.ensures)))

pub push-requires-clause-through : goal.push-requires-clause-through
push-requires-clause-through c =
    let child = c.in-Some.child in
    (c.in_ok-children.ensures.each child (subst (λ (l : List Child). In child l) c.deref.ensures.value c.in-Some.ensures)).through
