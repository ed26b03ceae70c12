use Rattle.std.proofs.Common.{◌∙◌, List, sym, subst, ap}
use Rattle.shunt_blocks.specs.declared.records.Block.{Block}
use Rattle.shunt_blocks.specs.defs.Lists.{RunsThrough, placed}
use Rattle.shunt_choices.specs.defs.Paths.{Trail}
use Rattle.shunt_search.specs.defs.Yards.{IsNextBlock, more_by}
use Rattle.shunt_search.proofs.notes.go_to.Goals as goal

pub push-requires-clause-next : goal.push-requires-clause-next
push-requires-clause-next c = subst (λ (l : List Block). IsNextBlock c.args.instance.now l c.args.next.now.block) (sym c.back_to.ensures.front) c.requires.next

pub push-requires-clause-through : goal.push-requires-clause-through
push-requires-clause-through c = subst (λ (l : List Block). RunsThrough c.args.instance.now (placed (more_by l c.args.next.now.block)))
    (sym c.back_to.ensures.front) c.requires.through

pub returns-clause-path : goal.returns-clause-path
returns-clause-path c = ap (λ (t : Trail). t.blocks) c.push.ensures.path ∙ ap (λ (l : List Block). more_by l c.args.next.now.block) c.back_to.ensures.front

pub returns-clause-pins : goal.returns-clause-pins
returns-clause-pins c = ap (λ (t : Trail). t.pins) c.push.ensures.path ∙ c.back_to.ensures.pins
