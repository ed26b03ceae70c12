use Rattle.std.specs.Prelude.{All}
use Rattle.std.proofs.Common.{rules, ◌≡◌, ◌+◌, List, length, map, sym, subst, ap, ◌∙◌}
use Rattle.shunt_blocks.specs.declared.records.Block.{Block}
use Rattle.shunt_choices.specs.defs.Choices.{Choice, choices_at}
use Rattle.shunt_search.specs.defs.Judges.{version_of}
use Rattle.shunt_search.specs.defs.Yards.{AreOpen, choice_of}
use Rattle.shunt_search.proofs.Offered.{are_next, are_children, choices_differ}
use Rattle.shunt_search.proofs.Reordered.{reordered}
use Rattle.shunt_search.proofs.children.plan_children.Goals as goal

pub open_ones-requires-clause-next : goal.open_ones-requires-clause-next
open_ones-requires-clause-next c =
    let night = c.args.instance.now in
    let path = c.args.yard.now.path.blocks in
    are_next (version_of c.args.judge.now) night path c.args.cases.now c.args.best c.deref.result.now (choices_at night path)
    (λ k. c.choices.ensures.at_path night path k c.units.ensures.formed)
    (ap (λ (l : List Block). map choice_of l) c.deref.ensures.value ∙ c.in_ok-blocks.ensures.choices)
    (subst (λ (l : List Block). All (λ b. b.id ≡ length path + 1) l) (sym c.deref.ensures.value) c.in_ok-blocks.ensures.ids)

pub returns : goal.returns
returns c =
    let night = c.args.instance.now in
    let path = c.args.yard.now.path.blocks in
    reordered (version_of c.args.judge.now) night path c.args.cases.now c.args.best c.in_ok-children.children.items c.sort_unstable_by_key.new.self.items (search rules)
    (are_children (version_of c.args.judge.now) night path c.args.cases.now c.args.best (choices_at night path) c.in_ok-children.children.items
    (λ k. c.choices.ensures.at_path night path k c.units.ensures.formed)
    (choices_differ night path (λ covered u lt. c.choices.ensures.once night covered u c.units.ensures.formed))
    (subst (λ (l : List Choice). AreOpen (version_of c.args.judge.now) night path c.args.cases.now c.args.best l c.in_ok-children.children.items)
    (ap (λ (l : List Block). map choice_of l) c.deref.ensures.value ∙ c.in_ok-blocks.ensures.choices) c.in_ok-children.ensures))
