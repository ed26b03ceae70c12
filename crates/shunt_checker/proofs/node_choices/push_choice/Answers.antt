use Rattle.std.proofs.Common.{sym, subst, ◌∙◌}
use Rattle.shunt_choices.specs.defs.Choices.{IsChoice}
use Rattle.shunt_proof.specs.defs.Trees.{choice_from}
use Rattle.shunt_checker.proofs.Nexts.{next_in}
use Rattle.shunt_checker.proofs.NextBlocks.{some_next, choice_here, longer_is}
use Rattle.shunt_checker.proofs.node_choices.push_choice.Goals as goal

pub unreachable-requires : goal.unreachable-requires
unreachable-requires c =
    some_next c.args.instance.now c.args.path.now c.requires.path (choice_from c.args.instance.now c.args.path.now.blocks c.args.choice) c.requires.there
    (sym c.next_unit.ensures ∙ c.in_default.is)

pub offer_at-offer-requires : goal.offer_at-offer-requires
offer_at-offer-requires c = next_in c.args.instance.now c.args.path.now c.in-Some.u c.requires.path (sym c.next_unit.ensures ∙ c.in-Some.is)

pub push_offer-requires-clause-next : goal.push_offer-requires-clause-next
push_offer-requires-clause-next c = sym c.next_unit.ensures ∙ c.in-Some.is

pub push_offer-requires-clause-there : goal.push_offer-requires-clause-there
push_offer-requires-clause-there c =
    subst (IsChoice c.args.instance.now c.args.path.now.covered c.in-Some.u) (sym c.offer_at-offer.ensures.exact)
    (choice_here c.args.instance.now c.args.path.now c.requires.path c.in-Some.u (sym c.next_unit.ensures ∙ c.in-Some.is) c.args.choice c.requires.there)

pub returns-clause-blocks : goal.returns-clause-blocks
returns-clause-blocks c =
    longer_is c.args.instance.now c.args.path.now c.requires.path c.in-Some.u (sym c.next_unit.ensures
    ∙ c.in-Some.is) c.args.choice c.offer_at-offer.result c.push_offer.new.path.blocks c.offer_at-offer.ensures.exact c.push_offer.ensures.blocks
