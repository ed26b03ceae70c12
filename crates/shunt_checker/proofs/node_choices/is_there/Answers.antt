use Rattle.std.proofs.Common.{sym, ◌∙◌}
use Rattle.shunt_checker.proofs.Nexts.{next_in}
use Rattle.shunt_checker.proofs.node_choices.is_there.Goals as goal
use Rattle.shunt_choices.proofs.Trails.{masks_fit}

pub offer_at-offer-requires : goal.offer_at-offer-requires
offer_at-offer-requires c = next_in c.args.instance.now c.args.path.now c.in-Some.u c.requires.path (sym c.next_unit.ensures ∙ c.in-Some.is)

pub is_choice-requires-clause-covered : goal.is_choice-requires-clause-covered
is_choice-requires-clause-covered c = masks_fit c.args.instance.now c.args.path.now c.covered.result.now c.covered.ensures c.requires.path
