use Rattle.std.proofs.Common.{◌++◌, List, length, subst, ap, ◌∙◌, arith}
use Rattle.shunt_blocks.specs.declared.records.Block.{Block}
use Rattle.shunt_blocks.specs.defs.Lists.{placed}
use Rattle.shunt_blocks.specs.defs.Pins.{singles}
use Rattle.shunt_choices.specs.defs.Paths.{Masks}
use Rattle.shunt_matching.specs.defs.Nights.{MatchesRest}
use Rattle.shunt_search.proofs.Placed.{placed_long}
use Rattle.shunt_search.proofs.start_plan.opening_plan.Goals as goal

pub placed_blocks-requires : goal.placed_blocks-requires
placed_blocks-requires c =
    let night = c.args.instance.now in
    let pins = c.args.pins.now in
    let place = c.args.place.now in
    let blocks = pins ++ singles night pins place in
    let rest = subst (λ (m : Masks). MatchesRest night m.units m.places place) c.requires.covered c.requires.matching in
    let feasible = c.opening_plans.ensures.feasible night pins place c.units.ensures.formed c.requires.usable rest in
    let few = c.feasible_lists.ensures.few night (placed blocks) c.units.ensures.formed feasible in
    let long = placed_long blocks in
    let size = ap (λ (l : List Block). length l) (c.deref.ensures.value ∙ c.in_ok-all.ensures) in
    omega (arith, few, long, size)

pub path_cost-cost-requires-clause-few : goal.path_cost-cost-requires-clause-few
path_cost-cost-requires-clause-few c =
    let night = c.args.instance.now in
    let pins = c.args.pins.now in
    let place = c.args.place.now in
    let blocks = pins ++ singles night pins place in
    let rest = subst (λ (m : Masks). MatchesRest night m.units m.places place) c.requires.covered c.requires.matching in
    let feasible = c.opening_plans.ensures.feasible night pins place c.units.ensures.formed c.requires.usable rest in
    let few = c.feasible_lists.ensures.few night (placed blocks) c.units.ensures.formed feasible in
    let same = ap (λ (l : List Block). placed l) (c.deref.ensures.value ∙ c.in_ok-all.ensures) in
    let size = ap (λ (l : List Block). length l) (c.deref-2.ensures.value ∙ c.in_ok-blocks.ensures ∙ same) in
    omega (arith, few, size)
