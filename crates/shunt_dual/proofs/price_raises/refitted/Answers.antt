use Rattle.std.specs.Prelude.{All, List}
use Rattle.std.proofs.Common.{length, refl, subst, sym}
use Rattle.shunt_choices.specs.defs.Paths.{Masks}
use Rattle.shunt_dual.specs.declared.unit_values.Ask.{Ask}
use Rattle.shunt_dual.specs.defs.Refits.{IsMet, AreUnitsRefit}
use Rattle.shunt_dual.specs.defs.Asks.{shapes_asked}
use Rattle.shunt_dual.proofs.Refitted.{hold_to, refit_is}
use Rattle.shunt_dual.proofs.price_raises.refitted.Goals as goal
use Rattle.shunt_choices.proofs.Trails.{units_long, as_many_units}
use Rattle.shunt_choices.specs.defs.Choices.{AreFreeShapes}

pub refit_values-requires-clause-met : goal.refit_values-requires-clause-met
refit_values-requires-clause-met c =
    let free = subst (λ (m : Masks). AreFreeShapes c.args.instance.now m (shapes_asked c.args.demands.now)) c.requires.path.covered c.requires.demands.free in
    subst (λ (asks : List Ask). All (IsMet c.args.alpha.now) asks) (sym c.deref.ensures.value)
    (hold_to c.args.instance.now c.args.path.now.blocks c.args.beta.now c.args.prices.now
    (shapes_asked c.args.demands.now) c.in_ok-asks.asks.items free c.in_ok-asks.ensures.exact c.args.alpha.now c.requires.held.hold)

pub refit_values-requires-clause-covered : goal.refit_values-requires-clause-covered
refit_values-requires-clause-covered c =
    as_many_units c.args.instance.now c.args.path.now.blocks c.units-2.result.now c.args.alpha.now c.args.alpha.now
    (units_long c.args.instance.now c.args.path.now c.covered.result.now c.units-2.result.now c.units-2.ensures c.covered.ensures c.requires.path) refl c.requires.held.are.alphas

pub returns : goal.returns
returns c =
    let free = subst (λ (m : Masks). AreFreeShapes c.args.instance.now m (shapes_asked c.args.demands.now)) c.requires.path.covered c.requires.demands.free in
    let h = c.in_ok-values.ensures in
    let is = refit_is c.args.instance.now c.args.path.now.blocks c.args.beta.now c.args.prices.now
    (shapes_asked c.args.demands.now) c.in_ok-asks.asks.items free c.in_ok-asks.ensures.exact
    (λ night path d u z lt size bare. c.price_steps.ensures.alpha night path d u z lt size bare)
    (length c.args.alpha.now) c.units-2.result.now c.args.alpha.now c.in_ok-values.values.alpha c.in_ok-values.values.risen c.requires.held.are
    (units_long c.args.instance.now c.args.path.now c.covered.result.now c.units-2.result.now c.units-2.ensures c.covered.ensures c.requires.path) c.requires.held.are.alphas in
    is (subst (λ (asks : List Ask). AreUnitsRefit asks c.units-2.result.now (length c.args.alpha.now) c.args.alpha.now c.in_ok-values.values.alpha c.in_ok-values.values.risen)
    c.deref.ensures.value h.refit) h.alphas
    (subst (λ (asks : List Ask). All (IsMet c.in_ok-values.values.alpha) asks) c.deref.ensures.value h.met) h.small
