use Rattle.std.proofs.Common.{sym, subst}
use Rattle.shunt_choices.specs.defs.Paths.{Masks}
use Rattle.shunt_matching.specs.defs.Nights.{IsShortageOf}
use Rattle.shunt_search.proofs.preparation.matched_rest.Goals as goal

pub returns-clause-exact : goal.returns-clause-exact
returns-clause-exact c = λ s e.
    subst (λ (m : Masks). IsShortageOf c.args.instance.now m.units m.places s) (c.ready_starts.ensures.covered c.args.instance.now c.args.pins.now c.args.path.now c.requires.path
    c.requires.start) (c.matched.ensures.exact s e)

pub returns-clause-only : goal.returns-clause-only
returns-clause-only c = λ s h.
    c.matched.ensures.only s (subst (λ (m : Masks). IsShortageOf c.args.instance.now m.units m.places s)
    (sym (c.ready_starts.ensures.covered c.args.instance.now c.args.pins.now c.args.path.now c.requires.path c.requires.start)) h)
