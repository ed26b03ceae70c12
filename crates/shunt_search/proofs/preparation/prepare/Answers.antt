use Rattle.shunt_blocks.specs.defs.Lists.{total_cost}
use Rattle.shunt_search.proofs.Cheaper.{no_dearer}
use Rattle.shunt_search.proofs.preparation.prepare.Goals as goal

pub prepared-requires-clause-even : goal.prepared-requires-clause-even
prepared-requires-clause-even g c =
    (c.ready_starts.ensures.matching c.args.instance.now c.args.pins.now c.in_ok-yard.yard.path c.in_ok-matching.matching.place_of c.units.ensures.formed c.requires.usable
    c.in_ok-yard.ensures.yard.path c.in_ok-yard.ensures.start c.in_ok-matching.ensures.matching).1

pub prepared-requires-clause-matching : goal.prepared-requires-clause-matching
prepared-requires-clause-matching g c =
    (c.ready_starts.ensures.matching c.args.instance.now c.args.pins.now c.in_ok-yard.yard.path c.in_ok-matching.matching.place_of c.units.ensures.formed c.requires.usable
    c.in_ok-yard.ensures.yard.path c.in_ok-yard.ensures.start c.in_ok-matching.ensures.matching).0

pub returns-clause-never_worse : goal.returns-clause-never_worse
returns-clause-never_worse g c = no_dearer c.args.given (λ p. total_cost c.args.instance.now p.now) _ _ c.in_ok-found.ensures.cheaper c.in_ok-known.ensures.never_worse
