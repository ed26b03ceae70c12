use Rattle.std.proofs.Common.{List, Bool, length, ap, ◌∙◌, arith}
use Rattle.shunt_search.proofs.Singles.{covered_long, more_singles}
use Rattle.shunt_search.proofs.start_plan.with_singles.Goals as goal

pub add_single-requires-clause-covered : goal.add_single-requires-clause-covered
add_single-requires-clause-covered c = ap (λ (l : List Bool). length l) c.units.ensures ∙ covered_long c.args.instance.now c.args.pins.now c.args.covered.now c.requires.covered

pub loop-unit-preserved : goal.loop-unit-preserved
loop-unit-preserved c =
    more_singles c.args.instance.now c.args.pins.now c.args.covered.now c.args.place.now c.requires.covered c.units.result.now c.units.ensures c.loop-unit.unit
    (let lt = c.loop-unit-test.true in let end = c.units-unit-end.ensures.exact in omega (arith, lt, end))
    c.loop-unit.blocks.items c.add_single.new.blocks.items c.loop-unit.invariant c.in_ok-add_single.ensures
