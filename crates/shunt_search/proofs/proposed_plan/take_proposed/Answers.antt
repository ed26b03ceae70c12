use Rattle.shunt_search.proofs.proposed_plan.take_proposed.Goals as goal

pub returns-then-whole-clause-best : goal.returns-then-whole-clause-best
returns-then-whole-clause-best c =
    c.kept_plans.ensures c.args.instance.now c.args.pins.now c.in_ok-yard.yard.path c.args.known.now c.keep_cheaper.new.known c.units.ensures.formed c.in_ok-yard.ensures.yard.path
    c.in_ok-yard.ensures.partial (c.is_whole-whole.ensures.yes c.if-whole.true) c.requires.even c.requires.best c.in_ok-keep_cheaper.ensures
