use Rattle.std.proofs.Common.{[], sym, subst, ap, arith, List}
use Rattle.shunt_search.specs.declared.known.KnownPlan.{KnownPlan}
use Rattle.shunt_search.specs.declared.walk_stack.Pending.{Pending}
use Rattle.shunt_search.specs.defs.Judges.{version_of}
use Rattle.shunt_search.specs.defs.SearchStates.{IsSearch}
use Rattle.shunt_search.proofs.ToldNodes.{tells_same}
use Rattle.shunt_search.proofs.search.advance.Goals as goal

pub take_next-requires-clause-within : goal.take_next-requires-clause-within
take_next-requires-clause-within g c = c.requires.search.walk.within

pub arrive-requires-clause-search : goal.arrive-requires-clause-search
arrive-requires-clause-search g c =
    c.searches_go_on.ensures.closed (version_of c.args.guide.now.judge) c.args.instance.now c.args.pins.now c.args.guide.now.tree.stock.items
    (g.R.Recorder.told c.args.recorder.now) (g.R.Recorder.number c.args.recorder.now)
    (g.R.Recorder.cases c.args.recorder.now) c.args.search.now.waiting.items _ c.args.search.now c.take_next.new.search
    c.requires.search c.in-Some.ensures.some

pub returns-in_default-clause-search : goal.returns-in_default-clause-search
returns-in_default-clause-search g c =
    subst (λ (l : List Pending). IsSearch (version_of c.args.guide.now.judge) c.args.instance.now c.args.pins.now c.args.guide.now.tree.stock.items
    (g.R.Recorder.told c.args.recorder.now) (g.R.Recorder.number c.args.recorder.now) (g.R.Recorder.cases c.args.recorder.now) l c.take_next.new.search)
    (sym c.in_default.ensures.empty)
    (c.searches_go_on.ensures.closed (version_of c.args.guide.now.judge) c.args.instance.now c.args.pins.now c.args.guide.now.tree.stock.items
    (g.R.Recorder.told c.args.recorder.now) (g.R.Recorder.number c.args.recorder.now)
    (g.R.Recorder.cases c.args.recorder.now) c.args.search.now.waiting.items [] c.args.search.now c.take_next.new.search
    c.requires.search c.in_default.ensures.none)

pub returns-in_default-clause-tells : goal.returns-in_default-clause-tells
returns-in_default-clause-tells g c = tells_same (g.R.Recorder.told c.args.recorder.now)

pub returns-in_default-clause-keeps : goal.returns-in_default-clause-keeps
returns-in_default-clause-keeps g c = g.R.Recorder.keeps_same _

pub returns-in_default-clause-cheaper : goal.returns-in_default-clause-cheaper
returns-in_default-clause-cheaper g c = let same = ap (λ (k : KnownPlan). k.cost) c.in_default.ensures.none.known in omega (arith, same)

pub returns-clause-cheaper : goal.returns-clause-cheaper
returns-clause-cheaper g c =
    let same = ap (λ (k : KnownPlan). k.cost) c.in-Some.ensures.some.known in
    let less = c.in_ok-arrive.ensures.cheaper in
    omega (arith, same, less)
