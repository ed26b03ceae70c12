use Rattle.std.proofs.Common.{◌≡◌, ◌+◌, ◌++◌, ◌∷◌, [], subst, ap, arith}
use Rattle.shunt_store.specs.defs.Files.{BothTold}
use Rattle.shunt_search.specs.declared.known.KnownPlan.{KnownPlan}
use Rattle.shunt_search.specs.declared.notes.NodeNoted.{NodeNoted}
use Rattle.shunt_search.specs.defs.Judges.{version_of}
use Rattle.shunt_search.specs.defs.WalkStates.{node_below, cases_of}
use Rattle.shunt_search.specs.defs.SearchStates.{Arrives}
use Rattle.shunt_search.proofs.ToldNodes.{tells_both}
use Rattle.shunt_search.proofs.search.arrive.Goals as goal

pub visit-requires-clause-ready : goal.visit-requires-clause-ready
visit-requires-clause-ready g c = c.searches_go_on.ensures.ready (version_of c.args.guide.now.judge) c.args.instance.now c.args.pins.now c.args.guide.now.tree.stock.items
    (g.R.Recorder.told c.args.recorder.now) (g.R.Recorder.number c.args.recorder.now)
    (g.R.Recorder.cases c.args.recorder.now) c.args.search.now.waiting.items c.args.next c.args.search.now c.units.ensures.formed c.requires.search c.requires.below

pub returns-then-whole-clause-search : goal.returns-then-whole-clause-search
returns-then-whole-clause-search g c =
    let stock = c.args.guide.now.tree.stock.items in
    let old = c.args.search.now in
    let is = c.is_noted_whole-whole.ensures.yes c.if-whole.true in
    let arrives = subst (λ (h : NodeNoted). Arrives (version_of c.args.guide.now.judge) c.args.instance.now stock old c.visit.new.search c.args.next h old.waiting.items) is
    c.in_ok-how.ensures.arrives in
    let told = subst (λ (h : NodeNoted). BothTold (g.R.Recorder.told c.args.recorder.now) (g.R.Recorder.told c.visit.new.recorder)
    (λ x y. y ≡ x ++ node_below old.yard.path.pins c.args.next.child.block stock h ∷ [])) is c.in_ok-how.ensures.told in
    let cases = subst (λ (h : NodeNoted). g.R.Recorder.cases c.visit.new.recorder ≡ g.R.Recorder.cases c.args.recorder.now + cases_of stock h) is c.in_ok-how.ensures.cases in
    c.searches_go_on.ensures.whole (version_of c.args.guide.now.judge) c.args.instance.now c.args.pins.now stock (g.R.Recorder.told c.args.recorder.now)
    (g.R.Recorder.told c.visit.new.recorder) (g.R.Recorder.number c.args.recorder.now) (g.R.Recorder.number c.visit.new.recorder) (g.R.Recorder.cases c.args.recorder.now)
    (g.R.Recorder.cases c.visit.new.recorder)
    old.waiting.items c.args.next old c.visit.new.search c.take_whole.new.search c.units.ensures.formed c.requires.search c.requires.below arrives c.in_ok-how.ensures.number cases
    told c.in_ok-take_whole.ensures

pub returns-clause-search : goal.returns-clause-search
returns-clause-search g c =
    let stock = c.args.guide.now.tree.stock.items in
    c.searches_go_on.ensures.branch (version_of c.args.guide.now.judge) c.args.instance.now c.args.pins.now stock (g.R.Recorder.told c.args.recorder.now)
    (g.R.Recorder.told c.visit.new.recorder) (g.R.Recorder.number c.args.recorder.now) (g.R.Recorder.number c.visit.new.recorder) (g.R.Recorder.cases c.args.recorder.now)
    (g.R.Recorder.cases c.visit.new.recorder)
    c.args.search.now.waiting.items c.args.next c.args.search.now c.visit.new.search c.in_ok-how.how c.units.ensures.formed c.requires.search c.requires.below
    c.in_ok-how.ensures.arrives (c.is_noted_whole-whole.ensures.no c.if-whole.false) c.in_ok-how.ensures.number c.in_ok-how.ensures.cases c.in_ok-how.ensures.told

pub returns-then-whole-clause-tells : goal.returns-then-whole-clause-tells
returns-then-whole-clause-tells g c =
    tells_both (g.R.Recorder.told c.args.recorder.now) (g.R.Recorder.told c.visit.new.recorder)
    (λ x y. y ≡ x ++ node_below c.args.search.now.yard.path.pins c.args.next.child.block c.args.guide.now.tree.stock.items c.in_ok-how.how ∷ []) c.in_ok-how.ensures.told

pub returns-clause-tells : goal.returns-clause-tells
returns-clause-tells g c =
    tells_both (g.R.Recorder.told c.args.recorder.now) (g.R.Recorder.told c.visit.new.recorder)
    (λ x y. y ≡ x ++ node_below c.args.search.now.yard.path.pins c.args.next.child.block c.args.guide.now.tree.stock.items c.in_ok-how.how ∷ []) c.in_ok-how.ensures.told

pub returns-then-whole-clause-cheaper : goal.returns-then-whole-clause-cheaper
returns-then-whole-clause-cheaper g c =
    let same = ap (λ (k : KnownPlan). k.cost) c.in_ok-how.ensures.arrives.known in
    let less = c.in_ok-take_whole.ensures.cheaper.known in
    omega (arith, same, less)

pub returns-clause-cheaper : goal.returns-clause-cheaper
returns-clause-cheaper g c = let same = ap (λ (k : KnownPlan). k.cost) c.in_ok-how.ensures.arrives.known in omega (arith, same)
