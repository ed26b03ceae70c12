use Rattle.std.proofs.Common.{refl, sym, subst, ℕ, arith}
use Rattle.shunt_search.specs.defs.Conditions.{AreSpent}
use Rattle.shunt_search.proofs.Concluded.{low_enough, shown_at_end}
use Rattle.shunt_search.proofs.solver.conclude.Goals as goal

pub bound_left-bound-requires : goal.bound_left-bound-requires
bound_left-bound-requires g c = λ low left.
    c.searches_end.ensures.natural c.args.version c.args.instance.now c.args.pins.now c.requires.search.0 (g.R.Recorder.told c.args.recorder.now)
    (g.R.Recorder.number c.args.recorder.now) (g.R.Recorder.cases c.args.recorder.now) c.args.search low c.units.ensures.formed c.requires.search.1 left

pub returns-clause-meets : goal.returns-clause-meets
returns-clause-meets g c =
    let night = c.args.instance.now in
    let end = c.searches_end.ensures.end c.args.version night c.args.pins.now c.requires.search.0 (g.R.Recorder.told c.args.recorder.now) (g.R.Recorder.number c.args.recorder.now)
    (g.R.Recorder.cases c.args.recorder.now) c.args.nodes c.bound_left-bound.result c.args.search c.in_ok-plan.plan c.units.ensures.formed c.requires.search.1
    c.bound_left-bound.ensures
    c.in_ok-plan.ensures.plan c.in_ok-plan.ensures.tidy (low_enough night c.in_ok-plan.plan.blocks c.deref.result.now c.args.search.known.blocks.items c.args.search.known.cost
    c.deref.ensures.value c.in_ok-plan.ensures.cheaper c.requires.search.1.best.cost) c.requires.most c.requires.few c.requires.done in
    record {
      plan_for = c.in_ok-plan.ensures.plan;
      tidy = c.in_ok-plan.ensures.tidy;
      cost = refl;
      above = end.above;
      spent = subst (λ (n : ℕ). AreSpent night c.args.pins.now c.args.nodes n c.in_ok-plan.plan.cost c.bound_left-bound.result) (sym c.requires.search.1.counted) end.spent;
    }

pub returns-clause-cheaper : goal.returns-clause-cheaper
returns-clause-cheaper g c =
    let states = c.in_ok-plan.ensures.plan.states in
    let less = low_enough c.args.instance.now c.in_ok-plan.plan.blocks c.deref.result.now c.args.search.known.blocks.items c.args.search.known.cost c.deref.ensures.value
    c.in_ok-plan.ensures.cheaper c.requires.search.1.best.cost in
    omega (arith, states, less)

pub returns-clause-opening : goal.returns-clause-opening
returns-clause-opening g c =
    let night = c.args.instance.now in
    let end = c.searches_end.ensures.end c.args.version night c.args.pins.now c.requires.search.0 (g.R.Recorder.told c.args.recorder.now) (g.R.Recorder.number c.args.recorder.now)
    (g.R.Recorder.cases c.args.recorder.now) c.args.nodes c.bound_left-bound.result c.args.search c.in_ok-plan.plan c.units.ensures.formed c.requires.search.1
    c.bound_left-bound.ensures
    c.in_ok-plan.ensures.plan c.in_ok-plan.ensures.tidy (low_enough night c.in_ok-plan.plan.blocks c.deref.result.now c.args.search.known.blocks.items c.args.search.known.cost
    c.deref.ensures.value c.in_ok-plan.ensures.cheaper c.requires.search.1.best.cost) c.requires.most c.requires.few c.requires.done in
    end.opening

pub returns-clause-bound : goal.returns-clause-bound
returns-clause-bound g c =
    let night = c.args.instance.now in
    let end = c.searches_end.ensures.end c.args.version night c.args.pins.now c.requires.search.0 (g.R.Recorder.told c.args.recorder.now) (g.R.Recorder.number c.args.recorder.now)
    (g.R.Recorder.cases c.args.recorder.now) c.args.nodes c.bound_left-bound.result c.args.search c.in_ok-plan.plan c.units.ensures.formed c.requires.search.1
    c.bound_left-bound.ensures
    c.in_ok-plan.ensures.plan c.in_ok-plan.ensures.tidy (low_enough night c.in_ok-plan.plan.blocks c.deref.result.now c.args.search.known.blocks.items c.args.search.known.cost
    c.deref.ensures.value c.in_ok-plan.ensures.cheaper c.requires.search.1.best.cost) c.requires.most c.requires.few c.requires.done in
    end.for_plans

pub finish-requires-clause-bound : goal.finish-requires-clause-bound
finish-requires-clause-bound g c =
    let night = c.args.instance.now in
    let end = c.searches_end.ensures.end c.args.version night c.args.pins.now c.requires.search.0 (g.R.Recorder.told c.args.recorder.now) (g.R.Recorder.number c.args.recorder.now)
    (g.R.Recorder.cases c.args.recorder.now) c.args.nodes c.bound_left-bound.result c.args.search c.in_ok-plan.plan c.units.ensures.formed c.requires.search.1
    c.bound_left-bound.ensures
    c.in_ok-plan.ensures.plan c.in_ok-plan.ensures.tidy (low_enough night c.in_ok-plan.plan.blocks c.deref.result.now c.args.search.known.blocks.items c.args.search.known.cost
    c.deref.ensures.value c.in_ok-plan.ensures.cheaper c.requires.search.1.best.cost) c.requires.most c.requires.few c.requires.done in
    end.shown.stated.bound

pub returns-clause-within : goal.returns-clause-within
returns-clause-within g c =
    let night = c.args.instance.now in
    let end = c.searches_end.ensures.end c.args.version night c.args.pins.now c.requires.search.0 (g.R.Recorder.told c.args.recorder.now) (g.R.Recorder.number c.args.recorder.now)
    (g.R.Recorder.cases c.args.recorder.now) c.args.nodes c.bound_left-bound.result c.args.search c.in_ok-plan.plan c.units.ensures.formed c.requires.search.1
    c.bound_left-bound.ensures
    c.in_ok-plan.ensures.plan c.in_ok-plan.ensures.tidy (low_enough night c.in_ok-plan.plan.blocks c.deref.result.now c.args.search.known.blocks.items c.args.search.known.cost
    c.deref.ensures.value c.in_ok-plan.ensures.cheaper c.requires.search.1.best.cost) c.requires.most c.requires.few c.requires.done in
    end.within

pub returns-clause-certificate : goal.returns-clause-certificate
returns-clause-certificate g c =
    let night = c.args.instance.now in
    let end = c.searches_end.ensures.end c.args.version night c.args.pins.now c.requires.search.0 (g.R.Recorder.told c.args.recorder.now) (g.R.Recorder.number c.args.recorder.now)
    (g.R.Recorder.cases c.args.recorder.now) c.args.nodes c.bound_left-bound.result c.args.search c.in_ok-plan.plan c.units.ensures.formed c.requires.search.1
    c.bound_left-bound.ensures
    c.in_ok-plan.ensures.plan c.in_ok-plan.ensures.tidy (low_enough night c.in_ok-plan.plan.blocks c.deref.result.now c.args.search.known.blocks.items c.args.search.known.cost
    c.deref.ensures.value c.in_ok-plan.ensures.cheaper c.requires.search.1.best.cost) c.requires.most c.requires.few c.requires.done in
    end.certificate

pub returns-clause-shown : goal.returns-clause-shown
returns-clause-shown g c =
    let night = c.args.instance.now in
    let end = c.searches_end.ensures.end c.args.version night c.args.pins.now c.requires.search.0 (g.R.Recorder.told c.args.recorder.now) (g.R.Recorder.number c.args.recorder.now)
    (g.R.Recorder.cases c.args.recorder.now) c.args.nodes c.bound_left-bound.result c.args.search c.in_ok-plan.plan c.units.ensures.formed c.requires.search.1
    c.bound_left-bound.ensures
    c.in_ok-plan.ensures.plan c.in_ok-plan.ensures.tidy (low_enough night c.in_ok-plan.plan.blocks c.deref.result.now c.args.search.known.blocks.items c.args.search.known.cost
    c.deref.ensures.value c.in_ok-plan.ensures.cheaper c.requires.search.1.best.cost) c.requires.most c.requires.few c.requires.done in
    shown_at_end c.args.version night c.args.pins.now c.args.nodes c.in_ok-plan.plan c.bound_left-bound.result c.args.search.count (g.R.Recorder.number c.args.recorder.now)
    (g.R.Recorder.told c.args.recorder.now) (g.R.Recorder.told c.finish.new.self) c.requires.search.1.counted c.in_ok-finish.ensures.told end.shown
