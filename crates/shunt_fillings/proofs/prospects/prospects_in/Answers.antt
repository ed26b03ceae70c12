use Rattle.std.proofs.Common.{get_or, subst, sym}
use Rattle.shunt_base.specs.declared.ids.Side.TheVariants.{A}
use Rattle.shunt_dual.specs.defs.Offers.{AreOffers}
use Rattle.shunt_stacks.specs.defs.Stacks.{stacks}
use Rattle.shunt_fillings.specs.declared.ends.Stack.{Stack}
use Rattle.shunt_fillings.specs.defs.Pieces.{seen}
use Rattle.shunt_fillings.specs.defs.Prospects.{IsProspect}
use Rattle.shunt_fillings.proofs.Listed.{zip_after, seen_in}
use Rattle.shunt_fillings.proofs.Looked.{shapes_within}
use Rattle.shunt_fillings.proofs.prospects.prospects_in.Goals as goal

pub offers-requires-clause-within : goal.offers-requires-clause-within
offers-requires-clause-within c = shapes_within c.args.scene.now c.requires.scene

pub prospect_of-requires-clause-track : goal.prospect_of-requires-clause-track
prospect_of-requires-clause-track c =
    let s = c.args.scene.now in
    let d : Stack = record { track = record { 0 = 0 }; side = A } in
    let there = seen_in s.stacks.now c.stacks.stack-index d (stacks s.instance.now.station) c.stacks-test.true c.requires.scene.stacks in
    ((c.stacks_of_stations.ensures.open_at s.instance.now.station (seen (get_or s.stacks.now c.stacks.stack-index d))).0 there).0

pub prospect_of-requires-clause-offers : goal.prospect_of-requires-clause-offers
prospect_of-requires-clause-offers c =
    let s = c.args.scene.now in
    (c.args.case.now, c.requires.case, subst (AreOffers s.instance.now c.args.case.now.duals s.shapes.now) (sym c.deref.ensures.value) c.in_ok-offers.ensures)

pub stacks-preserved : goal.stacks-preserved
stacks-preserved c =
    let s = c.args.scene.now in
    let d : Stack = record { track = record { 0 = 0 }; side = A } in
    let offers = subst (AreOffers s.instance.now c.args.case.now.duals s.shapes.now) (sym c.deref.ensures.value) c.in_ok-offers.ensures in
    zip_after (IsProspect s.instance.now s.path.now.blocks c.args.case.now) s.stacks.now c.stacks.stack-index d c.stacks.prospects.items c.push.new.self.items
    c.in_ok-prospect_of.field-0 c.stacks-test.true c.in_ok-push.ensures.items
    c.stacks.invariant (c.in_ok-prospect_of.ensures c.args.case.now c.requires.case offers)
