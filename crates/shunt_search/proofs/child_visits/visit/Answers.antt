use Rattle.std.specs.Prelude.{IfSome}
use Rattle.std.proofs.Common.{List, sym, subst, ap, ◌∙◌, arith}
use Rattle.shunt_proof.specs.defs.Nodes.{FitsNode, CanFollow}
use Rattle.shunt_blocks.specs.declared.records.Block.{Block}
use Rattle.shunt_search.specs.declared.yard.Yard.{Yard}
use Rattle.shunt_search.specs.defs.Judges.{version_of}
use Rattle.shunt_search.specs.defs.Yards.{IsYard}
use Rattle.shunt_search.specs.defs.WalkStates.{node_below, place_of, IsNoted, Opens}
use Rattle.shunt_search.proofs.YardChanges.{few_path}
use Rattle.shunt_search.proofs.Visits.{deep, few, fits}
use Rattle.shunt_search.proofs.child_visits.visit.Goals as goal

pub note_below-requires-clause-few : goal.note_below-requires-clause-few
note_below-requires-clause-few g c =
    let night = c.args.instance.now in
    let most = few_path c.few_blocks.ensures.most night c.go_to.new.yard.path c.units.result c.go_to.ensures.yard.path c.units.ensures.exact c.units.ensures.few in
    few night c.args.search.now.yard.path.blocks c.args.next.now.child c.requires.ready.next c.pins-pins.result c.go_to.new.yard.path.blocks c.go_to.ensures.path most

pub note_below-requires-clause-fits : goal.note_below-requires-clause-fits
note_below-requires-clause-fits g c =
    let night = c.args.instance.now in
    let stock = c.args.guide.now.tree.stock.items in
    let path = c.args.search.now.yard.path.blocks in
    let next = c.args.next.now.child in
    let pins = c.args.search.now.yard.path.pins in
    let most = few_path c.few_blocks.ensures.most night c.go_to.new.yard.path c.units.result c.go_to.ensures.yard.path c.units.ensures.exact c.units.ensures.few in
    subst (λ n. FitsNode night (node_below n next.block stock c.in_ok-how.how)) (sym c.pins-pins.ensures)
    (fits night path next c.requires.ready.next c.next_nodes.ensures c.units.ensures.formed stock c.requires.stocked.each c.in_ok-how.how c.in_ok-how.ensures.there pins
    c.requires.yard.pins (deep night path next c.requires.ready.next pins c.requires.ready.pins)
    (few night path next c.requires.ready.next pins c.go_to.new.yard.path.blocks c.go_to.ensures.path most))

pub note_below-requires-clause-place : goal.note_below-requires-clause-place
note_below-requires-clause-place g c =
    subst (λ n. IfSome (g.R.Recorder.told c.args.recorder.now) (λ nodes. CanFollow nodes
    (node_below n c.args.next.now.child.block c.args.guide.now.tree.stock.items c.in_ok-how.how))) (sym c.pins-pins.ensures)
    (c.requires.ready.place c.in_ok-how.how c.in_ok-how.ensures.there)

pub returns-clause-arrives : goal.returns-clause-arrives
returns-clause-arrives g c =
    record {
      path = ap (λ (z : Yard). z.path.blocks) c.list_children.ensures.yard ∙ c.go_to.ensures.path;
      pins = ap (λ (z : Yard). z.path.pins) c.list_children.ensures.yard ∙ c.go_to.ensures.pins;
      yard = subst (λ (z : Yard). IsYard c.args.instance.now z) (sym c.list_children.ensures.yard) c.go_to.ensures.yard;
      is_noted = subst (λ (l : List Block). IsNoted (version_of c.args.guide.now.judge) c.args.instance.now c.args.guide.now.tree.stock.items l c.args.search.now.known.cost
          c.args.next.now.child.bound c.in_ok-how.how) c.go_to.ensures.path c.in_ok-how.ensures.noted;
      opens = subst (λ (l : List Block). Opens (version_of c.args.guide.now.judge) c.args.instance.now c.args.guide.now.tree.stock.items c.args.search.now.known.cost l
          c.args.search.now.count (place_of c.in_ok-how.how c.args.next.now.cases) c.args.search.now.waiting.items c.list_children.new.search.waiting.items) c.go_to.ensures.path
          c.in_ok-list_children.ensures.opens;
      known = c.list_children.ensures.known;
      low = c.list_children.ensures.low;
      floor = c.list_children.ensures.floor;
      plain = c.list_children.ensures.plain;
      counted = let same = c.list_children.ensures.count in omega (arith, same);
      cases_counted = let same = c.list_children.ensures.owned in let own = c.count_cases-own.ensures in omega (arith, same, own);
      room = let same = c.list_children.ensures.owned in let own = c.count_cases-own.ensures in let room = c.in_ok-how.ensures.room in omega (arith, same, own, room);
    }
