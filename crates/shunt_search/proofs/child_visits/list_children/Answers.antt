use Rattle.std.specs.Prelude.{Option, OnOk}
use Rattle.std.proofs.Common.{ℕ, sym, subst}
use Rattle.shunt_search.specs.defs.Judges.{version_of}
use Rattle.shunt_search.specs.defs.WalkStates.{Opens}
use Rattle.shunt_search.proofs.Visits.{place_in}
use Rattle.shunt_search.proofs.child_visits.list_children.Goals as goal

pub add_children-requires-clause-cases : goal.add_children-requires-clause-cases
add_children-requires-clause-cases c = place_in c.args.guide.now.tree.stock.items c.args.how c.args.next.now.cases c.in-Some.place
    (sym c.in-Some.ensures) c.requires.inherits c.requires.there

pub returns-clause-opens : goal.returns-clause-opens
returns-clause-opens c =
    let s = c.args.search.now in
    subst (λ (o : Option ℕ). OnOk c.add_children.result (Opens (version_of c.args.guide.now.judge) c.args.instance.now c.args.guide.now.tree.stock.items s.known.cost
    s.yard.path.blocks s.count o s.waiting.items c.add_children.new.waiting.items)) c.in-Some.ensures c.add_children.ensures
