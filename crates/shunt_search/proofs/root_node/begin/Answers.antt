use Rattle.std.specs.Prelude.{IsSome}
use Rattle.std.proofs.Common.{◌≡◌, ◌++◌, ◌∷◌, [], refl, sym, subst, ap, ◌∙◌, List, length, arith}
use Rattle.shunt_base.specs.declared.duals.Case.{Case}
use Rattle.shunt_choices.specs.defs.Paths.{Masks, next_of}
use Rattle.shunt_search.specs.declared.walk_stack.Pending.{Pending}
use Rattle.shunt_search.specs.defs.Judges.{version_of}
use Rattle.shunt_search.specs.defs.WalkStates.{cases_in, AddsChildren}
use Rattle.shunt_search.specs.defs.SearchStates.{whole_root, branch_root}
use Rattle.shunt_search.proofs.ToldNodes.{tells_both}
use Rattle.shunt_search.proofs.root_node.begin.Goals as goal

pub root_place-requires-clause-first : goal.root_place-requires-clause-first
root_place-requires-clause-first g c = c.searches_begin.ensures.first (version_of c.args.guide.now.judge) c.args.instance.now c.args.pins.now c.args.guide.now.tree.stock.items
    c.args.search.now c.units.ensures.formed c.requires.fresh

pub returns-then-whole-clause-search : goal.returns-then-whole-clause-search
returns-then-whole-clause-search g c =
    let fresh = c.requires.fresh in
    let covers = ap (λ (m : Masks). next_of m) (sym fresh.yard.path.covered) ∙ c.is_whole-whole.ensures.yes c.if-whole.true in
    c.searches_begin.ensures.whole (version_of c.args.guide.now.judge) c.args.instance.now c.args.pins.now c.args.guide.now.tree.stock.items (g.R.Recorder.told c.args.recorder.now)
    (g.R.Recorder.told c.note_whole.new.recorder) (g.R.Recorder.number c.note_whole.new.recorder) (g.R.Recorder.cases c.note_whole.new.recorder)
    c.args.search.now _ c.take_whole.new.search c.units.ensures.formed fresh (
      c.requires.told,
      c.in_ok-note_whole.ensures.told,
    ) c.in_ok-note_whole.ensures.number c.in_ok-note_whole.ensures.cases
    (record { yard = refl; known = refl; low = refl; floor = refl; counted = refl; cases_counted = sym c.in_ok-note_whole.ensures.cases }) fresh.empty covers
    c.in_ok-take_whole.ensures

pub returns-clause-search : goal.returns-clause-search
returns-clause-search g c =
    let fresh = c.requires.fresh in
    let stock = c.args.guide.now.tree.stock.items in
    let old = c.args.search.now in
    let some = subst (λ (m : Masks). IsSome (next_of m)) fresh.yard.path.covered (c.is_whole-whole.ensures.no c.if-whole.false) in
    let adds = subst (λ (l : List Pending). AddsChildren (version_of c.args.guide.now.judge) c.args.instance.now stock old.known.cost old.yard.path.blocks 0 c.in_ok-place.place l
    c.add_children.new.waiting.items) fresh.empty c.in_ok-add_children.ensures in
    c.searches_begin.ensures.branch (version_of c.args.guide.now.judge) c.args.instance.now c.args.pins.now stock (g.R.Recorder.told c.args.recorder.now)
    (g.R.Recorder.told c.note_branch.new.recorder) (g.R.Recorder.number c.note_branch.new.recorder) (g.R.Recorder.cases c.note_branch.new.recorder)
    old _ c.in_ok-place.place c.units.ensures.formed fresh c.in_ok-place.ensures (
      c.requires.told,
      c.in_ok-note_branch.ensures.told,
    ) c.in_ok-note_branch.ensures.number c.in_ok-note_branch.ensures.cases
    (record {
      yard = refl;
      known = refl;
      low = refl;
      floor = refl;
      counted = refl;
      cases_counted = (let is = ap
          (λ (l : List Case). length l) c.cases_in.ensures in let len = c.len.ensures.value in let noted = c.in_ok-note_branch.ensures.cases in omega (arith, is, len, noted));
    })
    some adds

pub returns-then-whole-clause-tells : goal.returns-then-whole-clause-tells
returns-then-whole-clause-tells g c =
    tells_both (g.R.Recorder.told c.args.recorder.now) (g.R.Recorder.told c.note_whole.new.recorder) (λ x y. y ≡ x ++ whole_root ∷ []) c.in_ok-note_whole.ensures.told

pub returns-clause-tells : goal.returns-clause-tells
returns-clause-tells g c =
    tells_both (g.R.Recorder.told c.args.recorder.now) (g.R.Recorder.told c.note_branch.new.recorder)
    (λ x y. y ≡ x ++ branch_root (cases_in c.args.guide.now.tree.stock.items c.in_ok-place.place) ∷ []) c.in_ok-note_branch.ensures.told

pub returns-then-whole-clause-cheaper : goal.returns-then-whole-clause-cheaper
returns-then-whole-clause-cheaper g c = c.in_ok-take_whole.ensures.cheaper.known
