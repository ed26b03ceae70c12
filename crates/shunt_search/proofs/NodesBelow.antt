-- The node of a next block.
use Rattle.std.specs.Prelude.{All, Some, unwrap_or}
use Rattle.std.proofs.Common.{◌≡◌, ◌≢◌, ℕ, ◌+◌, ◌-◌, ◌<◌, ◌≤◌, List, [], length, take, refl, sym, ap, ◌∙◌, arith}
use Rattle.shunt_base.specs.declared.duals.Case.{Case}
use Rattle.shunt_instance.specs.declared.records.Unit.{Unit as TrainUnit}
use Rattle.shunt_instance.specs.declared.records.Station.{Station}
use Rattle.shunt_instance.specs.declared.records.Train.{Train}
use Rattle.shunt_instance.specs.defs.Wellformed.{IsTrain}
use Rattle.shunt_instance.specs.defs.Words.{train_at, kind_at}
use Rattle.shunt_instance.specs.defs.Instance.{Night, IsOrderedNight, make_unit, unit_at}
use Rattle.shunt_blocks.specs.declared.records.Shape.{Shape}
use Rattle.shunt_blocks.specs.declared.records.Block.{Block}
use Rattle.shunt_blocks.specs.defs.Shapes.{shape_of, unit_from, AreRunsWithin}
use Rattle.shunt_choices.specs.defs.Paths.{masks_of, next_of}
use Rattle.shunt_choices.specs.defs.Choices.{IsChoice}
use Rattle.shunt_proof.specs.declared.records.NodeKind.{NodeKind}
use Rattle.shunt_proof.specs.declared.records.NodeKind.TheVariants.{Branch, Whole}
use Rattle.shunt_proof.specs.declared.records.NodeDuals.{NodeDuals}
use Rattle.shunt_proof.specs.declared.records.NodeDuals.TheVariants.{Same, New, Bare}
use Rattle.shunt_proof.specs.defs.Nodes.{AreStatable, FitsChoice, FitDuals}
use Rattle.shunt_proof.specs.defs.Trees.{next_unit, choice_at, choice_from}
use Rattle.shunt_search.specs.declared.child.Child.{Child}
use Rattle.shunt_search.specs.defs.Yards.{choice_of, IsNextBlock}
use Rattle.shunt_search.specs.declared.notes.NodeNoted.{NodeNoted}
use Rattle.shunt_search.specs.declared.notes.NodeNoted.TheVariants as noted
use Rattle.shunt_search.specs.defs.WalkStates.{kept, cases_in, IsNodeOf, stated, IsInStock, node_below}
use Rattle.shunt_search.proofs.Nexts.{at_unit}
use Rattle.shunt_blocks.proofs.Shapes.{on_track}

-- which units a shape has
abbrev pub UnitLaw : Type 0
UnitLaw = (night : Night) (s : Shape) (k : ℕ) → AreRunsWithin night s → k < s.n → unit_at night (unit_from night s + k)
    ≡ make_unit s.arr.0 (s.p + k) (kind_at (train_at night.arrive s.arr.0) (s.p + k))

is_train : (s : Station) (trains : List Train) → All (IsTrain s) trains → (k : ℕ) → k < length trains → IsTrain s (train_at trains k)
is_train s trains all k lt = all k _ lt

module _ (night : Night) (path : List Block) (b : Block) (next : IsNextBlock night path b) where
  there : (u : ℕ) × (next_of (masks_of night path) ≡ Some u) × IsChoice night (masks_of night path) u (choice_of b)
  there = at_unit (next_of (masks_of night path)) (λ u. IsChoice night (masks_of night path) u (choice_of b)) next.choice

  pub its_choice : UnitLaw → choice_from night path (stated b) ≡ choice_of b
  its_choice law =
      let shape = there.2.shape in
      let within = shape.shape.within in
      let same : unit_from night (shape_of b) + 0 ≡ unit_from night (shape_of b) = omega arith in
      let here : next_unit night path ≡ unit_from night (shape_of b) + 0 = ap (λ o. unwrap_or o 0) there.1 ∙ sym shape.first ∙ sym same in
      let unit = law night (shape_of b) 0 within (let some = within.n in omega (arith, some)) in
      let place : b.p + 0 ≡ b.p = omega arith in
      ap (λ u. choice_at (unit_at night u) (stated b)) here
      ∙ ap (λ (x : TrainUnit). choice_at x (stated b)) unit
      ∙ ap (λ p. choice_at (make_unit b.arr.0 p (kind_at (train_at night.arrive b.arr.0) (b.p + 0))) (stated b)) place

  pub its_fits : IsOrderedNight night → FitsChoice night (stated b)
  its_fits h =
      let within = there.2.shape.shape.within in
      let arrive = (is_train night.station night.arrive h.timetable.arrive.each b.arr.0 within.arr).few in
      let depart = (is_train night.station night.depart h.timetable.depart.each b.dep.0 within.dep).few in
      let units = within.units in
      let positions = within.positions in
      let p = within.p in
      let n = within.n in
      let q = within.q in
      record {
        some = within.n;
        few = omega (arith, units, arrive, p);
        dep = within.dep;
        from = within.q;
        to = omega (arith, positions, depart, n);
        track = on_track night (shape_of b) b.park there.2.option;
      }

-- cases in a stock that a file can state
in_stock : (night : Night) (stock : List (List Case)) (place : ℕ) → All (AreStatable night) stock → place < length stock → AreStatable night (cases_in stock place)
in_stock night stock place all lt = all place [] lt

pub is_node_of : UnitLaw → (night : Night) → IsOrderedNight night → (stock : List (List Case)) (start path : List Block) (t : Child) (how : NodeNoted)
    → All (AreStatable night) stock
    → IsInStock stock how → IsNextBlock night (take (kept t) path) t.block → length start < t.block.id → t.block.id ≤ length start + 160
    → IsNodeOf night start path t (node_below (length start) t.block stock how)
is_node_of law night h stock start path t how statable there next deep few = of how there
  where
    apart : Branch ≢ Whole
    apart e = cc

    with_duals : (k : NodeKind) (d : NodeDuals) → FitDuals night (t.block.id - length start) k d
        → IsNodeOf night start path t (record { depth = t.block.id - length start; choice = Some (stated t.block); kind = k; duals = d })
    with_duals k d fit = record {
      depth = let id = next.id in omega (arith, deep, id);
      choice = stated t.block;
      states = refl;
      is = its_choice night (take (kept t) path) t.block next law;
      fits = record {
        depth = omega (arith, few);
        choice = (omega (arith, deep), its_fits night (take (kept t) path) t.block next h);
        duals = fit;
      };
    }

    of : (how : NodeNoted) → IsInStock stock how → IsNodeOf night start path t (node_below (length start) t.block stock how)
    of noted.Whole there = with_duals Whole Bare refl
    of noted.Same there = with_duals Branch Same (apart, omega (arith, deep))
    of (noted.Own place) there = with_duals Branch (New (cases_in stock place)) (apart, in_stock night stock place statable there)
