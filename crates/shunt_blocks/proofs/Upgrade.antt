-- Without standing trains, placed units and permits, blocks and their costs are those of version 1.
use Rattle.std.specs.Prelude.{◌↔◌, All, ◌==◌, ◌&&◌, ◌||◌, not, unwrap_or, IsSome, Option, Some, None, if◌then◌else◌}
use Rattle.std.specs.List.{list_any}
use Rattle.std.proofs.Common.{◌≡◌, ℕ, ◌+◌, ◌<◌, true, false, List, [], ◌∷◌, length, get_or, refl, sym, ap, subst, ◌∙◌, arith, Bool, IsTrue, zero, suc}
use Rattle.std.proofs.lemmas.Bool.{true≢false}
use Rattle.std.proofs.lemmas.Bool.Decides.{nat_tests}
use Rattle.std.proofs.lemmas.Option.{none-some}
use Rattle.std.proofs.lemmas.List.Sums.{sum_by-cons}
use Rattle.std.proofs.lemmas.List.Elements.{All-tail}
use Rattle.shunt_lists.proofs.TestsBelow.{all_pass, each_passes}
use Rattle.shunt_lists.specs.defs.Below.{all_below}
use Rattle.shunt_base.specs.declared.ids.TypeId.{TypeId}
use Rattle.shunt_base.specs.declared.ids.TrackId.{TrackId}
use Rattle.shunt_base.specs.declared.ids.Side.{Side}
use Rattle.shunt_instance.specs.declared.records.Station.{Station}
use Rattle.shunt_instance.specs.declared.records.Origin.{Origin}
use Rattle.shunt_instance.specs.declared.records.Origin.TheVariants as origin
use Rattle.shunt_instance.specs.declared.records.PlacedRun.{PlacedRun}
use Rattle.shunt_instance.specs.declared.records.Train.{Train}
use Rattle.shunt_instance.specs.declared.records.Permit.{Permit}
use Rattle.shunt_instance.specs.declared.records.Unit.{Unit as TrainUnit}
use Rattle.shunt_instance.specs.declared.records.Position.{Position}
use Rattle.shunt_instance.specs.defs.Words.{train_at, kind_at, permits, is_standing}
use Rattle.shunt_instance.specs.defs.Instance.{Night, unit_at, position_at}
use Rattle.shunt_blocks.specs.declared.records.Shape.{Shape}
use Rattle.shunt_blocks.specs.declared.records.Block.{Block}
use Rattle.shunt_blocks.specs.declared.records.Park.{Park}
use Rattle.shunt_blocks.specs.defs.Shapes.{shape_of, AreRunsWithin, IsWithinTrains, IsShape, unit_from, position_from}
use Rattle.shunt_blocks.specs.defs.Ways.{may_come, train_way_in, option_way_in, option_way_out, way_in, way_out, way_from, way_to, park_way_in, park_way_out}
use Rattle.shunt_blocks.specs.defs.Blocks.{IsOption, IsBlock, have_one_type, is_forbidden, type_fault}
use Rattle.shunt_blocks.specs.defs.Costs.{option_cost, block_cost}
use Rattle.shunt_blocks.specs.defs.Lists.{IsFeasible, total_cost}
use Rattle.shunt_blocks.specs.defs.v1.{HasTwoTypes, LacksRouteIn, LacksRouteOut, IsPlain, HasShape, route, route_in, route_out, HasOption, IsBlock as IsFirstBlock, option_cost as first_option_cost, block_cost as first_block_cost, total_cost as first_total_cost, IsFeasible as IsFirstFeasible}
use Rattle.shunt_blocks.proofs.Times.{unit_is, position_is, leaves_is, ready_is}
use Rattle.shunt_lists.proofs.Tests.{unequal_from as unequal}
use Rattle.shunt_blocks.proofs.Shapes.{on_track}

-- ---- shapes

runs_of : (night : Night) (b : Block) → HasShape night b → AreRunsWithin night (shape_of b)
runs_of night b h = record { arr = h.arr; dep = h.dep; p = h.p; n = h.n; q = h.q; units = h.units; positions = h.positions }

unit_type : (night : Night) (b : Block) (k : ℕ) → AreRunsWithin night (shape_of b) → k < b.n
    → (unit_at night (unit_from night (shape_of b) + k)).kind.0 ≡ (kind_at (train_at night.arrive b.arr.0) (b.p + k)).0
unit_type night b k r lt = ap (λ (u : TrainUnit). u.kind.0) (unit_is night (shape_of b) k r lt)

position_type : (night : Night) (b : Block) (k : ℕ) → AreRunsWithin night (shape_of b) → k < b.n
    → (position_at night (position_from night (shape_of b) + k)).kind.0 ≡ (kind_at (train_at night.depart b.dep.0) (b.q + k)).0
position_type night b k r lt = ap (λ (v : Position). v.kind.0) (position_is night (shape_of b) k r lt)

shape_to : (night : Night) (b : Block) → HasShape night b → IsShape night (shape_of b)
shape_to night b h =
    let r = runs_of night b h in
    record {
      within = r;
      pairs = λ k lt. record {
        kind = unit_type night b k r lt ∙ h.types k lt ∙ sym (position_type night b k r lt);
        ready = omega (arith, h.times k lt, ready_is night (shape_of b) k r lt, leaves_is night (shape_of b) k r lt);
      };
    }

shape_from : (night : Night) (b : Block) → IsShape night (shape_of b) → HasShape night b
shape_from night b h =
    let r = h.within in
    record {
      arr = r.arr;
      dep = r.dep;
      p = r.p;
      n = r.n;
      q = r.q;
      units = r.units;
      positions = r.positions;
      types = λ k lt. sym (unit_type night b k r lt) ∙ (h.pairs k lt).kind ∙ position_type night b k r lt;
      times = λ k lt. omega (arith, (h.pairs k lt).ready, ready_is night (shape_of b) k r lt, leaves_is night (shape_of b) k r lt);
    }

-- ---- ways and permits

way_in_is : (s : Station) (t : Train) (track : TrackId) (side : Side) → is_standing t ≡ false → way_from s t.origin track side ≡ route s t.origin track side
way_in_is s t track side off = at t.origin refl
  where
    at : (o : Origin) → t.origin ≡ o → way_from s t.origin track side ≡ route s t.origin track side
    at (origin.Platform p) e = ap (λ o. way_from s o track side) e ∙ sym (ap (λ o. route s o track side) e)
    at (origin.Track own) e = absurd (true≢false (sym (ap (λ (x : Origin). is_standing (record t { origin = x })) e) ∙ off))

way_out_is : (s : Station) (o : Origin) (track : TrackId) (side : Side) → way_to s o track side ≡ route s o track side
way_out_is s (origin.Platform p) track side = refl
way_out_is s (origin.Track own) track side = refl

ways_in : (night : Night) (b : Block) (k : Park) → IsPlain night → b.arr.0 < length night.arrive → park_way_in night (shape_of b) k ≡ route_in night b k
ways_in night b k plain lt =
    let s = shape_of b in
    ap (λ (runs : List PlacedRun). if may_come runs s k.track k.side_in then train_way_in night s.arr k.track k.side_in else None) (plain.to_come b.arr.0 _ lt)
    ∙ way_in_is night.station (train_at night.arrive b.arr.0) k.track k.side_in (plain.arrive b.arr.0 _ lt)

ways_out : (night : Night) (b : Block) (k : Park) → park_way_out night b.dep k ≡ route_out night b k
ways_out night b k = way_out_is night.station (train_at night.depart b.dep.0).origin k.track k.side_out

permitted : (s : Station) (track : TrackId) (kind : TypeId) → s.permits ≡ [] → permits s track kind ≡ true
permitted s track kind none = ap (λ (ps : List Permit). not (list_any (λ p. p.track.0 == track.0) ps) || list_any (λ p. p.track.0 == track.0 && p.kind.0 == kind.0) ps) none

-- ---- options

option_to : (night : Night) (b : Block) (o : Option Park) → IsPlain night → b.arr.0 < length night.arrive → HasOption night b o → IsOption night (shape_of b) o
option_to night b None plain lt h = tt
option_to night b (Some k) plain lt h = record {
  track = h.track;
  permitted = all_pass b.n _ (λ i below. permitted night.station k.track (unit_at night (unit_from night (shape_of b) + i)).kind plain.permits);
  way_in = subst IsSome (sym (ways_in night b k plain lt)) h.route_in;
  way_out = subst IsSome (sym (ways_out night b k)) h.route_out;
}

option_from : (night : Night) (b : Block) (o : Option Park) → IsPlain night → b.arr.0 < length night.arrive → IsOption night (shape_of b) o → HasOption night b o
option_from night b None plain lt h = tt
option_from night b (Some k) plain lt h = record {
  track = h.track;
  route_in = subst IsSome (ways_in night b k plain lt) h.way_in;
  route_out = subst IsSome (ways_out night b k) h.way_out;
}

block_to : (night : Night) (b : Block) → IsPlain night → IsFirstBlock night b → IsBlock night b
block_to night b plain h =
    let option = option_to night b b.park plain h.shape.arr h.option in
    record {
      in_range = record { from = h.from; to = h.to; within = record { runs = runs_of night b h.shape; track = on_track night (shape_of b) b.park option } };
      shape = shape_to night b h.shape;
      option = option;
    }

block_from : (night : Night) (b : Block) → IsPlain night → IsBlock night b → IsFirstBlock night b
block_from night b plain h = record {
  from = h.in_range.from;
  to = h.in_range.to;
  shape = shape_from night b h.shape;
  option = option_from night b b.park plain h.shape.within.arr h.option;
}

pub same_block : (night : Night) (b : Block) → IsPlain night → IsFirstBlock night b ↔ IsBlock night b
same_block night b plain = (block_to night b plain, block_from night b plain)

-- ---- costs

same_option_cost : (night : Night) (b : Block) (o : Option Park) → IsPlain night → b.arr.0 < length night.arrive → first_option_cost night b o ≡ option_cost night (shape_of b) o
same_option_cost night b None plain lt = refl
same_option_cost night b (Some k) plain lt = omega (arith, ap {B = ℕ} (λ w. unwrap_or w 0) (ways_in night b k plain lt), ap {B = ℕ} (λ w. unwrap_or w 0) (ways_out night b k))

pub same_cost : (night : Night) (b : Block) → IsPlain night → b.arr.0 < length night.arrive → first_block_cost night b ≡ block_cost night b
same_cost night b plain lt = omega (arith, same_option_cost night b b.park plain lt)

pub same_total : (night : Night) (blocks : List Block) → IsPlain night → All (IsWithinTrains night) blocks → first_total_cost night blocks ≡ total_cost night blocks
same_total night [] plain within = refl
same_total night (b ∷ blocks) plain within =
    omega (
      arith,
      sum_by-cons (first_block_cost night) b blocks,
      sum_by-cons (block_cost night) b blocks,
      same_cost night b plain (within 0 b (omega arith)).runs.arr,
      same_total night blocks plain (All-tail (IsWithinTrains night) b blocks within),
    )

-- ---- feasible lists

pub same_feasible : (night : Night) (blocks : List Block) → IsPlain night → IsFirstFeasible night blocks ↔ IsFeasible night blocks
same_feasible night blocks plain = (
  λ h. record { ids = h.ids; each = λ k d lt. block_to night (get_or blocks k d) plain (h.each k d lt); covers = h.covers; through = h.through },
  λ h. record { ids = h.ids; each = λ k d lt. block_from night (get_or blocks k d) plain (h.each k d lt); covers = h.covers; through = h.through },
)

-- ---- faults

fails_somewhere : (n : ℕ) (test : ℕ → Bool) → not (all_below n test) ≡ true → (k : ℕ) × (k < n) × (test k ≡ false)
fails_somewhere zero test e = absurd (true≢false (sym e))
fails_somewhere (suc n) test e = at (test n) refl (λ rest. fails_somewhere n test rest) e
  where
    at : (t : Bool) → test n ≡ t → (not (all_below n test) ≡ true → (k : ℕ) × (k < n) × (test k ≡ false)) → not (all_below n test && test n) ≡ true
        → (k : ℕ) × (k < suc n) × (test k ≡ false)
    at false e before fails = (n, omega arith, e)
    at true e before fails = let rest = before (front (all_below n test) (test n) e fails) in (rest.0, omega (arith, rest.1), rest.2)
      where
        front : (a b : Bool) → b ≡ true → not (a && b) ≡ true → not a ≡ true
        front true b e fails = absurd (true≢false (sym fails ∙ ap not e))
        front false b e fails = refl

unforbidden : (night : Night) (s : Shape) (o : Option Park) → IsPlain night → is_forbidden night s o ≡ false
unforbidden night s None plain = refl
unforbidden night s (Some k) plain = ap not (all_pass s.n _ (λ i below. permitted night.station k.track (unit_at night (unit_from night s + i)).kind plain.permits))

only_types : (night : Night) (b : Block) → IsPlain night → type_fault night b ≡ not (have_one_type night (shape_of b))
only_types night b plain = at (not (have_one_type night (shape_of b))) (is_forbidden night (shape_of b) b.park) (unforbidden night (shape_of b) b.park plain)
  where
    at : (s t : Bool) → t ≡ false → (s || t) ≡ s
    at true t e = refl
    at false t e = e

pub two_types : (night : Night) (b : Block) → IsPlain night → AreRunsWithin night (shape_of b) → IsTrue (type_fault night b) ↔ HasTwoTypes night b
two_types night b plain r = (
  λ t.
      let some = fails_somewhere b.n _ (sym (only_types night b plain) ∙ t) in
      record { at = some.0; within = some.1; differ = λ same. unequal _ _ some.2 (unit_type night b some.0 r some.1 ∙ same ∙ sym (position_type night b some.0 r some.1)) },
  λ h. only_types night b plain ∙ at (have_one_type night (shape_of b)) refl h,
)
  where
    at : (t : Bool) → have_one_type night (shape_of b) ≡ t → HasTwoTypes night b → not (have_one_type night (shape_of b)) ≡ true
    at false e h = ap not e
    at true e h =
        let test = each_passes b.n (λ k. (unit_at night (unit_from night (shape_of b) + k)).kind.0 == (position_at night (position_from night (shape_of b) + k)).kind.0) e h.at
        h.within in
        let same : (unit_at night (unit_from night (shape_of b) + h.at)).kind.0 ≡ (position_at night (position_from night (shape_of b) + h.at)).kind.0 = grind
        (arith, nat_tests, test) in
        absurd (h.differ (sym (unit_type night b h.at r h.within) ∙ same ∙ position_type night b h.at r h.within))

one_park : (k l : Park) → Some k ≡ Some l → k ≡ l
one_park k l e = cc

pub lacks_in : (night : Night) (b : Block) → IsPlain night → b.arr.0 < length night.arrive → (IsSome b.park × (way_in night b ≡ None)) ↔ LacksRouteIn night b
lacks_in night b plain lt = at b.park refl
  where
    at : (o : Option Park) → b.park ≡ o → (IsSome o × (option_way_in night (shape_of b) o ≡ None)) ↔ LacksRouteIn night b
    at None e = (λ h. absurd (true≢false (sym h.0)), λ h. absurd (none-some h.park (sym e ∙ h.parked)))
    at (Some k) e = (
      λ h. record { park = k; parked = e; absent = sym (ways_in night b k plain lt) ∙ h.1 },
      λ h. (refl, ways_in night b k plain lt ∙ ap (route_in night b) (one_park k h.park (sym e ∙ h.parked)) ∙ h.absent),
    )

pub lacks_out : (night : Night) (b : Block) → (IsSome b.park × (way_out night b ≡ None)) ↔ LacksRouteOut night b
lacks_out night b = at b.park refl
  where
    at : (o : Option Park) → b.park ≡ o → (IsSome o × (option_way_out night b.dep o ≡ None)) ↔ LacksRouteOut night b
    at None e = (λ h. absurd (true≢false (sym h.0)), λ h. absurd (none-some h.park (sym e ∙ h.parked)))
    at (Some k) e = (
      λ h. record { park = k; parked = e; absent = sym (ways_out night b k) ∙ h.1 },
      λ h. (refl, ways_out night b k ∙ ap (route_out night b) (one_park k h.park (sym e ∙ h.parked)) ∙ h.absent),
    )
