-- The stays of blocks in range, and the orders that they give.
use Rattle.std.proofs.Common.{◌≡◌, ℕ, zero, suc, ◌+◌, ◌-◌, ◌<◌, ◌≤◌, List, [], length, map, sym, subst, ap, ◌∙◌, arith}
use Rattle.std.specs.Prelude.{All, Some}
use Rattle.std.proofs.lemmas.List.{get_or-map}
use Rattle.shunt_lists.specs.defs.Below.{sum_below}
use Rattle.shunt_lists.specs.defs.Members.{In}
use Rattle.shunt_lists.proofs.SumsBelow.{sum_below-small}
use Rattle.shunt_base.specs.declared.ids.TypeId.{TypeId}
use Rattle.shunt_base.specs.declared.keys.Stay.{Stay}
use Rattle.shunt_base.specs.defs.Keys.{AreStays}
use Rattle.shunt_stays.specs.defs.Events.{in_order}
use Rattle.shunt_rows.specs.defs.Records.{text_of_rows}
use Rattle.shunt_instance.specs.declared.records.Station.{Station}
use Rattle.shunt_instance.specs.declared.records.UnitType.{UnitType}
use Rattle.shunt_instance.specs.declared.records.Unit.{Unit as TrainUnit}
use Rattle.shunt_instance.specs.defs.Words.{train_at, kind_at}
use Rattle.shunt_instance.specs.defs.Wellformed.{IsStation}
use Rattle.shunt_instance.specs.defs.Instance.{Night, IsInstance, IsOrderedNight, make_unit, unit_at}
use Rattle.shunt_instance.proofs.Orders.{opened}
use Rattle.shunt_blocks.specs.declared.records.Shape.{Shape}
use Rattle.shunt_blocks.specs.declared.records.Block.{Block}
use Rattle.shunt_blocks.specs.declared.records.Park.{Park}
use Rattle.shunt_blocks.specs.defs.Shapes.{shape_of, unit_from, AreRunsWithin, IsInRange}
use Rattle.shunt_blocks.specs.defs.Stays.{length_of, block_length, parked_stay, stay_of}
use Rattle.shunt_blocks.specs.defs.Lists.{AreInRange, CanStand, RunsThrough, stays_of}
use Rattle.shunt_tracks.specs.declared.dues.Due.{Due}
use Rattle.shunt_sheet.specs.defs.Orders.{order_of, orders_in}
use Rattle.shunt_sheet.specs.declared.records.Followed.TheVariants as answers
use Rattle.shunt_tracks.specs.defs.Dues.{move_of as due_move}
use Rattle.shunt_sheet.specs.defs.FollowedOrders.{followed}
use Rattle.shunt_sheet.specs.defs.SheetFormat.{AreOrders}
use Rattle.shunt_sheet.specs.defs.SheetRows.{rows_of, ReadsAsSheet}
use Rattle.shunt_sheet.proofs.RoundTrip.{on_tracks, text_back}
use Rattle.shunt_sheet.proofs.Halved.{IsFit, dues_in_time, stays_ordered}
use Rattle.shunt_sheet.proofs.Runs.{stays_followed}
use Rattle.shunt_lists.proofs.Members.{each_one}
use Rattle.shunt_lists.proofs.Options.{few_some}
use Rattle.shunt_blocks.proofs.Times.{arrival, departure, length_small}
use Rattle.shunt_blocks.proofs.StaysOf.{stay_is}

-- what the laws of blocks say of stays and units
pub record BlockLaws : Type 0 where
  pub stays : (night : Night) (blocks : List Block) → IsInstance night → CanStand night blocks → AreStays (stays_of night blocks)
  pub in_range : (night : Night) (blocks : List Block) → AreInRange night blocks → CanStand night blocks
  pub from : (night : Night) (blocks : List Block) (s : Stay) → In s (stays_of night blocks) → (b : Block) × In b blocks × (stay_of night b ≡ Some s)
  pub unit : (night : Night) (s : Shape) (k : ℕ) → AreRunsWithin night s → k < s.n
      → unit_at night (unit_from night s + k) ≡ make_unit s.arr.0 (s.p + k) (kind_at (train_at night.arrive s.arr.0) (s.p + k))

-- ---- lengths

abbrev no_type : UnitType
no_type = record { name = []; length = 0; turn = 0 }

kind_long : (s : Station) (kind : TypeId) → IsStation s → kind.0 < length s.types → 1 ≤ length_of s kind
kind_long s kind h lt = omega (arith, get_or-map (λ (t : UnitType). t.length) s.types kind.0 no_type 0 lt, (h.types kind.0 no_type lt).some)

some_below : (n : ℕ) (f : ℕ → ℕ) → 1 ≤ n → ((k : ℕ) → k < n → 1 ≤ f k) → 1 ≤ sum_below n f
some_below zero f le h = absurd (omega arith)
some_below (suc n) f le h = let last = h n (omega arith) in omega (arith, last)

unit_long : (laws : BlockLaws) (night : Night) (s : Shape) (k : ℕ) → IsOrderedNight night → AreRunsWithin night s → k < s.n
    → 1 ≤ length_of night.station (unit_at night (unit_from night s + k)).kind
unit_long laws night s k h r lt =
    let kind = kind_at (train_at night.arrive s.arr.0) (s.p + k) in
    let within = (arrival night s.arr.0 h r.arr).kinds (s.p + k - 1) _ (omega (arith, r.p, r.units, lt)) in
    subst (λ (u : TrainUnit). 1 ≤ length_of night.station u.kind) (sym (laws.unit night s k r lt)) (kind_long night.station kind h.station within)

block_long : (laws : BlockLaws) (night : Night) (b : Block) → IsOrderedNight night → AreRunsWithin night (shape_of b) → (1 ≤ block_length night b) × (block_length night b ≤ 40000)
block_long laws night b h r =
    let a = arrival night b.arr.0 h r.arr in
    let few = a.few in
    let units = r.units in
    let first = r.p in
    let small = sum_below-small b.n 5000 _ (λ k. length_small night.station (unit_at night (unit_from night (shape_of b) + k)).kind h.station) in
    (some_below b.n _ r.n (λ k lt. unit_long laws night (shape_of b) k h r lt), omega (arith, small, few, units, first))

-- ---- stays

parked_fits : (laws : BlockLaws) (night : Night) (b : Block) (k : Park) → IsOrderedNight night → IsInRange night b → k.track.0 < length night.station.tracks
    → IsFit night.station (parked_stay night b k)
parked_fits laws night b k h r on =
    let size = block_long laws night b h r.within.runs in
    record {
      first_id = r.from;
      last_id = r.to;
      some = size.0;
      long = size.1;
      track = on;
      enter = (arrival night b.arr.0 h r.within.runs.arr).minute;
      leave = (departure night b.dep.0 h r.within.runs.dep).minute;
    }

stay_fits : (laws : BlockLaws) (night : Night) (blocks : List Block) → IsInstance night → AreInRange night blocks → (s : Stay) → In s (stays_of night blocks)
    → IsFit night.station s
stay_fits laws night blocks is range s i =
    let b = laws.from night blocks s i in
    let r = each_one (IsInRange night) blocks b.0 range.each b.1 in
    let p = stay_is night b.0 b.0.park s r.within.track b.2 in
    subst (IsFit night.station) (sym p.2) (parked_fits laws night b.0 p.0 (opened night is) r p.1)

-- ---- the orders of blocks in range

pub are_stays : (laws : BlockLaws) (night : Night) (blocks : List Block) → IsInstance night → AreInRange night blocks → AreStays (stays_of night blocks)
are_stays laws night blocks is range = laws.stays night blocks is (laws.in_range night blocks range)

pub orders_formed : (laws : BlockLaws) (night : Night) (blocks : List Block) → IsInstance night → AreInRange night blocks → AreOrders night.station (orders_in night blocks)
unfolding orders_in
orders_formed laws night blocks is range =
    let few = range.few in
    stays_ordered night.station (stays_of night blocks) (are_stays laws night blocks is range) (stay_fits laws night blocks is range)
    (omega (arith, few, few_some (stay_of night) blocks))

pub due_in_time : (laws : BlockLaws) (night : Night) (blocks : List Block) → IsInstance night → AreInRange night blocks → (dues seen : List Due) → seen ≡ dues
    → map due_move dues ≡ in_order (stays_of night blocks) → All (λ d. d.key.minute < 2880) seen
due_in_time laws night blocks is range dues seen same e =
    subst (All (λ d. d.key.minute < 2880)) (sym same) (dues_in_time night.station (stays_of night blocks) (are_stays laws night blocks is range)
    (stay_fits laws night blocks is range) dues e)

pub orders_are : (night : Night) (blocks : List Block) (dues seen : List Due) → seen ≡ dues → map due_move dues ≡ in_order (stays_of night blocks)
    → map order_of (map due_move seen) ≡ orders_in night blocks
unfolding orders_in
orders_are night blocks dues seen same sorted = ap (λ l. map order_of (map due_move l)) same ∙ ap (map order_of) sorted

pub plan_followed : (laws : BlockLaws) (night : Night) (blocks : List Block) → IsInstance night → AreInRange night blocks → RunsThrough night blocks
    → followed night.station (orders_in night blocks) ≡ answers.Through 0
unfolding orders_in
plan_followed laws night blocks is range through =
    stays_followed night.station (stays_of night blocks) (are_stays laws night blocks is range)
    (on_tracks night.station (map order_of (in_order (stays_of night blocks))) (orders_formed laws night blocks is range)) through

pub orders_read : (laws : BlockLaws) (night : Night) (blocks : List Block) → IsInstance night → AreInRange night blocks
    → ReadsAsSheet night.station (orders_in night blocks) (text_of_rows (rows_of night.station (orders_in night blocks)))
orders_read laws night blocks is range = text_back night.station (orders_in night blocks) (opened night is).station (orders_formed laws night blocks is range)
