-- The stays of a night in which one train is late are stays.
use Rattle.std.specs.Prelude.{IfSome, Option, option_map, Some, None}
use Rattle.std.specs.List.{AllByRecursion, cons_option}
use Rattle.std.proofs.Common.{◌≡◌, ◌≢◌, inl, inr, ⊎_elim, ℕ, ◌+◌, ◌^◌, ◌<◌, ◌≤◌, false, List, [], ◌∷◌, refl, sym, subst, ap, ◌∙◌, arith}
use Rattle.std.proofs.lemmas.Bool.{cases_Bool, cond-true, cond-false, leb-true, not-false}
use Rattle.shunt_lists.proofs.Members.{all_in, all_from}
use Rattle.shunt_lists.proofs.TestsBelow.{each_passes}
use Rattle.shunt_lists.specs.defs.Members.{In}
use Rattle.shunt_base.specs.declared.keys.Stay.{Stay}
use Rattle.shunt_base.specs.defs.Keys.{IsWellFormed, AreStays}
use Rattle.shunt_stays.specs.defs.Run.{AreOnTracks}
use Rattle.shunt_instance.specs.declared.records.Unit.{Unit as TrainUnit}
use Rattle.shunt_instance.specs.defs.Words.{train_at, kind_at, minute_at, turn_of}
use Rattle.shunt_instance.specs.defs.Wellformed.{IsTrain}
use Rattle.shunt_instance.specs.defs.Instance.{Night, IsInstance, IsOrderedNight, ready}
use Rattle.shunt_blocks.specs.declared.records.Shape.{Shape}
use Rattle.shunt_blocks.specs.declared.records.Block.{Block}
use Rattle.shunt_blocks.specs.defs.Shapes.{shape_of, unit_from, AreRunsWithin, IsWithinTrains, IsInRange}
use Rattle.shunt_blocks.specs.defs.Stays.{leave_minute, stay_of}
use Rattle.shunt_blocks.specs.defs.Lists.{AreInRange, CanStand, track_lengths, stays_of}
use Rattle.shunt_audit.proofs.ById.{Apart, apart}
use Rattle.shunt_audit.proofs.BlockStays.{in_range}
use Rattle.shunt_delay.specs.defs.Late.{late}
use Rattle.shunt_delay.specs.defs.Kept.{late_by, is_too_soon_by, later}
use Rattle.shunt_delay.proofs.Lately.{Units, late_stay, stay_late, which}
use Rattle.shunt_lists.proofs.Options.{some_same, of_some}
use Rattle.shunt_blocks.proofs.Times.{before, minute_is, turn_some, kind_there}
use Rattle.shunt_instance.proofs.Orders.{opened}
use Rattle.shunt_blocks.proofs.StaysOf.{stay_id, is_stay}

-- what the laws of blocks say
pub record Laws : Type 0 where
  pub units : Units
  pub formed : (night : Night) (b : Block) → IsInstance night → IsWithinTrains night b → b.id < 2 ^ 32 → IfSome (stay_of night b) IsWellFormed
  pub tracks : (night : Night) (blocks : List Block) → CanStand night blocks → AreOnTracks (track_lengths night.station) (stays_of night blocks)
  pub can_stand : (night : Night) (blocks : List Block) → AreInRange night blocks → CanStand night blocks

-- ---- units are ready after their train's arrival

ready_is : Units → (night : Night) (s : Shape) (k : ℕ) → AreRunsWithin night s → k < s.n
    → ready night (unit_from night s + k) ≡ (train_at night.arrive s.arr.0).minute + turn_of night.station (kind_at (train_at night.arrive s.arr.0) (s.p + k))
ready_is units night s k h lt = ap (λ (u : TrainUnit). minute_at night.arrive u.train.0 + turn_of night.station u.kind) (units night s k h lt)
    ∙ ap (λ (m : ℕ). m + turn_of night.station (kind_at (train_at night.arrive s.arr.0) (s.p + k))) (minute_is night.arrive s.arr.0 h.arr)

in_time : (night : Night) (d : ℕ) (s : Shape) (k : ℕ) → is_too_soon_by night d s ≡ false → k < s.n → ready night (unit_from night s + k) + d ≤ leave_minute night s
in_time night d s k soon lt = leb-true _ _ (each_passes s.n _ (not-false _ soon) k lt)

enters_first : Units → (night : Night) (d : ℕ) (s : Shape) → IsOrderedNight night → AreRunsWithin night s → is_too_soon_by night d s ≡ false
    → (train_at night.arrive s.arr.0).minute + d < leave_minute night s
enters_first units night d s h r soon = omega (
  arith,
  in_time night d s 0 soon (omega (arith, r.n)),
  ready_is units night s 0 r (omega (arith, r.n)),
  turn_some night.station (kind_at (train_at night.arrive s.arr.0) (s.p + 0)) h.station (kind_there night s 0 h r (omega (arith, r.n))),
)

-- ---- stays of blocks

-- what a stay says of its block's trains
pub record HasTimesOf (night : Night) (b : Block) (s : Stay) : Type 0 where
  pub train : s.enter.train ≡ b.arr.0
  pub enters : s.enter.minute ≡ (train_at night.arrive b.arr.0).minute
  pub leaves : s.leave.minute ≡ leave_minute night (shape_of b)

pub times_of : (night : Night) (b : Block) (s : Stay) → stay_of night b ≡ Some s → HasTimesOf night b s
times_of night b s e = subst (HasTimesOf night b) (sym (is_stay night b s e).is) (record { train = refl; enters = refl; leaves = refl })

pub of_later : (d : ℕ) (o : Option Stay) (s : Stay) → option_map (later d) o ≡ Some s → (t : Stay) × (o ≡ Some t) × (s ≡ later d t)
of_later d None s e = absurd (cc)
of_later d (Some t) s e = (t, refl, sym (some_same (later d t) s e))

-- a late stay is a stay that isn't late with its beginning moved, and its block isn't too soon
pub record IsLateStay (night : Night) (d : ℕ) (b : Block) (s : Stay) : Type 0 where
  pub stay : Stay
  pub of : stay_of night b ≡ Some stay
  pub is : s ≡ later d stay
  pub in_time : is_too_soon_by night d (shape_of b) ≡ false

pub of_late : (night : Night) (d : ℕ) (b : Block) (s : Stay) → late_stay night d b ≡ Some s → IsLateStay night d b s
of_late night d b s e = elim (cases_Bool (is_too_soon_by night d (shape_of b))) [
  | inl soon ↦ absurd (none_some s (sym (cond-true (is_too_soon_by night d (shape_of b)) None (option_map (later d) (stay_of night b)) soon) ∙ e))
  | inr late_enough ↦ let r = of_later d (stay_of night b) s (sym (cond-false (is_too_soon_by night d (shape_of b)) None
      (option_map (later d) (stay_of night b)) late_enough) ∙ e) in
      record { stay = r.0; of = r.1; is = r.2; in_time = late_enough }
]
  where
    none_some : (s : Stay) → None ≡ Some s → ⊥
    none_some s e = absurd (cc)

pub to_late : (night : Night) (d : ℕ) (b : Block) (t : Stay) → stay_of night b ≡ Some t → is_too_soon_by night d (shape_of b) ≡ false → late_stay night d b ≡ Some (later d t)
to_late night d b t e late_enough = cond-false (is_too_soon_by night d (shape_of b)) None (option_map (later d) (stay_of night b)) late_enough
    ∙ ap (λ (o : Option Stay). option_map (later d) o) e

later_formed : (d : ℕ) (t : Stay) → IsWellFormed t → t.enter.minute + d < t.leave.minute → t.enter.minute + d < 2 ^ 16 → IsWellFormed (later d t)
later_formed d t h lt small = record {
  enters = h.enters;
  leaves = h.leaves;
  enter_id = h.enter_id;
  leave_id = h.leave_id;
  later = before (later d t).enter t.leave lt;
  enter_in = record { minute = small; train = h.enter_in.train; place = h.enter_in.place; id = h.enter_in.id };
  leave_in = h.leave_in;
  length_in = h.length_in;
  track_in = h.track_in;
}

pub arrives : (night : Night) (b : Block) → IsInstance night → AreRunsWithin night (shape_of b) → (train_at night.arrive b.arr.0).minute < 2880
arrives night b n r = let t : IsTrain night.station (train_at night.arrive b.arr.0) = (opened night n).timetable.arrive.each b.arr.0 _ r.arr in omega (arith, t.minute)

some_formed : (o : Option Stay) (t : Stay) → o ≡ Some t → IfSome o IsWellFormed → IsWellFormed t
some_formed o t e h = subst (λ (p : Option Stay). IfSome p IsWellFormed) e h

pub formed_late : Laws → (i d : ℕ) (night : Night) (b : Block) (s : Stay) → IsInstance night → IsInRange night b → d ≤ 120 → stay_of (late i d night) b ≡ Some s → IsWellFormed s
formed_late laws i d night b s n h few e =
    let r = of_late night (late_by i d b) b s (sym (stay_late laws.units i d night b h.within.runs) ∙ e) in
    let of_block = times_of night b r.stay r.of in
    let first = enters_first laws.units night (late_by i d b) (shape_of b) (opened night n) h.within.runs r.in_time in
    let enters = of_block.enters in
    let leaves = of_block.leaves in
    let little : late_by i d b ≤ 120 = ⊎_elim (λ x. let y = x.1 in omega (arith, y, few)) (λ x. let y = x.1 in omega (arith, y)) (which i d b) in
    subst IsWellFormed (sym r.is) (later_formed (late_by i d b) r.stay
    (some_formed (stay_of night b) r.stay r.of (laws.formed night b n h.within (omega (arith, h.to))))
    (omega (arith, first, enters, leaves))
    (omega (arith, little, enters, arrives night b n h.within.runs)))

-- ---- lists of them

stays_apart : (night : Night) (b : Block) (blocks : List Block) (s : Stay) → stay_of night b ≡ Some s → AllByRecursion (λ c. b.id ≢ c.id) blocks
    → AllByRecursion (λ t. s.id ≢ t.id) (stays_of night blocks)
stays_apart night b blocks s e ids = all_from (λ t. s.id ≢ t.id) (stays_of night blocks)
    (λ t i same. let r = of_some (stay_of night) blocks t i in all_in (λ c. b.id ≢ c.id) blocks r.0 ids r.1 (sym (stay_id night b s e) ∙ same ∙ stay_id night r.0 t r.2))

with_first : (o : Option Stay) (stays : List Stay) → ((s : Stay) → o ≡ Some s → IsWellFormed s × AllByRecursion (λ t. s.id ≢ t.id) stays) → AreStays stays
    → AreStays (cons_option o stays)
with_first None stays h a = a
with_first (Some s) stays h a = let r = h s refl in (r.0, r.1, a)

all_formed : (night : Night) (blocks : List Block) → ((b : Block) (s : Stay) → In b blocks → stay_of night b ≡ Some s → IsWellFormed s) → Apart blocks
    → AreStays (stays_of night blocks)
all_formed night [] each a = tt
all_formed night (b ∷ blocks) each a = with_first (stay_of night b) (stays_of night blocks)
    (λ s e. (each b s (inl refl) e, stays_apart night b blocks s e a.0))
    (all_formed night blocks (λ c s i e. each c s (inr i) e) a.1)

pub stays_late : Laws → (i d : ℕ) (night : Night) (blocks : List Block) → IsInstance night → AreInRange night blocks → d ≤ 120 → AreStays (stays_of (late i d night) blocks)
stays_late laws i d night blocks n h few = all_formed (late i d night) blocks (λ b s there e. formed_late laws i d night b s n (in_range night blocks b h there) few e)
    (apart blocks h.ids)
