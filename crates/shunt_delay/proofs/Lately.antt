-- Blocks and their stays in a night in which one train is late.
use Rattle.std.proofs.Common.{◌≡◌, ◌≢◌, ◌⊎◌, inl, inr, ⊎_elim, ℕ, zero, suc, ◌+◌, ◌-◌, ◌<◌, ◌≤◌, Bool, true, false, List, length, get_or, refl, sym, subst, ap, ◌∙◌, arith}
use Rattle.std.specs.Prelude.{nat_le, not, ◌&&◌, ◌==◌, Option, option_map, Some, None, if◌then◌else◌}
use Rattle.std.proofs.lemmas.Bool.{cases_Bool, cond-true, cond-false, not-false, leb-true, le-leb}
use Rattle.std.proofs.lemmas.Bool.Decides.{eqb_tells}
use Rattle.shunt_lists.proofs.SumsBelow.{sum_below-same}
use Rattle.shunt_lists.specs.defs.Below.{all_below}
use Rattle.shunt_lists.proofs.TestsBelow.{each_passes, all_pass}
use Rattle.shunt_base.specs.declared.ids.TypeId.{TypeId}
use Rattle.shunt_base.specs.declared.keys.Stay.{Stay}
use Rattle.shunt_instance.specs.declared.records.Train.{Train}
use Rattle.shunt_instance.specs.declared.records.Unit.{Unit as TrainUnit}
use Rattle.shunt_instance.specs.defs.Words.{train_at, kind_at, minute_at, turn_of}
use Rattle.shunt_instance.specs.defs.Instance.{Night, make_unit, unit_at, ready_of, ready}
use Rattle.shunt_blocks.specs.declared.records.Shape.{Shape}
use Rattle.shunt_blocks.specs.declared.records.Block.{Block}
use Rattle.shunt_blocks.specs.declared.records.Park.{Park}
use Rattle.shunt_blocks.specs.defs.Shapes.{shape_of, unit_from, AreRunsWithin, IsInRange}
use Rattle.shunt_blocks.specs.defs.Stays.{length_of, leave_minute, is_too_soon, block_length, leave_key, parked_stay, stay_with, stay_of}
use Rattle.shunt_blocks.specs.defs.Lists.{AreInRange}
use Rattle.shunt_delay.specs.defs.Late.{delayed, late}
use Rattle.shunt_delay.specs.defs.Kept.{late_by, is_too_soon_by, later}
use Rattle.shunt_delay.proofs.Delayed.{units_same, count_same, length_same, train_here, train_there, minute_here, minute_there, same_units, none_late}

abbrev no_unit : TrainUnit
no_unit = make_unit 0 0 (record { 0 = 0 })

-- what the law of places says of units
abbrev pub Units : Type 0
Units = (night : Night) (s : Shape) (k : ℕ) → AreRunsWithin night s → k < s.n → unit_at night (unit_from night s + k)
    ≡ make_unit s.arr.0 (s.p + k) (kind_at (train_at night.arrive s.arr.0) (s.p + k))

unit_same : (i d : ℕ) (night : Night) (u : ℕ) → unit_at (late i d night) u ≡ unit_at night u
unit_same i d night u = ap (λ (xs : List TrainUnit). get_or xs u no_unit) (units_same make_unit 0 i d night.arrive)

from_same : (i d : ℕ) (night : Night) (s : Shape) → unit_from (late i d night) s ≡ unit_from night s
from_same i d night s = ap (λ (n : ℕ). n + (s.p - 1)) (count_same s.arr.0 i d night.arrive)

-- the block is of the late train, or of another
pub which : (i d : ℕ) (b : Block) → ((b.arr.0 ≡ i) × (late_by i d b ≡ d)) ⊎ ((b.arr.0 ≢ i) × (late_by i d b ≡ 0))
which i d b = elim (eqb_tells b.arr.0 i) [
  | inl is ↦ inl (is.1, cond-true (b.arr.0 == i) d 0 is.0)
  | inr apart ↦ inr (apart.1, cond-false (b.arr.0 == i) d 0 apart.0)
]

minute_late : (i d : ℕ) (night : Night) (b : Block) → b.arr.0 < length night.arrive → minute_at (late i d night).arrive b.arr.0 ≡ minute_at night.arrive b.arr.0 + late_by i d b
minute_late i d night b lt = ⊎_elim
    (λ is. let here : minute_at (delayed i d night.arrive) b.arr.0 ≡ minute_at night.arrive b.arr.0 + d = subst
    (λ (k : ℕ). minute_at (delayed k d night.arrive) b.arr.0 ≡ minute_at night.arrive b.arr.0 + d) is.0 (minute_here b.arr.0 d night.arrive lt) in
    here ∙ ap (λ (n : ℕ). minute_at night.arrive b.arr.0 + n) (sym is.1))
    (λ apart. let there = minute_there i d b.arr.0 night.arrive apart.0 in let none = apart.1 in omega (arith, there, none))
    (which i d b)

train_late : (i d : ℕ) (night : Night) (b : Block) → b.arr.0 < length night.arrive
    → (train_at (late i d night).arrive b.arr.0).minute ≡ (train_at night.arrive b.arr.0).minute + late_by i d b
train_late i d night b lt = ⊎_elim
    (λ is. let here : (train_at (delayed i d night.arrive) b.arr.0).minute ≡ (train_at night.arrive b.arr.0).minute + d = subst
    (λ (k : ℕ). (train_at (delayed k d night.arrive) b.arr.0).minute ≡ (train_at night.arrive b.arr.0).minute + d) is.0 (train_here b.arr.0 d night.arrive lt) in
    here ∙ ap (λ (n : ℕ). (train_at night.arrive b.arr.0).minute + n) (sym is.1))
    (λ apart. let there : (train_at (delayed i d night.arrive) b.arr.0).minute ≡ (train_at night.arrive b.arr.0).minute = ap (λ t. t.minute)
    (train_there i d b.arr.0 night.arrive apart.0) in let none = apart.1 in omega (arith, there, none))
    (which i d b)

ready_late : Units → (i d : ℕ) (night : Night) (b : Block) (k : ℕ) → AreRunsWithin night (shape_of b) → k < b.n
    → ready (late i d night) (unit_from (late i d night) (shape_of b) + k) ≡ ready night (unit_from night (shape_of b) + k) + late_by i d b
ready_late units i d night b k r lt =
    let u = unit_from night (shape_of b) + k in
    let at : unit_from (late i d night) (shape_of b) + k ≡ u = ap (λ (n : ℕ). n + k) (from_same i d night (shape_of b)) in
    let same : unit_at (late i d night) (unit_from (late i d night) (shape_of b) + k) ≡ unit_at night u = ap (λ (n : ℕ). unit_at (late i d night) n) at ∙ unit_same i d night u in
    let train : (unit_at night u).train.0 ≡ b.arr.0 = ap (λ (x : TrainUnit). x.train.0) (units night (shape_of b) k r lt) in
    let turn : ℕ = turn_of night.station (unit_at night u).kind in
    let first : ready (late i d night) (unit_from (late i d night) (shape_of b) + k)
    ≡ minute_at (late i d night).arrive (unit_at night u).train.0 + turn = ap (λ (x : TrainUnit). ready_of night.station (delayed i d night.arrive) x) same in
    let second : minute_at (late i d night).arrive (unit_at night u).train.0 ≡ minute_at (late i d night).arrive b.arr.0 = ap
    (λ (n : ℕ). minute_at (delayed i d night.arrive) n) train in
    let third : minute_at night.arrive (unit_at night u).train.0 ≡ minute_at night.arrive b.arr.0 = ap (λ (n : ℕ). minute_at night.arrive n) train in
    let fourth = minute_late i d night b r.arr in
    omega (arith, first, second, third, fourth)

all_same : (n : ℕ) (p q : ℕ → Bool) → ((k : ℕ) → k < n → p k ≡ q k) → all_below n p ≡ all_below n q
all_same zero p q same = refl
all_same (suc n) p q same = ap (λ (t : Bool). t && p n) (all_same n p q (λ k lt. same k (omega arith))) ∙ ap (λ (t : Bool). all_below n q && t) (same n (omega arith))

pub soon_late : Units → (i d : ℕ) (night : Night) (b : Block) → AreRunsWithin night (shape_of b)
    → is_too_soon (late i d night) (shape_of b) ≡ is_too_soon_by night (late_by i d b) (shape_of b)
soon_late units i d night b r = ap (λ (t : Bool). not t) (all_same b.n
    (λ k. nat_le (ready (late i d night) (unit_from (late i d night) (shape_of b) + k)) (leave_minute night (shape_of b)))
    (λ k. nat_le (ready night (unit_from night (shape_of b) + k) + late_by i d b) (leave_minute night (shape_of b)))
    (λ k lt. ap (λ (m : ℕ). nat_le m (leave_minute night (shape_of b))) (ready_late units i d night b k r lt)))

-- what the code gives of a block that is in time where no train is late
none_by : (night : Night) (s : Shape) → is_too_soon_by night 0 s ≡ is_too_soon night s
none_by night s = ap (λ (t : Bool). not t) (all_same s.n
    (λ k. nat_le (ready night (unit_from night s + k) + 0) (leave_minute night s))
    (λ k. nat_le (ready night (unit_from night s + k)) (leave_minute night s))
    (λ k lt. let none : ready night (unit_from night s + k) + 0 ≡ ready night (unit_from night s + k) = omega arith in ap (λ (m : ℕ). nat_le m (leave_minute night s)) none))

pub soon_own : Units → (i d : ℕ) (night : Night) (b : Block) (t : Bool) → AreRunsWithin night (shape_of b) → b.arr.0 ≡ i → t ≡ is_too_soon_by night d (shape_of b)
    → t ≡ is_too_soon (late i d night) (shape_of b)
soon_own units i d night b t r own e = ⊎_elim
    (λ is. e ∙ ap (λ (k : ℕ). is_too_soon_by night k (shape_of b)) (sym is.1) ∙ sym (soon_late units i d night b r))
    (λ apart. absurd (apart.0 own))
    (which i d b)

pub soon_other : Units → (i d : ℕ) (night : Night) (b : Block) → AreRunsWithin night (shape_of b) → b.arr.0 ≢ i → is_too_soon night (shape_of b) ≡ false
    → false ≡ is_too_soon (late i d night) (shape_of b)
soon_other units i d night b r other in_time = ⊎_elim
    (λ is. absurd (other is.0))
    (λ apart. sym (soon_late units i d night b r ∙ ap (λ (k : ℕ). is_too_soon_by night k (shape_of b)) apart.1 ∙ none_by night (shape_of b) ∙ in_time))
    (which i d b)

-- ---- stays

length_late : (i d : ℕ) (night : Night) (b : Block) → block_length (late i d night) b ≡ block_length night b
length_late i d night b = sum_below-same b.n
    (λ k. length_of night.station (unit_at (late i d night) (unit_from (late i d night) (shape_of b) + k)).kind)
    (λ k. length_of night.station (unit_at night (unit_from night (shape_of b) + k)).kind)
    (λ k lt. ap (λ (n : ℕ). length_of night.station (unit_at (late i d night) (n + k)).kind) (from_same i d night (shape_of b))
    ∙ ap (λ (x : TrainUnit). length_of night.station x.kind) (unit_same i d night (unit_from night (shape_of b) + k)))

abbrev made : Night → Block → Park → ℕ → ℕ → Stay
made night b k minute size = record {
  id = b.id;
  track = k.track;
  side_in = k.side_in;
  side_out = k.side_out;
  enter = record
      { minute = minute; enters = true; train = b.arr.0; place = b.p; id = b.id };
  leave = leave_key night b;
  length = size;
}

parked_late : (i d : ℕ) (night : Night) (b : Block) (k : Park) → b.arr.0 < length night.arrive → parked_stay (late i d night) b k ≡ later (late_by i d b) (parked_stay night b k)
parked_late i d night b k lt =
    ap (λ (m : ℕ). made night b k m (block_length (late i d night) b)) (train_late i d night b lt)
    ∙ ap (λ (n : ℕ). made night b k ((train_at night.arrive b.arr.0).minute + late_by i d b) n) (length_late i d night b)

-- who isn't too soon so late isn't too soon
pub soon_never : (night : Night) (d : ℕ) (s : Shape) → is_too_soon_by night d s ≡ false → is_too_soon night s ≡ false
soon_never night d s soon = ap (λ (t : Bool). not t) (all_pass s.n
    (λ k. nat_le (ready night (unit_from night s + k)) (leave_minute night s))
    (λ k lt. less (ready night (unit_from night s + k)) d (leave_minute night s) (each_passes s.n (λ k. nat_le (ready night (unit_from night s + k) + d) (leave_minute night s))
    (not-false _ soon) k lt)))
  where
    less : (m d n : ℕ) → nat_le (m + d) n ≡ true → nat_le m n ≡ true
    less m d n h = le-leb m n (let le : m + d ≤ n = leb-true (m + d) n h in omega arith)

-- the stay of a block that is so late
abbrev pub late_stay : Night → ℕ → Block → Option Stay
late_stay night d b = if is_too_soon_by night d (shape_of b) then None else option_map (later d) (stay_of night b)

cond_none : {X : Type 0} (t : Bool) → ◌≡◌ {A = Option X} (if t then None else None) None
cond_none true = refl
cond_none false = refl

stay_with_late : Units → (i d : ℕ) (night : Night) (b : Block) (o : Option Park) → AreRunsWithin night (shape_of b)
    → stay_with (late i d night) b o ≡ (if is_too_soon_by night (late_by i d b) (shape_of b) then None else option_map (later (late_by i d b)) (stay_with night b o))
stay_with_late units i d night b None r = sym (cond_none (is_too_soon_by night (late_by i d b) (shape_of b)))
stay_with_late units i d night b (Some k) r =
    let same = soon_late units i d night b r in
    let by = is_too_soon_by night (late_by i d b) (shape_of b) in
    let parked : Option Stay = Some (parked_stay (late i d night) b k) in
    let before : Option Stay = option_map (later (late_by i d b)) (stay_with night b (Some k)) in
    elim (cases_Bool by) [
      | inl soon ↦ cond-true (is_too_soon (late i d night) (shape_of b)) None parked (same ∙ soon) ∙ sym (cond-true by None before soon)
      | inr late_enough ↦ cond-false (is_too_soon (late i d night) (shape_of b)) None parked (same ∙ late_enough)
          ∙ ap (λ (s : Stay). Some s) (parked_late i d night b k r.arr)
          ∙ sym (ap (λ (o : Option Stay). option_map (later (late_by i d b)) o) (cond-false (is_too_soon night (shape_of b)) None (Some (parked_stay night b k))
          (soon_never night (late_by i d b) (shape_of b) late_enough)))
          ∙ sym (cond-false by None before late_enough)
    ]

pub stay_late : Units → (i d : ℕ) (night : Night) (b : Block) → AreRunsWithin night (shape_of b) → stay_of (late i d night) b ≡ late_stay night (late_by i d b) b
stay_late units i d night b r = stay_with_late units i d night b b.park r

-- what the code gives
pub late_none : Units → (i d own : ℕ) (night : Night) (b : Block) (t : Bool) → AreRunsWithin night (shape_of b) → own ≡ late_by i d b → t ≡ is_too_soon_by night own (shape_of b)
    → t ≡ true → None ≡ stay_of (late i d night) b
late_none units i d own night b t r e f soon =
    let by : is_too_soon_by night (late_by i d b) (shape_of b) ≡ true = ap (λ (n : ℕ). is_too_soon_by night n (shape_of b)) (sym e) ∙ sym f ∙ soon in
    sym (stay_late units i d night b r ∙ cond-true (is_too_soon_by night (late_by i d b) (shape_of b)) None (option_map (later (late_by i d b)) (stay_of night b)) by)

pub late_some : Units → (i d own : ℕ) (night : Night) (b : Block) (t : Bool) (o p : Option Stay) → AreRunsWithin night (shape_of b) → own ≡ late_by i d b
    → t ≡ is_too_soon_by night own (shape_of b) → t ≡ false → o ≡ stay_of night b → p ≡ option_map (later own) o → p ≡ stay_of (late i d night) b
late_some units i d own night b t o p r e f late_enough g h =
    let by : is_too_soon_by night (late_by i d b) (shape_of b) ≡ false = ap (λ (n : ℕ). is_too_soon_by night n (shape_of b)) (sym e) ∙ sym f ∙ late_enough in
    h ∙ ap (λ (n : ℕ). option_map (later n) o) e ∙ ap (λ (q : Option Stay). option_map (later (late_by i d b)) q) g
    ∙ sym (stay_late units i d night b r ∙ cond-false (is_too_soon_by night (late_by i d b) (shape_of b)) None (option_map (later (late_by i d b)) (stay_of night b)) by)

-- ---- ranges

range_late : (i d : ℕ) (night : Night) (b : Block) → IsInRange night b → IsInRange (late i d night) b
range_late i d night b h = record {
  from = h.from;
  to = h.to;
  within = record {
    runs = record {
      arr = subst (λ (n : ℕ). b.arr.0 < n) (sym (length_same i d night.arrive)) h.within.runs.arr;
      dep = h.within.runs.dep;
      p = h.within.runs.p;
      n = h.within.runs.n;
      q = h.within.runs.q;
      units = subst (λ (us : List TypeId). b.p + b.n ≤ length us + 1) (sym (same_units i d b.arr.0 night.arrive)) h.within.runs.units;
      positions = h.within.runs.positions;
    };
    track = h.within.track;
  };
}

pub in_range_late : (i d : ℕ) (night : Night) (blocks : List Block) → AreInRange night blocks → AreInRange (late i d night) blocks
in_range_late i d night blocks h = record {
  few = h.few;
  each = λ k e lt. range_late i d night (get_or blocks k e) (h.each k e lt);
  ids = h.ids;
}

pub never_late : (i : ℕ) (night : Night) → late i 0 night ≡ night
never_late i night = ap (λ (ts : List Train). record night { arrive = ts }) (none_late i night.arrive)
