-- Nights with the same trains but for what has come of them.
use Rattle.std.proofs.Common.{◌≡◌, ℕ, zero, suc, ◌+◌, ◌-◌, ◌<◌, ◌≤◌, Bool, true, List, [], ◌∷◌, ◌++◌, length, get_or, map, take, refl, sym, ap, subst, ◌∙◌, arith}
use Rattle.std.specs.Prelude.{nat_le, nat_lt, ◌&&◌, not, count_by, Option, Some, None, if◌then◌else◌}
use Rattle.std.specs.List.{filter_map}
use Rattle.std.proofs.Math.Path.{fun_ext}
use Rattle.std.proofs.lemmas.List.Sums.{sum_by-cons}
use Rattle.shunt_lists.specs.defs.Below.{all_below, sum_below}
use Rattle.shunt_base.specs.declared.ids.TypeId.{TypeId}
use Rattle.shunt_base.specs.declared.ids.TrackId.{TrackId}
use Rattle.shunt_base.specs.declared.keys.Stay.{Stay}
use Rattle.shunt_stays.specs.defs.Run.{GoesThrough}
use Rattle.shunt_instance.specs.declared.records.PlacedRun.{PlacedRun}
use Rattle.shunt_instance.specs.declared.records.Station.{Station}
use Rattle.shunt_instance.specs.declared.records.Train.{Train}
use Rattle.shunt_instance.specs.declared.records.Unit.{Unit as TrainUnit}
use Rattle.shunt_instance.specs.defs.Words.{train_at, minute_at, turn_of, unit_count, permits}
use Rattle.shunt_instance.specs.defs.Instance.{Night, numbered_from, numbered_through, make_unit, units_of, unit_at, ready_of, ready}
use Rattle.shunt_instance.specs.defs.Matching.{Entry, IsMatchable}
use Rattle.shunt_blocks.specs.declared.records.Shape.{Shape}
use Rattle.shunt_blocks.specs.declared.records.Block.{Block}
use Rattle.shunt_blocks.specs.declared.records.Park.{Park}
use Rattle.shunt_blocks.specs.defs.Shapes.{shape_of, unit_from, position_from, unit_entry, position_entry, AreRunsWithin, IsWithinTrains, IsInRange, IsShape}
use Rattle.shunt_blocks.specs.defs.Ways.{permits_units}
use Rattle.shunt_blocks.specs.defs.Stays.{length_of, leave_minute, leave_key, is_too_soon, block_length, parked_stay, stay_with, stay_of}
use Rattle.shunt_blocks.specs.defs.Lists.{has_unit, times_unit, Covers, AreInRange, track_lengths, stays_of, RunsThrough}

-- trains that differ in what has come of them alone
pub record Alike (arrive other : List Train) : Type 0 where
  pub units : units_of other ≡ units_of arrive
  pub many : length other ≡ length arrive
  pub firsts : (a : ℕ) → unit_count (take a other) ≡ unit_count (take a arrive)
  pub minutes : (a : ℕ) → minute_at other a ≡ minute_at arrive a
  pub train_minutes : (a : ℕ) → (train_at other a).minute ≡ (train_at arrive a).minute
  pub types : (a : ℕ) → (train_at other a).units ≡ (train_at arrive a).units
  pub origins : (a : ℕ) → (train_at other a).origin ≡ (train_at arrive a).origin

pub turned : (arrive other : List Train) → Alike arrive other → Alike other arrive
turned arrive other h = record {
  units = sym h.units;
  many = sym h.many;
  firsts = λ a. sym (h.firsts a);
  minutes = λ a. sym (h.minutes a);
  train_minutes = λ a. sym (h.train_minutes a);
  types = λ a. sym (h.types a);
  origins = λ a. sym (h.origins a);
}

-- ---- trains of which more has come

abbrev pub with_placed : (Train → List PlacedRun) → Train → Train
with_placed placed t = record t { placed = placed t }

abbrev size : Train → ℕ
size t = length t.units

module _ (placed : Train → List PlacedRun) where
  numbers_stay : {X : Type 0} (make : ℕ → ℕ → TypeId → X) (a : ℕ) (ts : List Train) → numbered_through make a (map (with_placed placed) ts) ≡ numbered_through make a ts
  numbers_stay make a [] = refl
  numbers_stay {X} make a (t ∷ ts) = ap (λ (xs : List X). numbered_from make a 1 t.units ++ xs) (numbers_stay make (a + 1) ts)

  many_stay : (ts : List Train) → length (map (with_placed placed) ts) ≡ length ts
  many_stay [] = refl
  many_stay (t ∷ ts) = ap (λ (n : ℕ). suc n) (many_stay ts)

  pub counts_stay : (ts : List Train) → unit_count (map (with_placed placed) ts) ≡ unit_count ts
  counts_stay [] = refl
  counts_stay (t ∷ ts) = sum_by-cons size (with_placed placed t) (map (with_placed placed) ts) ∙ ap (λ (n : ℕ). size t + n) (counts_stay ts) ∙ sym (sum_by-cons size t ts)

  firsts_stay : (ts : List Train) (a : ℕ) → unit_count (take a (map (with_placed placed) ts)) ≡ unit_count (take a ts)
  firsts_stay [] zero = refl
  firsts_stay [] (suc a) = refl
  firsts_stay (t ∷ ts) zero = refl
  firsts_stay (t ∷ ts) (suc a) = sum_by-cons size (with_placed placed t) (take a (map (with_placed placed) ts)) ∙ ap (λ (n : ℕ). size t + n) (firsts_stay ts a)
      ∙ sym (sum_by-cons size t (take a ts))

  minutes_stay : (ts : List Train) (a : ℕ) → minute_at (map (with_placed placed) ts) a ≡ minute_at ts a
  minutes_stay [] a = refl
  minutes_stay (t ∷ ts) zero = refl
  minutes_stay (t ∷ ts) (suc a) = minutes_stay ts a

  -- what is said of a train but for what has come of it
  field_stays : {X : Type 0} (f : Train → X) → ((t : Train) → f (with_placed placed t) ≡ f t) → (ts : List Train) (a : ℕ)
      → f (train_at (map (with_placed placed) ts) a) ≡ f (train_at ts a)
  field_stays f same [] a = refl
  field_stays f same (t ∷ ts) zero = same t
  field_stays f same (t ∷ ts) (suc a) = field_stays f same ts a

  pub come_alike : (ts : List Train) → Alike ts (map (with_placed placed) ts)
  come_alike ts = record {
    units = numbers_stay make_unit 0 ts;
    many = many_stay ts;
    firsts = firsts_stay ts;
    minutes = minutes_stay ts;
    train_minutes = field_stays (λ t. t.minute) (λ t. refl) ts;
    types = field_stays (λ t. t.units) (λ t. refl) ts;
    origins = field_stays (λ t. t.origin) (λ t. refl) ts;
  }

  pub come_at : (ts : List Train) (a : ℕ) → a < length ts → train_at (map (with_placed placed) ts) a ≡ with_placed placed (train_at ts a)
  come_at [] a lt = absurd (omega arith)
  come_at (t ∷ ts) zero lt = refl
  come_at (t ∷ ts) (suc a) lt = come_at ts a (omega arith)

-- ---- blocks

abbrev no_unit : TrainUnit
no_unit = make_unit 0 0 (record { 0 = 0 })

abbrev entry : ℕ → ℕ → Entry
entry kind minute = record { kind = kind; minute = minute }

abbrev made : Night → Block → Park → ℕ → ℕ → Stay
made night b k minute size = record {
  id = b.id;
  track = k.track;
  side_in = k.side_in;
  side_out = k.side_out;
  enter = record { minute = minute; enters = true; train = b.arr.0; place = b.p; id = b.id };
  leave = leave_key night b;
  length = size;
}

abbrev pub night_with : Station → List Train → List Train → Night
night_with s depart arrive = record { station = s; arrive = arrive; depart = depart }

module _ (s : Station) (depart arrive other : List Train) (h : Alike arrive other) where
  abbrev old : Night
  old = night_with s depart arrive

  abbrev new : Night
  new = night_with s depart other

  unit_same : (u : ℕ) → unit_at new u ≡ unit_at old u
  unit_same u = ap (λ (xs : List TrainUnit). get_or xs u no_unit) h.units

  from_same : (x : Shape) → unit_from new x ≡ unit_from old x
  from_same x = ap (λ (n : ℕ). n + (x.p - 1)) (h.firsts x.arr.0)

  -- the unit at a place of a shape
  placed_same : (x : Shape) (k : ℕ) → unit_at new (unit_from new x + k) ≡ unit_at old (unit_from old x + k)
  placed_same x k = ap (λ (n : ℕ). unit_at new (n + k)) (from_same x) ∙ unit_same (unit_from old x + k)

  ready_of_same : (u : TrainUnit) → ready_of s other u ≡ ready_of s arrive u
  ready_of_same u = ap (λ (n : ℕ). n + turn_of s u.kind) (h.minutes u.train.0)

  ready_same : (x : Shape) (k : ℕ) → ready new (unit_from new x + k) ≡ ready old (unit_from old x + k)
  ready_same x k = ap (λ (u : TrainUnit). ready_of s other u) (placed_same x k) ∙ ready_of_same (unit_at old (unit_from old x + k))

  entry_same : (x : Shape) (k : ℕ) → unit_entry new (unit_from new x + k) ≡ unit_entry old (unit_from old x + k)
  entry_same x k =
      ap (λ (u : TrainUnit). entry u.kind.0 (ready new (unit_from new x + k))) (placed_same x k)
      ∙ ap (λ (m : ℕ). entry (unit_at old (unit_from old x + k)).kind.0 m) (ready_same x k)

  runs_stay : (x : Shape) → AreRunsWithin old x → AreRunsWithin new x
  runs_stay x r = record {
    arr = subst (λ (n : ℕ). x.arr.0 < n) (sym h.many) r.arr;
    dep = r.dep;
    p = r.p;
    n = r.n;
    q = r.q;
    units = subst (λ (us : List TypeId). x.p + x.n ≤ length us + 1) (sym (h.types x.arr.0)) r.units;
    positions = r.positions;
  }

  pub shape_stays : (x : Shape) → IsShape old x → IsShape new x
  shape_stays x i = record {
    within = runs_stay x i.within;
    pairs = λ k lt. subst (λ (e : Entry). IsMatchable e (position_entry old (position_from old x + k))) (sym (entry_same x k)) (i.pairs k lt);
  }

  pub within_stays : (b : Block) → IsWithinTrains old b → IsWithinTrains new b
  within_stays b i = record { runs = runs_stay (shape_of b) i.runs; track = i.track }

  pub range_stays : (b : Block) → IsInRange old b → IsInRange new b
  range_stays b i = record { from = i.from; to = i.to; within = within_stays b i.within }

  pub ranges_stay : (blocks : List Block) → AreInRange old blocks → AreInRange new blocks
  ranges_stay blocks are = record { few = are.few; each = λ k d lt. range_stays (get_or blocks k d) (are.each k d lt); ids = are.ids }

  pub permits_stay : (x : Shape) (track : TrackId) → permits_units new x track ≡ permits_units old x track
  permits_stay x track = ap (λ (test : ℕ → Bool). all_below x.n test) (fun_ext (λ k. ap (λ (u : TrainUnit). permits s track u.kind) (placed_same x k)))

  soon_stays : (x : Shape) → is_too_soon new x ≡ is_too_soon old x
  soon_stays x = ap (λ (test : ℕ → Bool). not (all_below x.n test)) (fun_ext (λ k. ap (λ (m : ℕ). nat_le m (leave_minute old x)) (ready_same x k)))

  length_stays : (b : Block) → block_length new b ≡ block_length old b
  length_stays b = ap (λ (f : ℕ → ℕ). sum_below b.n f) (fun_ext (λ k. ap (λ (u : TrainUnit). length_of s u.kind) (placed_same (shape_of b) k)))

  parked_stays : (b : Block) (k : Park) → parked_stay new b k ≡ parked_stay old b k
  parked_stays b k = ap (λ (m : ℕ). made old b k m (block_length new b)) (h.train_minutes b.arr.0)
      ∙ ap (λ (n : ℕ). made old b k (train_at arrive b.arr.0).minute n) (length_stays b)

  with_stays : (b : Block) (o : Option Park) → stay_with new b o ≡ stay_with old b o
  with_stays b None = refl
  with_stays b (Some k) = ap (λ (t : Bool). if t then None else Some (parked_stay new b k)) (soon_stays (shape_of b))
      ∙ ap (λ (x : Stay). if is_too_soon old (shape_of b) then None else Some x) (parked_stays b k)

  stay_stays : (b : Block) → stay_of new b ≡ stay_of old b
  stay_stays b = with_stays b b.park

  pub stays_stay : (blocks : List Block) → stays_of new blocks ≡ stays_of old blocks
  stays_stay blocks = ap (λ (f : Block → Option Stay). filter_map f blocks) (fun_ext stay_stays)

  pub through_stays : (blocks : List Block) → RunsThrough old blocks → RunsThrough new blocks
  through_stays blocks through = subst (GoesThrough (track_lengths s)) (sym (stays_stay blocks)) through

  has_stays : (x : Shape) (u : ℕ) → has_unit new x u ≡ has_unit old x u
  has_stays x u = ap (λ (n : ℕ). nat_le n u && nat_lt u (n + x.n)) (from_same x)

  pub times_stay : (blocks : List Block) (u : ℕ) → times_unit new blocks u ≡ times_unit old blocks u
  times_stay blocks u = ap (λ (test : Block → Bool). count_by test blocks) (fun_ext (λ b. has_stays (shape_of b) u))

  pub covers_stay : (blocks : List Block) → Covers old blocks → Covers new blocks
  covers_stay blocks c = record {
    units = λ u lt. times_stay blocks u ∙ c.units u (subst (λ (us : List TrainUnit). u < length us) h.units lt);
    positions = c.positions;
  }
