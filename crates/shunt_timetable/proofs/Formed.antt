-- What is stated of a timetable is well formed.
use Rattle.std.proofs.Common.{◌≡◌, ◌≢◌, ℕ, zero, suc, ◌+◌, ◌-◌, ◌<◌, ◌≤◌, Bool, true, false, not, ◌&&◌, List, [], ◌∷◌, ◌++◌, length, length-append, filter, refl, sym, ap, subst, ◌∙◌, arith, IsTrue, cond}
use Rattle.std.specs.Prelude.{Ok, bytes_eq, All, IfSome, Option, position, codes, take, drop, ◌==◌, if◌then◌else◌}
use Rattle.std.specs.List.{list_any}
use Rattle.std.specs.Option.{unwrap_or}
use Rattle.std.proofs.lemmas.List.{append-nil, append_assoc}
use Rattle.std.proofs.lemmas.List.Elements.{All-nil, All-push, All-weaker, filter-append}
use Rattle.std.proofs.lemmas.List.Quantifiers.{position-Some}
use Rattle.std.proofs.lemmas.Bool.{true≢false, ltb-true, and_parts, not-true}
use Rattle.std.proofs.lemmas.List.Sums.{sum_by-append}
use Rattle.shunt_base.proofs.Names.{name_from}
use Rattle.shunt_lists.proofs.Lists.{no_pairs}
use Rattle.shunt_base.specs.declared.ids.TrackId.{TrackId}
use Rattle.shunt_base.specs.declared.ids.TypeId.{TypeId}
use Rattle.shunt_base.specs.defs.Spelling.{IsName, decimal_of, minute_of}
use Rattle.shunt_rows.specs.defs.Records.{at}
use Rattle.shunt_rows.specs.defs.Checks.{Judged, answer, AllHold, ◌>>=◌, says as only}
use Rattle.shunt_rows.specs.defs.Fields.{is_word}
use Rattle.shunt_rows.specs.defs.Formats.{reading}
use Rattle.shunt_rows.proofs.Answered.{says, answered, hold_first, hold_rest, next, in_either}
use Rattle.shunt_rows.proofs.KeptStates.{formed}
use Rattle.shunt_rows.proofs.Named.{distinct_push, same_name}
use Rattle.shunt_rows.proofs.Spelled.{there, within, minute_small}
use Rattle.shunt_instance.specs.declared.records.PlacedRun.{PlacedRun}
use Rattle.shunt_instance.specs.declared.records.Station.{Station}
use Rattle.shunt_instance.specs.declared.records.Timetable.{Timetable}
use Rattle.shunt_instance.specs.declared.records.TrackEnd.{TrackEnd}
use Rattle.shunt_instance.specs.declared.records.Train.{Train}
use Rattle.shunt_instance.specs.declared.records.Origin.{Origin}
use Rattle.shunt_instance.specs.declared.records.Origin.TheVariants as origin
use Rattle.shunt_instance.specs.defs.Words.{is_open_at, is_standing, track_of_name, train_at, unit_count}
use Rattle.shunt_lists.specs.defs.Members.{AreDistinct}
use Rattle.shunt_instance.proofs.Found.{track_within}
use Rattle.shunt_instance.proofs.Placed.{none_placed}
use Rattle.shunt_instance.specs.defs.Wellformed.{IsOrigin, IsPlacedRun, IsTrain, AreTrains, StandingFirst, IsTimetable}
use Rattle.shunt_timetable.specs.defs.TimetableFormat.{Listed, first_of, has_train, unit_of, units_from, empty_train, standing_of, moving_of, stand_of, arrive_of, depart_of, meets_units, units_in, track_number, no_end, parked_end, end_in, placed_train, with_placed, placed_of, may_stand, later_of, timetable_of, timetable_format}
use Rattle.shunt_timetable.proofs.PlacedRuns.{with_run_all, with_run_apart, clear_of_all, map_swapped, all_swapped, sum_swapped, filter_none, filter_whole, standing_swapped, at_train}

-- a train with more units, and the same in all else
record Fills (station : Station) (before : ℕ) (t : Train) (more : ℕ) (u : Train) : Type 0 where
  name : u.name ≡ t.name
  minute : u.minute ≡ t.minute
  origin : u.origin ≡ t.origin
  many : length u.units ≡ length t.units + more
  placed : u.placed ≡ t.placed
  kinds : All (λ k. k.0 < length station.types) u.units
  room : before + length u.units ≤ 160

units_fill : (n : ℕ) (station : Station) (before : ℕ) (t : Train) (row : List (List ℕ)) (k more : ℕ) (u : Train) → All (λ k. k.0 < length station.types) t.units
    → before + length t.units ≤ 160
    → answer n (units_from station before t row k more) ≡ Ok u → Fills station before t more u
unfolding units_from unit_of
units_fill n station before t row k zero u kinds room e =
    subst (Fills station before t zero) (says n (units_from station before t row k zero) u e).1
    (record { name = refl; minute = refl; origin = refl; many = omega arith; placed = refl; kinds = kinds; room = room })
units_fill n station before t row k (suc more) u kinds room e =
    let place = position (λ x. bytes_eq x.name (at row k)) station.types in
    let a = next _ _ _ u e in
    let b = next _ _ _ u a.1 in
    let kind : TypeId = record { 0 = unwrap_or place 0 } in
    let lt = (position-Some (λ x. bytes_eq x.name (at row k)) station.types (unwrap_or place 0) (record { name = []; length = 0; turn = 0 }) (there 0 place a.0)).0 in
    let less = ltb-true (before + length t.units) 160 b.0 in
    let f = units_fill n station before (record t { units = t.units ++ kind ∷ [] }) row (k + 1) more u (All-push (λ k. k.0 < length station.types) t.units kind kinds lt)
    (omega (arith, less, length-append t.units (kind ∷ []))) b.1 in
    record {
      name = f.name;
      minute = f.minute;
      origin = f.origin;
      many = omega (
        arith,
        f.many,
        length-append t.units (kind ∷ []),
      );
      placed = f.placed;
      kinds = f.kinds;
      room = f.room;
    }

-- what is stated of one more train
pub record Adds (station : Station) (trains : List Train) (t : Train) : Type 0 where
  pub room : length trains < 100
  pub train : IsTrain station t
  pub new : has_train trains t.name ≡ false
  pub units : unit_count trains + length t.units ≤ 160

stands_at : (t : Train) (o : Origin) → t.origin ≡ o → is_standing t ≡ is_standing (empty_train [] 0 o)
stands_at t o is = ap (λ o. is_standing (empty_train [] 0 o)) is

filled : (station : Station) (trains : List Train) (t u : Train) (more : ℕ) → length trains < 100 → IsName t.name → has_train trains t.name ≡ false → t.minute < 2880
    → IsOrigin station t.origin → t.units ≡ [] → t.placed ≡ [] → 1 ≤ more → more ≤ 8
    → Fills station (unit_count trains) t more u → Adds station trains u
filled station trains t u more room name new minute place none bare some few f = record {
  room = room;
  train = record {
    name = subst IsName (sym f.name) name;
    minute = subst (λ m. m < 2880) (sym f.minute) minute;
    origin = subst (IsOrigin station) (sym f.origin) place;
    some = omega (arith, f.many, ap length none);
    few = omega (arith, f.many, ap length none);
    kinds = f.kinds;
    placed = none_placed station u (f.placed ∙ bare);
  };
  new = ap (has_train trains) f.name ∙ new;
  units = f.room;
}

moving_adds : (n : ℕ) (station : Station) (trains : List Train) (row : List (List ℕ)) (t : Train) → unit_count trains ≤ 160 → answer n (moving_of station trains row) ≡ Ok t
    → Adds station trains t × (is_standing t ≡ false) × (t.placed ≡ [])
unfolding moving_of
moving_adds n station trains row t units e =
    let place = position (λ x. bytes_eq x (at row 4)) station.platforms in
    let a = next _ _ _ t e in
    let b = next _ _ _ t a.1 in
    let c = next _ _ _ t b.1 in
    let d = next _ _ _ t c.1 in
    let m = next _ _ _ t d.1 in
    let p = next _ _ _ t m.1 in
    let bare : Train = empty_train (at row 2) (unwrap_or (minute_of (at row 3)) 0) (origin.Platform (record { 0 = unwrap_or place 0 })) in
    let f = units_fill n station (unit_count trains) bare row 5 (length row - 4) t (All-nil (λ k. k.0 < length station.types)) (omega (arith, units)) p.1 in
    let w = within 5 12 (length row) a.0 in
    let lt = (position-Some (λ x. bytes_eq x (at row 4)) station.platforms (unwrap_or place 0) [] (there 0 place p.0)).0 in (
      filled station trains bare t (length row - 4) (ltb-true _ _ b.0) (name_from (at row 2) c.0) (not-true _ d.0)
          (minute_small (at row 3) _ (there 0 (minute_of (at row 3)) m.0)) lt refl refl (omega (arith, w.0)) (omega (arith, w.1)) f,
      stands_at t bare.origin f.origin,
      f.placed,
    )

standing_adds : (n : ℕ) (station : Station) (trains : List Train) (row : List (List ℕ)) (t : Train) → unit_count trains ≤ 160 → answer n (standing_of station trains row) ≡ Ok t
    → Adds station trains t × (is_standing t ≡ true) × (t.minute ≡ 0)
unfolding standing_of
standing_adds n station trains row t units e =
    let place = position (λ x. bytes_eq x.name (at row 3)) station.tracks in
    let a = next _ _ _ t e in
    let b = next _ _ _ t a.1 in
    let c = next _ _ _ t b.1 in
    let d = next _ _ _ t c.1 in
    let p = next _ _ _ t d.1 in
    let bare : Train = empty_train (at row 2) 0 (origin.Track (record { 0 = unwrap_or place 0 })) in
    let f = units_fill n station (unit_count trains) bare row 4 (length row - 3) t (All-nil (λ k. k.0 < length station.types)) (omega (arith, units)) p.1 in
    let w = within 4 11 (length row) a.0 in
    let lt = (position-Some (λ x. bytes_eq x.name (at row 3)) station.tracks (unwrap_or place 0) (record { name = []; length = 0; side_a = true; side_b = true })
    (there 0 place p.0)).0 in (
      filled station trains bare t (length row - 3) (ltb-true _ _ b.0) (name_from (at row 2) c.0) (not-true _ d.0) (omega arith) lt refl refl (omega (arith, w.0))
          (omega (arith, w.1)) f,
      stands_at t bare.origin f.origin,
      f.minute,
    )

trains_push : (station : Station) (trains : List Train) (t : Train) → AreTrains station trains → Adds station trains t → AreTrains station (trains ++ t ∷ [])
trains_push station trains t all one = record {
  few = let room = one.room in omega (arith, length-append trains (t ∷ []));
  units = let fit = one.units in omega (arith, sum_by-append (λ t. length t.units) trains (t ∷ []));
  each = All-push (IsTrain station) trains t all.each one.train;
  names = distinct_push (λ u. u.name) (λ u. bytes_eq u.name t.name) trains t (λ u. same_name t.name u.name) all.names one.new;
}

-- where all stand, the standing ones are first
all_stand : (trains : List Train) → All (λ t. is_standing t ≡ true) trains → StandingFirst trains
all_stand trains all =
    let none = filter_none (λ t. not (is_standing t)) trains (λ k d lt. ap not (all k d lt)) in
    sym (ap (λ ts. ts ++ filter (λ t. not (is_standing t)) trains) (filter_whole is_standing trains all) ∙ ap (λ ts. trains ++ ts) none ∙ append-nil trains)

-- a train that doesn't stand may come behind them
moves_last : (trains : List Train) (t : Train) → StandingFirst trains → is_standing t ≡ false → StandingFirst (trains ++ t ∷ [])
moves_last trains t first moves =
    let p = is_standing in
    let q = λ (t : Train). not (is_standing t) in
    let stand : filter p (trains ++ t ∷ []) ≡ filter p trains = filter-append p trains (t ∷ []) ∙ ap (λ b. filter p trains ++ cond b (t ∷ []) []) moves
    ∙ append-nil (filter p trains) in
    let come : filter q (trains ++ t ∷ []) ≡ filter q trains ++ t ∷ [] = filter-append q trains (t ∷ []) ∙ ap (λ b. filter q trains ++ cond (not b) (t ∷ []) []) moves in
    sym (ap (λ ts. ts ++ filter q (trains ++ t ∷ [])) stand ∙ ap (λ ts. filter p trains ++ ts) come ∙ sym (append_assoc (filter p trains) (filter q trains) (t ∷ []))
    ∙ ap (λ ts. ts ++ t ∷ []) (sym first))

-- what the records so far state is well formed; where none moves yet, all stand
pub record IsListed (station : Station) (s : Listed) : Type 0 where
  pub arrive : AreTrains station s.arrive
  pub depart : AreTrains station s.depart
  pub first : StandingFirst s.arrive
  pub at_start : All (λ r. IsTrue (is_standing r) → r.minute ≡ 0) s.arrive
  pub from_platform : All (λ r. is_standing r ≡ false) s.depart
  pub to_come : All (λ r. r.placed ≡ []) s.depart
  pub still : s.moving ≡ false → All (λ r. is_standing r ≡ true) s.arrive

no_trains : (station : Station) → AreTrains station []
no_trains station = record { few = omega arith; units = omega arith; each = All-nil (IsTrain station); names = no_pairs (λ m n. m ≢ n) }

nothing_listed : (station : Station) (version : ℕ) → IsListed station (record { version = version; arrive = []; depart = []; moving = false })
nothing_listed station version = record {
  arrive = no_trains station;
  depart = no_trains station;
  first = refl;
  at_start = All-nil (λ r. IsTrue (is_standing r) → r.minute ≡ 0);
  from_platform = All-nil (λ r. is_standing r ≡ false);
  to_come = All-nil (λ r. r.placed ≡ []);
  still = λ e. All-nil (λ r. is_standing r ≡ true);
}

pub first_formed : (station : Station) (s : Listed) (row : List (List ℕ)) → answer 1 (first_of row) ≡ Ok s → IsListed station s
unfolding first_of
first_formed station s row e =
    subst (IsListed station) (says 1 (first_of row) s e).1 (nothing_listed station (unwrap_or (decimal_of (at row 2)) 0))

-- a train that is read, and what a record says with it
alone : {A B : Type 0} (n : ℕ) (m : Judged A) (more : A → B) (y : B) → answer n (m >>= (λ t. only (more t))) ≡ Ok y → (answer n m ≡ Ok m.value) × (more m.value ≡ y)
alone n m more y e = let all = says n (m >>= (λ t. only (more t))) y e in (answered n m m.value (hold_first m.checks [] all.0, refl), all.1)

stand_keeps : (n : ℕ) (station : Station) (s t : Listed) (row : List (List ℕ)) → IsListed station s → s.moving ≡ false → answer n (stand_of station s row) ≡ Ok t
    → IsListed station t
unfolding stand_of
stand_keeps n station s t row f still e =
    let m = standing_of station s.arrive row in
    let p = alone n m (λ u. record s { arrive = s.arrive ++ u ∷ [] }) t e in
    let one = standing_adds n station s.arrive row m.value f.arrive.units p.0 in
    let all = All-push (λ r. is_standing r ≡ true) s.arrive m.value (f.still still) one.1 in
    subst (IsListed station) p.1 (record {
      arrive = trains_push station s.arrive m.value f.arrive one.0;
      depart = f.depart;
      first = all_stand (s.arrive ++ m.value ∷ []) all;
      at_start = All-push (λ r. IsTrue (is_standing r) → r.minute ≡ 0) s.arrive m.value f.at_start (λ stands. one.2);
      from_platform = f.from_platform;
      to_come = f.to_come;
      still = λ e. all;
    })

arrive_keeps : (n : ℕ) (station : Station) (s t : Listed) (row : List (List ℕ)) → IsListed station s → answer n (arrive_of station s row) ≡ Ok t → IsListed station t
unfolding arrive_of
arrive_keeps n station s t row f e =
    let m = moving_of station s.arrive row in
    let p = alone n m (λ u. record s { arrive = s.arrive ++ u ∷ []; moving = true }) t e in
    let one = moving_adds n station s.arrive row m.value f.arrive.units p.0 in
    subst (IsListed station) p.1 (record {
      arrive = trains_push station s.arrive m.value f.arrive one.0;
      depart = f.depart;
      first = moves_last s.arrive m.value f.first one.1;
      at_start = All-push (λ r. IsTrue (is_standing r) → r.minute ≡ 0) s.arrive m.value f.at_start (λ stands. absurd (true≢false (sym stands ∙ one.1)));
      from_platform = f.from_platform;
      to_come = f.to_come;
      still = λ e. absurd (true≢false e);
    })

depart_keeps : (n : ℕ) (station : Station) (s t : Listed) (row : List (List ℕ)) → IsListed station s → answer n (depart_of station s row) ≡ Ok t → IsListed station t
unfolding depart_of
depart_keeps n station s t row f e =
    let m = moving_of station s.depart row in
    let p = alone n m (λ u. record s { depart = s.depart ++ u ∷ []; moving = true }) t e in
    let one = moving_adds n station s.depart row m.value f.depart.units p.0 in
    subst (IsListed station) p.1 (record {
      arrive = f.arrive;
      depart = trains_push station s.depart m.value f.depart one.0;
      first = f.first;
      at_start = f.at_start;
      from_platform = All-push (λ r. is_standing r ≡ false) s.depart m.value f.from_platform one.1;
      to_come = All-push (λ r. r.placed ≡ []) s.depart m.value f.to_come one.2;
      still = λ e. absurd (true≢false e);
    })

-- ---- a placed run

-- what is read of a run's units
record AreUnits (t : Train) (r : PlacedRun) : Type 0 where
  first : 1 ≤ r.first
  some : 1 ≤ r.count
  within : r.first + r.count ≤ length t.units + 1
  clear : list_any (meets_units r.first r.count) t.placed ≡ false

units_read : (t : Train) (row : List (List ℕ)) → AllHold (units_in t row).checks → AreUnits t (units_in t row).value
unfolding units_in
units_read t row h =
    let first = unwrap_or (decimal_of (at row 3)) 0 in
    let count = unwrap_or (decimal_of (at row 4)) 0 in
    let p = within 1 (length t.units) first h.1.1.0 in
    let c = within 1 (length t.units + 1 - first) count h.1.1.1.1.0 in
    record { first = p.0; some = c.0; within = omega (arith, p.0, p.1, c.1); clear = not-true _ h.1.0 }

-- what is read of the end by which it came
record IsEnd (station : Station) (t : Train) (end : Option TrackEnd) : Type 0 where
  moved : IfSome end (λ e. is_standing t ≡ false)
  track : IfSome end (λ e. e.track.0 < length station.tracks)
  open_at : IfSome end (λ e. IsTrue (is_open_at station e.track e.side))

end_read : (station : Station) (t : Train) (row : List (List ℕ)) → AllHold (end_in station t row).checks → IsEnd station t (end_in station t row).value
unfolding end_in no_end parked_end track_number
end_read station t row h = by (length row == 5) h
  where
    by : (b : Bool) → AllHold (if b then no_end row else parked_end station t row).checks → IsEnd station t (if b then no_end row else parked_end station t row).value
    by true h = record { moved = tt; track = tt; open_at = tt }
    by false h =
        let none : TrackId = record { 0 = 0 } in
        let found = track_of_name station (at row 6) in
        let track = unwrap_or found none in
        record {
          moved = not-true _ (and_parts _ _ h.0).1;
          track = track_within station (at row 6) track (there none found h.1.0);
          open_at = h.1.1.1.0;
        }

run_read : (station : Station) (t : Train) (r : PlacedRun) (end : Option TrackEnd) → AreUnits t r → IsEnd station t end → IsPlacedRun station t (record r { came_by = end })
run_read station t r end u e = record { first = u.first; some = u.some; within = u.within; moved = e.moved; track = e.track; open_at = e.open_at }

-- a run of a train is one of the train with more runs
still_placed : (station : Station) (t : Train) (r s : PlacedRun) → IsPlacedRun station t s → IsPlacedRun station (placed_train r t) s
still_placed station t r s h = record { first = h.first; some = h.some; within = h.within; moved = h.moved; track = h.track; open_at = h.open_at }

-- a train with one more run, which has none of the units that have come
one_placed : (station : Station) (t : Train) (r : PlacedRun) → IsPlacedRun station t r → list_any (meets_units r.first r.count) t.placed ≡ false → IsTrain station t
    → IsTrain station (placed_train r t)
one_placed station t r run clear h =
    let p = h.placed in
    let each = All-weaker (IsPlacedRun station t) (IsPlacedRun station (placed_train r t)) (still_placed station t r) t.placed p.each in
    record {
      name = h.name;
      minute = h.minute;
      origin = h.origin;
      some = h.some;
      few = h.few;
      kinds = h.kinds;
      placed = record {
        each = with_run_all (IsPlacedRun station (placed_train r t)) r t.placed (still_placed station t r r run) each;
        apart = with_run_apart r t.placed run.some (All-weaker (IsPlacedRun station t) (λ s. 1 ≤ s.count) (λ s q. q.some) t.placed p.each)
            (clear_of_all r t.placed run.some clear) p.apart;
      };
    }

-- a train in the place of one that it is like in all but its runs
train_swapped : (station : Station) (front back : List Train) (t u : Train) → u.name ≡ t.name → u.units ≡ t.units → (IsTrain station t → IsTrain station u)
    → AreTrains station (front ++ t ∷ back) → AreTrains station (front ++ u ∷ back)
train_swapped station front back t u name units h all = record {
  few = let few = all.few in omega (arith, few, length-append front (t ∷ back), length-append front (u ∷ back));
  units = let fit = all.units in omega (arith, fit, sum_swapped (λ (v : Train). length v.units) front back t u (ap length (sym units)));
  each = all_swapped (IsTrain station) front back t u h all.each;
  names = subst AreDistinct (map_swapped (λ (v : Train). v.name) front back t u (sym name)) all.names;
}

run_keeps : (station : Station) (s : Listed) (k : ℕ) (r : PlacedRun) → IsListed station s → k < length s.arrive → IsPlacedRun station (train_at s.arrive k) r
    → list_any (meets_units r.first r.count) (train_at s.arrive k).placed ≡ false
    → IsListed station (record s { arrive = with_placed k r s.arrive })
run_keeps station s k r f lt run clear =
    let t = train_at s.arrive k in
    let front = take k s.arrive in
    let back = drop (k + 1) s.arrive in
    let e = at_train k s.arrive lt in
    record {
      arrive = train_swapped station front back t (placed_train r t) refl refl (one_placed station t r run clear) (subst (AreTrains station) e f.arrive);
      depart = f.depart;
      first = standing_swapped front back t (placed_train r t) refl (subst StandingFirst e f.first);
      at_start = let P : Train → Type 0 = λ v. IsTrue (is_standing v) → v.minute ≡ 0 in all_swapped P front back t (placed_train r t) (λ h. h) (subst (All P) e f.at_start);
      from_platform = f.from_platform;
      to_come = f.to_come;
      still = λ m. let P : Train → Type 0 = λ v. is_standing v ≡ true in all_swapped P front back t (placed_train r t) (λ h. h) (subst (All P) e (f.still m));
    }

placed_keeps : (n : ℕ) (station : Station) (s t : Listed) (row : List (List ℕ)) → IsListed station s → answer n (placed_of station s row) ≡ Ok t → IsListed station t
unfolding placed_of
placed_keeps n station s t row f e =
    let place = position (λ x. bytes_eq x.name (at row 2)) s.arrive in
    let k = unwrap_or place 0 in
    let all = says n (placed_of station s row) t e in
    let u = units_in (train_at s.arrive k) row in
    let w = end_in station (train_at s.arrive k) row in
    let lt = (position-Some (λ x. bytes_eq x.name (at row 2)) s.arrive k (train_at [] 0) (there 0 place all.0.1.0)).0 in
    let units = units_read (train_at s.arrive k) row (hold_first u.checks (w.checks ++ []) all.0.1.1) in
    let end = end_read station (train_at s.arrive k) row (hold_first w.checks [] (hold_rest u.checks (w.checks ++ []) all.0.1.1)) in
    subst (IsListed station) all.1 (run_keeps station s k (record u.value { came_by = w.value }) f lt
    (run_read station (train_at s.arrive k) u.value w.value units end) units.clear)

pub later_keeps : (n : ℕ) (station : Station) (s t : Listed) (row : List (List ℕ)) → IsListed station s → answer n (later_of station s row) ≡ Ok t → IsListed station t
unfolding later_of
later_keeps n station s t row f e =
    in_either n (is_word row (codes "arrive")) _ _ t (IsListed station t) (λ w. arrive_keeps n station s t row f)
    (in_either n (is_word row (codes "depart")) _ _ t (IsListed station t) (λ w. depart_keeps n station s t row f)
    (in_either n (may_stand s && is_word row (codes "stand")) _ _ t (IsListed station t) (λ w. stand_keeps n station s t row f (not-true _ (and_parts _ _ (and_parts _ _ w).0).1))
    (in_either n (s.version == 3 && is_word row (codes "placed")) _ _ t (IsListed station t) (λ w. placed_keeps n station s t row f) (λ e. absurd cc)))) e

pub all_formed : (station : Station) (s : Listed) → IsListed station s → IsTimetable station (timetable_of s)
all_formed station s f = record { arrive = f.arrive; depart = f.depart; first = f.first; at_start = f.at_start; from_platform = f.from_platform; to_come = f.to_come }

pub timetable_formed : (station : Station) (rows : List (List (List ℕ))) (t : Timetable) → reading (timetable_format station) rows ≡ Ok t → IsTimetable station t
timetable_formed station = formed (timetable_format station) (IsListed station) (IsTimetable station) (first_formed station) (λ n s u row f is. later_keeps n station s u row f is)
    (all_formed station)
