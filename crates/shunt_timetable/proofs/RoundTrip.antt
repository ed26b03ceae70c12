-- The rows of a timetable state it.
use Rattle.std.proofs.Common.{◌≡◌, ℕ, zero, suc, ◌+◌, ◌-◌, ◌<◌, ◌≤◌, Bool, true, false, not, List, [], ◌∷◌, ◌++◌, length, length-append, map, filter, drop, refl, sym, ap, subst, ◌∙◌, arith, cond}
use Rattle.std.specs.Prelude.{Ok, bytes_eq, All, AllPairs, IfSome, Option, Some, None, option_map, position, codes, slice_index_or, take, flat_map, nat_le, nat_lt, ◌==◌, ◌&&◌, ◌||◌, if◌then◌else◌}
use Rattle.std.specs.Fmt.{decimal}
use Rattle.std.specs.List.{list_any}
use Rattle.std.specs.Option.{is_some, unwrap_or}
use Rattle.std.proofs.lemmas.List.{append-nil, append_assoc, length-map, map-append, map-id}
use Rattle.std.proofs.lemmas.List.Concat.{flat_map-cons}
use Rattle.std.proofs.lemmas.List.Elements.{All-nil, All-tail, All-cons, All-map, All-weaker}
use Rattle.std.proofs.lemmas.Option.{slice_get-get_or}
use Rattle.std.proofs.lemmas.Bool.{true≢false, lt-ltb, ltb-true, not-true, and_from, and_left, and_right, or_from, or_parts, false_from_ne_true}
use Rattle.std.proofs.lemmas.List.Sums.{sum_by-append, sum_by-cons}
use Rattle.shunt_lists.specs.defs.Members.{AreDistinct}
use Rattle.shunt_base.proofs.Names.{name_read}
use Rattle.shunt_base.specs.declared.ids.TypeId.{TypeId}
use Rattle.shunt_base.specs.declared.ids.PlatformId.{PlatformId}
use Rattle.shunt_base.specs.declared.ids.TrackId.{TrackId}
use Rattle.shunt_base.specs.declared.ids.Side.{Side}
use Rattle.shunt_base.specs.declared.ids.Side.TheVariants as sides
use Rattle.shunt_base.specs.defs.Spelling.{minute_text, minute_of, decimal_of}
use Rattle.shunt_base.proofs.Minutes.{read_again}
use Rattle.shunt_rows.specs.defs.Records.{at}
use Rattle.shunt_rows.specs.declared.fault.RowKind.TheVariants as kinds
use Rattle.shunt_rows.specs.defs.Checks.{Judged, answer, found, must, says, ◌>>=◌}
use Rattle.shunt_rows.specs.defs.Fields.{is_within, is_word, no_word, side_of}
use Rattle.shunt_rows.specs.defs.Formats.{IsReadByEach, reads, reading}
use Rattle.shunt_rows.specs.defs.Written.{side_text}
use Rattle.shunt_rows.proofs.Answered.{passes_on, holding}
use Rattle.shunt_rows.proofs.Joins.{part_ok}
use Rattle.shunt_rows.proofs.Named.{by_name, not_before, of_middle}
use Rattle.shunt_rows.proofs.Plain.{side_read}
use Rattle.shunt_rows.proofs.Sections.{section, section_then, then_reads, all_read}
use Rattle.shunt_rows.proofs.Spelled.{in_range, number_again}
use Rattle.shunt_instance.specs.declared.records.Station.{Station}
use Rattle.shunt_instance.specs.declared.records.PlacedRun.{PlacedRun}
use Rattle.shunt_instance.specs.declared.records.Track.{Track}
use Rattle.shunt_instance.specs.declared.records.TrackEnd.{TrackEnd}
use Rattle.shunt_instance.specs.declared.records.Train.{Train}
use Rattle.shunt_instance.specs.declared.records.Timetable.{Timetable}
use Rattle.shunt_instance.specs.declared.records.Origin.{Origin}
use Rattle.shunt_instance.specs.declared.records.Origin.TheVariants as origin
use Rattle.shunt_instance.specs.defs.Words.{is_open_at, is_standing, names_of, track_names, train_at, unit_count}
use Rattle.shunt_instance.specs.defs.Wellformed.{IsPlacedRun, IsStation, IsTrain, AreTrains, IsTimetable}
use Rattle.shunt_instance.proofs.Found.{found_there}
use Rattle.shunt_timetable.specs.defs.TimetableFormat.{Listed, first_of, unit_of, units_from, empty_train, standing_of, moving_of, stand_of, meets_units, units_in, track_number, no_end, parked_end, end_in, placed_train, with_placed, placed_of, may_stand, later_of, timetable_format}
use Rattle.shunt_timetable.specs.defs.WrittenRows.{type_names, unit_names, standing_row, moving_row, end_fields, placed_row, placed_rows, all_to_come, rows_of}
use Rattle.shunt_instance.proofs.Placed.{none_placed}
use Rattle.shunt_timetable.proofs.Formed.{Adds}
use Rattle.shunt_timetable.proofs.Parts.{stand_ok, arrive_ok, depart_ok}
use Rattle.shunt_instance.proofs.Placed.{Before}
use Rattle.shunt_timetable.proofs.PlacedRuns.{heads_apart, rest_apart, with_run_last}

-- the fields from one on
field_of : (row : List (List ℕ)) (k : ℕ) (x : List ℕ) (rest : List (List ℕ)) → drop k row ≡ x ∷ rest → (slice_index_or row k [] ≡ x) × (drop (k + 1) row ≡ rest)
field_of [] zero x rest e = absurd cc
field_of [] (suc k) x rest e = absurd cc
field_of (f ∷ row) zero x rest e = (let same : f ≡ x = cc in same, let same : row ≡ rest = cc in same)
field_of (f ∷ row) (suc k) x rest e =
    let r = field_of row k x rest e in
    (r.0, ap (λ i. drop i (f ∷ row)) (let s : suc k + 1 ≡ suc (k + 1) = omega arith in s) ∙ r.1)

-- a thing of a list is found by its name
found_named : {X : Type 0} (name : X → List ℕ) (xs : List X) (k : ℕ) (d : X) (text : List ℕ) → AreDistinct (map name xs) → k < length xs → text ≡ slice_index_or (map name xs) k []
    → position (λ x. bytes_eq (name x) text) xs ≡ Some k
found_named name xs k d text h lt is =
    found_there name xs text k d h (slice_get-get_or (map name xs) k [] (omega (arith, length-map xs name)) ∙ ap Some (sym is))

-- a train from its parts, none of whose units has come
abbrev of_parts : List ℕ → ℕ → Origin → List TypeId → Train
of_parts name minute o units = record { name = name; minute = minute; origin = o; units = units; placed = [] }

-- a train as its own record states it
abbrev bare : Train → Train
bare t = record t { placed = [] }

units_again : (n : ℕ) (station : Station) (before : ℕ) (name : List ℕ) (minute : ℕ) (o : Origin) (done coming : List TypeId) (row : List (List ℕ)) (j : ℕ)
    → AreDistinct (type_names station)
    → drop j row ≡ map (λ k. slice_index_or (type_names station) k.0 []) coming → All (λ k. k.0 < length station.types) coming → before + length done + length coming ≤ 160
    → answer n (units_from station before (of_parts name minute o done) row (j + 1) (length coming)) ≡ Ok (of_parts name minute o (done ++ coming))
unfolding units_from unit_of
units_again n station before name minute o done [] row j h e kinds room = ap (λ u. Ok (of_parts name minute o u)) (sym (append-nil done))
units_again n station before name minute o done (kind ∷ coming) row j h e kinds room =
    let f = field_of row j (slice_index_or (type_names station) kind.0 []) (map (λ k. slice_index_or (type_names station) k.0 []) coming) e in
    let here : at row (j + 1) ≡ slice_index_or (type_names station) kind.0 [] = ap (λ i. slice_index_or row i []) (let s : j + 1 - 1 ≡ j = omega arith in s) ∙ f.0 in
    let place = position (λ x. bytes_eq x.name (at row (j + 1))) station.types in
    let is : place ≡ Some kind.0 = found_named (λ x. x.name) station.types kind.0 (record { name = []; length = 0; turn = 0 }) (at row (j + 1)) h
    (kinds 0 kind (omega arith)) here in
    let value : unwrap_or place 0 ≡ kind.0 = ap (λ x. unwrap_or x 0) is in
    let more = units_again n station before name minute o (done ++ kind ∷ []) coming row (j + 1) h f.1 (All-tail (λ k. k.0 < length station.types) kind coming kinds)
    (omega (arith, room, length-append done (kind ∷ []))) in
    passes_on _ _ _ _ (ap is_some is)
    (passes_on _ _ _ _ (lt-ltb _ _ (omega (arith, room)))
    (subst (λ k. answer n (units_from station before (of_parts name minute o (done ++ record { 0 = k } ∷ [])) row (j + 1 + 1) (length coming))
    ≡ Ok (of_parts name minute o (done ++ kind ∷ coming))) (sym value)
    (more ∙ ap (λ u. Ok (of_parts name minute o u)) (append_assoc done (kind ∷ []) coming))))

many_units : (station : Station) (t : Train) → length (unit_names station t) ≡ length t.units
many_units station t = length-map t.units (λ k. slice_index_or (type_names station) k.0 [])

moving_parts : (n : ℕ) (station : Station) (trains : List Train) (word name : List ℕ) (minute : ℕ) (p : PlatformId) (units : List TypeId) → IsStation station
    → Adds station trains (of_parts name minute (origin.Platform p) units)
    → answer n (moving_of station trains (moving_row station word (of_parts name minute (origin.Platform p) units))) ≡ Ok (of_parts name minute (origin.Platform p) units)
unfolding moving_of
moving_parts n station trains word name minute p units s a =
    let row = moving_row station word (of_parts name minute (origin.Platform p) units) in
    let many = many_units station (of_parts name minute (origin.Platform p) units) in
    let place = position (λ x. bytes_eq x (at row 4)) station.platforms in
    let some = a.train.some in
    let few = a.train.few in
    let is : place ≡ Some p.0 = found_named (λ x. x) station.platforms p.0 [] (at row 4) (subst AreDistinct (sym (map-id station.platforms)) s.platform_names) a.train.origin
    (ap (λ l. slice_index_or l p.0 []) (sym (map-id station.platforms))) in
    let value : unwrap_or place 0 ≡ p.0 = ap (λ x. unwrap_or x 0) is in
    let time : minute_of (minute_text minute) ≡ Some minute = read_again minute a.train.minute in
    let now : unwrap_or (minute_of (minute_text minute)) 0 ≡ minute = ap (λ x. unwrap_or x 0) time in
    let all = units_again n station (unit_count trains) name minute (origin.Platform p) [] units row 4 s.type_names refl a.train.kinds (let u = a.units in omega (arith, u)) in
    let wide : length row - 4 ≡ length units = omega (arith, many) in
    passes_on _ _ _ _ (in_range 5 12 (length row) (omega (arith, many, some)) (omega (arith, many, few)))
    (passes_on _ _ _ _ (lt-ltb _ _ a.room)
    (passes_on _ _ _ _ (name_read name a.train.name)
    (passes_on _ _ _ _ (ap not a.new)
    (passes_on _ _ _ _ (ap is_some time)
    (passes_on _ _ _ _ (ap is_some is)
    (ap (λ m. answer n (units_from station (unit_count trains) (empty_train name m (origin.Platform (record { 0 = unwrap_or place 0 }))) row 5 (length row - 4))) now
    ∙ ap (λ k. answer n (units_from station (unit_count trains) (empty_train name minute (origin.Platform (record { 0 = k }))) row 5 (length row - 4))) value
    ∙ ap (λ w. answer n (units_from station (unit_count trains) (empty_train name minute (origin.Platform p)) row 5 w)) wide
    ∙ all))))))

standing_parts : (n : ℕ) (station : Station) (trains : List Train) (name : List ℕ) (k : TrackId) (units : List TypeId) → IsStation station
    → Adds station trains (of_parts name 0 (origin.Track k) units)
    → answer n (standing_of station trains (standing_row station (of_parts name 0 (origin.Track k) units))) ≡ Ok (of_parts name 0 (origin.Track k) units)
unfolding standing_of
standing_parts n station trains name k units s a =
    let row = standing_row station (of_parts name 0 (origin.Track k) units) in
    let many = many_units station (of_parts name 0 (origin.Track k) units) in
    let place = position (λ x. bytes_eq x.name (at row 3)) station.tracks in
    let some = a.train.some in
    let few = a.train.few in
    let is : place ≡ Some k.0 = found_named (λ x. x.name) station.tracks k.0 (record { name = []; length = 0; side_a = true; side_b = true })
    (at row 3) s.track_names a.train.origin refl in
    let value : unwrap_or place 0 ≡ k.0 = ap (λ x. unwrap_or x 0) is in
    let all = units_again n station (unit_count trains) name 0 (origin.Track k) [] units row 3 s.type_names refl a.train.kinds (let u = a.units in omega (arith, u)) in
    let wide : length row - 3 ≡ length units = omega (arith, many) in
    passes_on _ _ _ _ (in_range 4 11 (length row) (omega (arith, many, some)) (omega (arith, many, few)))
    (passes_on _ _ _ _ (lt-ltb _ _ a.room)
    (passes_on _ _ _ _ (name_read name a.train.name)
    (passes_on _ _ _ _ (ap not a.new)
    (passes_on _ _ _ _ (ap is_some is)
    (ap (λ i. answer n (units_from station (unit_count trains) (empty_train name 0 (origin.Track (record { 0 = i }))) row 4 (length row - 3))) value
    ∙ ap (λ w. answer n (units_from station (unit_count trains) (empty_train name 0 (origin.Track k)) row 4 w)) wide
    ∙ all)))))

-- one train is read again from its row
moving_again : (n : ℕ) (station : Station) (trains : List Train) (word : List ℕ) (t : Train) → IsStation station → Adds station trains (bare t) → is_standing t ≡ false
    → answer n (moving_of station trains (moving_row station word t)) ≡ Ok (bare t)
moving_again n station trains word t s a moves = by t.origin refl
  where
    by : (o : Origin) → t.origin ≡ o → answer n (moving_of station trains (moving_row station word t)) ≡ Ok (bare t)
    by (origin.Platform p) is =
        subst (λ o. answer n (moving_of station trains (moving_row station word (of_parts t.name t.minute o t.units))) ≡ Ok (of_parts t.name t.minute o t.units)) (sym is)
        (moving_parts n station trains word t.name t.minute p t.units s (subst (λ o. Adds station trains (of_parts t.name t.minute o t.units)) is a))
    by (origin.Track k) is = absurd (true≢false (sym (ap (λ o. is_standing (of_parts t.name t.minute o t.units)) is) ∙ moves))

standing_again : (n : ℕ) (station : Station) (trains : List Train) (t : Train) → IsStation station → Adds station trains (bare t) → is_standing t ≡ true → t.minute ≡ 0
    → answer n (standing_of station trains (standing_row station t)) ≡ Ok (bare t)
standing_again n station trains t s a stands start = by t.origin refl
  where
    by : (o : Origin) → t.origin ≡ o → answer n (standing_of station trains (standing_row station t)) ≡ Ok (bare t)
    by (origin.Track k) is =
        subst (λ o. answer n (standing_of station trains (standing_row station (of_parts t.name t.minute o t.units))) ≡ Ok (of_parts t.name t.minute o t.units)) (sym is)
        (subst (λ m. answer n (standing_of station trains (standing_row station (of_parts t.name m (origin.Track k) t.units))) ≡ Ok (of_parts t.name m (origin.Track k) t.units))
        (sym start)
        (standing_parts n station trains t.name k t.units s
        (subst (λ m. Adds station trains (of_parts t.name m (origin.Track k) t.units)) start (subst (λ o. Adds station trains (of_parts t.name t.minute o t.units)) is a))))
    by (origin.Platform p) is = absurd (true≢false (sym stands ∙ ap (λ o. is_standing (of_parts t.name t.minute o t.units)) is))

-- what is read behind the trains before it
adds : (station : Station) (all done : List Train) (t : Train) (coming : List Train) → AreTrains station all → all ≡ done ++ t ∷ coming → Adds station done t
adds station all done t coming f e =
    let few = f.few in
    let units = f.units in
    record {
      room = omega (arith, few, ap length e, length-append done (t ∷ coming));
      train = of_middle (IsTrain station) all done coming t f.each e;
      new = not_before (λ u. u.name) (λ u. bytes_eq u.name t.name) done coming t (λ u. by_name t.name u.name)
          (subst (λ (l : List Train). AreDistinct (map (λ u. u.name) l)) e f.names);
      units = omega (arith, units, ap unit_count e, sum_by-append (λ u. length u.units) done (t ∷ coming), sum_by-cons (λ u. length u.units) t coming);
    }

-- ---- trains as their own records state them

bare_train : (station : Station) (t : Train) → IsTrain station t → IsTrain station (bare t)
bare_train station t h = record { name = h.name; minute = h.minute; origin = h.origin; some = h.some; few = h.few; kinds = h.kinds; placed = none_placed station (bare t) refl }

bare_names : (ts : List Train) → names_of ts ≡ names_of (map bare ts)
bare_names [] = refl
bare_names (t ∷ ts) = ap (λ l. t.name ∷ l) (bare_names ts)

bare_units : (ts : List Train) → unit_count (map bare ts) ≡ unit_count ts
bare_units [] = refl
bare_units (t ∷ ts) = omega (arith, bare_units ts, sum_by-cons (λ (u : Train). length u.units) (bare t) (map bare ts), sum_by-cons (λ (u : Train). length u.units) t ts)

bare_trains : (station : Station) (all : List Train) → AreTrains station all → AreTrains station (map bare all)
bare_trains station all f = record {
  few = let few = f.few in omega (arith, few, length-map all bare);
  units = let units = f.units in omega (arith, units, bare_units all);
  each = All-map (IsTrain station) bare all (All-weaker (IsTrain station) (λ t. IsTrain station (bare t)) (bare_train station) all f.each);
  names = subst AreDistinct (bare_names all) f.names;
}

bare_is : (t : Train) → t.placed ≡ [] → bare t ≡ t
bare_is t none = ap (λ r. record t { placed = r }) (sym none)

bare_push : (done : List Train) (t : Train) → map bare (done ++ t ∷ []) ≡ map bare done ++ bare t ∷ []
bare_push done t = map-append bare done (t ∷ [])

adds_bare : (station : Station) (all done : List Train) (t : Train) (coming : List Train) → AreTrains station all → all ≡ done ++ t ∷ coming → Adds station (map bare done) (bare t)
adds_bare station all done t coming f e = adds station (map bare all) (map bare done) (bare t) (map bare coming) (bare_trains station all f)
    (ap (map bare) e ∙ map-append bare done (t ∷ coming))

-- ---- the sections

abbrev listed : ℕ → List Train → List Train → Bool → Listed
listed version arrive depart moving = record { version = version; arrive = arrive; depart = depart; moving = moving }

-- whether a train moves, behind these
abbrev moves_after : Bool → List Train → Bool
moves_after b [] = b
moves_after b (t ∷ coming) = true

moves_on : (b : Bool) (done : List Train) (t : Train) → moves_after b (done ++ t ∷ []) ≡ true
moves_on b [] t = refl
moves_on b (u ∷ done) t = refl

-- a standing train's record is read as one where it may stand
stand_read : (n : ℕ) (station : Station) (s u : Listed) (t : Train) → may_stand s ≡ true → answer n (stand_of station s (standing_row station t)) ≡ Ok u
    → answer n (later_of station s (standing_row station t)) ≡ Ok u
unfolding later_of
stand_read n station s u t may is =
    let row = standing_row station t in
    ap (λ (b : Bool). answer n (if b && is_word row (codes "stand") then stand_of station s row else if s.version == 3 && is_word row
    (codes "placed") then placed_of station s row else no_word s)) may ∙ is

stand_next : (station : Station) (version : ℕ) (stand come : List Train) → nat_le 2 version ≡ true → IsStation station → AreTrains station (stand ++ come)
    → All (λ r. is_standing r ≡ true) stand → All (λ r. r.minute ≡ 0) stand
    → (n : ℕ) (done : List Train) (t : Train) (coming : List Train) → stand ≡ done ++ t ∷ coming
    → answer n (later_of station (listed version (map bare done) [] false) (standing_row station t)) ≡ Ok (listed version (map bare (done ++ t ∷ [])) [] false)
stand_next station version stand come two s f stands start n done t coming e =
    let before = listed version (map bare done) [] false in
    let one = standing_again n station (map bare done) t s (adds_bare station (stand ++ come) done t (coming ++ come) f
    (ap (λ l. l ++ come) e ∙ append_assoc done (t ∷ coming) come)) (of_middle (λ r. is_standing r ≡ true) stand done coming t stands e)
    (of_middle (λ r. r.minute ≡ 0) stand done coming t start e) in
    stand_read n station before (listed version (map bare (done ++ t ∷ [])) [] false) t (and_from _ _ two refl)
    (stand_ok n station before before (standing_row station t) (bare t) (map bare done) (map bare (done ++ t ∷ [])) refl refl (bare_push done t) one)

arrive_next : (station : Station) (version : ℕ) (stand come : List Train) → IsStation station → AreTrains station (stand ++ come) → All (λ r. is_standing r ≡ false) come
    → (n : ℕ) (done : List Train) (t : Train) (coming : List Train) → come ≡ done ++ t ∷ coming
    → answer n (later_of station (listed version (map bare (stand ++ done)) [] (moves_after false done)) (moving_row station (codes "arrive") t))
    ≡ Ok (listed version (map bare (stand ++ (done ++ t ∷ []))) [] (moves_after false (done ++ t ∷ [])))
unfolding later_of
arrive_next station version stand come s f moves n done t coming e =
    let before = listed version (map bare (stand ++ done)) [] (moves_after false done) in
    let one = moving_again n station (map bare (stand ++ done)) (codes "arrive") t s
    (adds_bare station (stand ++ come) (stand ++ done) t coming f (ap (λ l. stand ++ l) e ∙ sym (append_assoc stand done (t ∷ coming))))
    (of_middle (λ r. is_standing r ≡ false) come done coming t moves e) in
    arrive_ok n station before before (moving_row station (codes "arrive") t) (bare t) (map bare (stand ++ done)) (map bare (stand ++ (done ++ t ∷ []))) refl refl
    (ap (map bare) (sym (append_assoc stand done (t ∷ []))) ∙ bare_push (stand ++ done) t) one
    ∙ ap (λ b. Ok (listed version (map bare (stand ++ (done ++ t ∷ []))) [] b)) (sym (moves_on false done t))

depart_next : (station : Station) (version : ℕ) (arrive depart : List Train) (b : Bool) → IsStation station → AreTrains station depart → All (λ r. is_standing r ≡ false) depart
    → All (λ r. r.placed ≡ []) depart
    → (n : ℕ) (done : List Train) (t : Train) (coming : List Train) → depart ≡ done ++ t ∷ coming
    → answer n (later_of station (listed version arrive done (moves_after b done)) (moving_row station (codes "depart") t))
    ≡ Ok (listed version arrive (done ++ t ∷ []) (moves_after b (done ++ t ∷ [])))
unfolding later_of
depart_next station version arrive depart b s f moves come n done t coming e =
    let before = listed version arrive done (moves_after b done) in
    let same = bare_is t (of_middle (λ r. r.placed ≡ []) depart done coming t come e) in
    let one = moving_again n station done (codes "depart") t s (subst (Adds station done) (sym same) (adds station depart done t coming f e))
    (of_middle (λ r. is_standing r ≡ false) depart done coming t moves e) in
    depart_ok n station before before (moving_row station (codes "depart") t) t done (done ++ t ∷ []) refl refl refl (one ∙ ap Ok same)
    ∙ ap (λ m. Ok (listed version arrive (done ++ t ∷ []) m)) (sym (moves_on b done t))

-- ---- a placed run is read again

-- what its units say, by what is found of them
abbrev units_by : Train → Option ℕ → Option ℕ → Judged PlacedRun
units_by t from many = do
  first ← found 0 from 3 kinds.Number
  _ ← must (not (list_any (meets_units first (unwrap_or many 0)) t.placed)) 3 kinds.Repeat
  _ ← must (is_within 1 (length t.units) first) 3 kinds.Limit
  count ← found 0 many 4 kinds.Number
  _ ← must (is_within 1 (length t.units + 1 - first) count) 4 kinds.Limit
  says record { first = first; count = count; came_by = None }

units_read_again : (n : ℕ) (station : Station) (t : Train) (r : PlacedRun) (a b : List ℕ) (rest : List (List ℕ)) → length t.units ≤ 8 → IsPlacedRun station t r
    → list_any (meets_units r.first r.count) t.placed ≡ false
    → answer n (units_in t (a ∷ b ∷ decimal r.first ∷ decimal r.count ∷ rest)) ≡ Ok (record r { came_by = None })
unfolding units_in
units_read_again n station t r a b rest few h clear =
    let first = h.first in
    let some = h.some in
    let fits = h.within in
    let m = units_by t (Some r.first) (Some r.count) in
    ap (λ o. answer n (units_by t o (decimal_of (decimal r.count)))) (number_again r.first (omega (arith, fits, few)))
    ∙ ap (λ o. answer n (units_by t (Some r.first) o)) (number_again r.count (omega (arith, fits, few)))
    ∙ holding n m.checks m.value (
      refl,
      (
        ap not clear,
        (
          in_range 1 (length t.units) r.first first (omega (arith, fits, some)),
          (refl, (in_range 1 (length t.units + 1 - r.first) r.count some (omega (arith, fits)), tt)),
        ),
      ),
    )

abbrev track_id : ℕ → TrackId
track_id k = record { 0 = k }

track_there : (s : Station) (t : TrackId) → IsStation s → t.0 < length s.tracks → track_number s (slice_index_or (track_names s) t.0 []) ≡ Some t
unfolding track_number
track_there s t h lt = ap (option_map track_id) (found_named (λ (x : Track). x.name) s.tracks t.0 (record { name = []; length = 0; side_a = true; side_b = true })
    (slice_index_or (track_names s) t.0 []) h.track_names lt refl)

-- what a parked end says, by what is found of it
abbrev end_by : Station → Bool → Option TrackId → Option Side → Judged (Option TrackEnd)
end_by station stands on by = do
  _ ← must (not stands) 5 kinds.Kind
  track ← found (record { 0 = 0 }) on 6 kinds.Unknown
  side ← found sides.A by 7 kinds.Kind
  _ ← must (is_open_at station track side) 7 kinds.ClosedSide
  says (Some record { track = track; side = side })

end_read_again : (n : ℕ) (station : Station) (t : Train) (a b c d : List ℕ) (end : Option TrackEnd) → IsStation station
    → IfSome end (λ e. is_standing t ≡ false) → IfSome end (λ e. e.track.0 < length station.tracks) → IfSome end (λ e. is_open_at station e.track e.side ≡ true)
    → answer n (end_in station t (a ∷ b ∷ c ∷ d ∷ end_fields station end)) ≡ Ok end
unfolding end_in no_end parked_end
end_read_again n station t a b c d None s moves on passes = refl
end_read_again n station t a b c d (Some e) s moves on passes =
    let track = track_number station (slice_index_or (track_names station) e.track.0 []) in
    ap (λ m. answer n (end_by station m track (side_of (side_text e.side)))) moves
    ∙ ap (λ o. answer n (end_by station false o (side_of (side_text e.side)))) (track_there station e.track s on)
    ∙ ap (λ o. answer n (end_by station false (Some e.track) o)) (side_read e.side)
    ∙ passes_on _ _ _ _ passes refl

-- a placed run has 5 or 7 fields
fields_fit : (station : Station) (a b c d : List ℕ) (end : Option TrackEnd) → (length (a ∷ b ∷ c ∷ d ∷ end_fields station end) == 5 || length
    (a ∷ b ∷ c ∷ d ∷ end_fields station end) == 7) ≡ true
fields_fit station a b c d None = refl
fields_fit station a b c d (Some e) = refl

-- the one behind the front
behind : {X : Type 0} (front back : List X) (x d : X) → slice_index_or (front ++ x ∷ back) (length front) d ≡ x
behind [] back x d = refl
behind (w ∷ front) back x d = behind front back x d

placed_behind : (done back : List Train) (t : Train) (r : PlacedRun) → with_placed (length done) r (done ++ t ∷ back) ≡ done ++ placed_train r t ∷ back
placed_behind [] back t r = refl
placed_behind (w ∷ done) back t r =
    let k = length done in
    let l = w ∷ (done ++ t ∷ back) in
    let e : suc k + 1 ≡ suc (k + 1) = omega arith in
    ap (λ i. take (suc k) l ++ placed_train r (train_at l (suc k)) ∷ drop i l) e ∙ ap (λ ts. w ∷ ts) (placed_behind done back t r)

-- those before one end before it
ended_before : (xs ys : List PlacedRun) (y : PlacedRun) → AllPairs Before (xs ++ y ∷ ys) → All (λ s. Before s y) xs
ended_before [] ys y apart = All-nil (λ s. Before s y)
ended_before (s ∷ xs) ys y apart =
    All-cons (λ s. Before s y) s xs (of_middle (Before s) (xs ++ y ∷ ys) xs ys y (heads_apart s (xs ++ y ∷ ys) apart) refl)
    (ended_before xs ys y (rest_apart s (xs ++ y ∷ ys) apart))

not_met : (first count : ℕ) (xs : List PlacedRun) → All (λ s. s.first + s.count ≤ first) xs → list_any (meets_units first count) xs ≡ false
not_met first count [] all = refl
not_met first count (s ∷ xs) all =
    let le : s.first + s.count ≤ first = all 0 s (omega arith) in
    let past = false_from_ne_true (nat_lt first (s.first + s.count)) (λ e. let lt = ltb-true first (s.first + s.count) e in omega (arith, lt, le)) in
    or_from _ _ (and_left _ _ (and_right _ _ past)) (not_met first count xs (All-tail (λ s. s.first + s.count ≤ first) s xs all))

-- the trains of which one has its first runs, and those behind it none
abbrev with_front : List Train → Train → List Train → List PlacedRun → List Train
with_front done t coming runs = done ++ record t { placed = runs } ∷ map bare coming

front_names : (done coming : List Train) (t : Train) (runs : List PlacedRun) → names_of (done ++ t ∷ coming) ≡ names_of (with_front done t coming runs)
front_names [] coming t runs = ap (λ l. t.name ∷ l) (bare_names coming)
front_names (w ∷ done) coming t runs = ap (λ l. w.name ∷ l) (front_names done coming t runs)

front_name : (done back : List Train) (t : Train) → slice_index_or (names_of (done ++ t ∷ back)) (length done) [] ≡ t.name
front_name [] back t = refl
front_name (w ∷ done) back t = front_name done back t

-- the rest of a placed run's record, once its train is known
abbrev rest_of : Station → Listed → List (List ℕ) → ℕ → Train → Judged Listed
rest_of station s row k t = do
  run ← units_in t row
  end ← end_in station t row
  says record s { arrive = with_placed k (record run { came_by = end }) s.arrive }

placed_read : (n : ℕ) (station : Station) (s u : Listed) (row : List (List ℕ)) (k : ℕ) → (length row == 5 || length row == 7) ≡ true
    → position (λ t. bytes_eq t.name (at row 2)) s.arrive ≡ Some k
    → answer n (rest_of station s row k (train_at s.arrive k)) ≡ Ok u → answer n (placed_of station s row) ≡ Ok u
unfolding placed_of
placed_read n station s u row k fits there is =
    let value : k ≡ unwrap_or (position (λ t. bytes_eq t.name (at row 2)) s.arrive) 0 = sym (ap (λ x. unwrap_or x 0) there) in
    passes_on _ _ _ _ fits (passes_on _ _ _ _ (ap is_some there) (subst (λ i. answer n (rest_of station s row i (train_at s.arrive i)) ≡ Ok u) value is))

placed_later : (n : ℕ) (station : Station) (arrive depart : List Train) (m : Bool) (u : Listed) (t : Train) (r : PlacedRun)
    → answer n (placed_of station (listed 3 arrive depart m) (placed_row station t r)) ≡ Ok u
    → answer n (later_of station (listed 3 arrive depart m) (placed_row station t r)) ≡ Ok u
unfolding later_of
placed_later n station arrive depart m u t r is =
    let s = listed 3 arrive depart m in
    let row = placed_row station t r in
    ap (λ (b : Bool). answer n (if b then stand_of station s row else placed_of station s row)) (and_right (may_stand s) (is_word row (codes "stand")) refl) ∙ is

run_next : (station : Station) (depart : List Train) (m : Bool) (all done coming : List Train) (t : Train) → IsStation station → AreTrains station all → all ≡ done ++ t ∷ coming
    → IsReadByEach (timetable_format station) (placed_row station t) (λ runs. listed 3 (with_front done t coming runs) depart m) t.placed
run_next station depart m all done coming t s f is n xs r ys e =
    let u : Train = record t { placed = xs } in
    let back = map bare coming in
    let trains = done ++ u ∷ back in
    let before = listed 3 trains depart m in
    let row = placed_row station t r in
    let h = of_middle (IsTrain station) all done coming t f.each is in
    let run = of_middle (IsPlacedRun station t) t.placed xs ys r h.placed.each e in
    let own : IsPlacedRun station u r = record { first = run.first; some = run.some; within = run.within; moved = run.moved; track = run.track; open_at = run.open_at } in
    let ended = ended_before xs ys r (subst (AllPairs Before) e h.placed.apart) in
    let last = with_run_last r xs (All-weaker (λ s. Before s r) (λ s. s.first ≤ r.first) (λ s le. omega (arith, le)) xs ended) in
    let there : position (λ x. bytes_eq x.name t.name) trains ≡ Some (length done) = found_named (λ (x : Train). x.name) trains (length done) u t.name
    (subst AreDistinct (ap names_of is ∙ front_names done coming t xs) f.names) (omega (arith, length-append done (u ∷ back))) (sym (front_name done back u)) in
    placed_later n station trains depart m (listed 3 (with_front done t coming (xs ++ r ∷ [])) depart m) t r
    (placed_read n station before (listed 3 (with_front done t coming (xs ++ r ∷ [])) depart m) row (length done)
    (fields_fit station (codes "placed") t.name (decimal r.first) (decimal r.count) r.came_by) there
    (ap (λ v. answer n (rest_of station before row (length done) v)) (behind done back u (train_at [] 0))
    ∙ part_ok n (units_in u row) (λ p. end_in station u row >>= (λ end. says (record before { arrive = with_placed (length done) (record p { came_by = end }) trains })))
    (record r { came_by = None })
    (units_read_again n station u r (codes "placed") t.name (end_fields station r.came_by) h.few own (not_met r.first r.count xs ended))
    ∙ part_ok n (end_in station u row) (λ end. says (record before { arrive = with_placed (length done) (record r { came_by = end }) trains })) r.came_by
    (end_read_again n station u (codes "placed") t.name (decimal r.first) (decimal r.count) r.came_by s run.moved run.track run.open_at)
    ∙ ap (λ l. Ok (listed 3 l depart m)) (placed_behind done back u r ∙ ap (λ runs. done ++ record t { placed = runs } ∷ back) last)))

-- the runs of all trains, one train after the other
runs_again : (station : Station) (depart : List Train) (m : Bool) (all : List Train) → IsStation station → AreTrains station all → (done coming : List Train) → all ≡ done ++ coming
    → (n : ℕ)
    → reads (timetable_format station) (listed 3 (done ++ map bare coming) depart m) n (flat_map (placed_rows station) coming) ≡ Ok (listed 3 all depart m)
runs_again station depart m all s f done [] e n = ap (λ l. Ok (listed 3 l depart m)) (sym e)
runs_again station depart m all s f done (t ∷ coming) e n =
    let format = timetable_format station in
    let state = λ (runs : List PlacedRun). listed 3 (with_front done t coming runs) depart m in
    let end = listed 3 all depart m in
    let more = flat_map (placed_rows station) coming in
    ap (reads format (state []) n) (flat_map-cons (placed_rows station) t coming)
    ∙ then_reads format (state []) (state t.placed) end n (placed_rows station t) more
    (section format (placed_row station t) state t.placed (run_next station depart m all done coming t s f e) n [] t.placed refl)
    (λ k. subst (λ l. reads format (listed 3 l depart m) k more ≡ Ok end) (append_assoc done (t ∷ []) (map bare coming))
    (runs_again station depart m all s f (done ++ t ∷ []) coming (e ∙ sym (append_assoc done (t ∷ []) coming)) k))

-- ---- the whole timetable

-- which version is written: 2 where no unit has come
abbrev version : Bool → ℕ
version to_come = if to_come then 2 else 3

abbrev head_row : Bool → List (List ℕ)
head_row to_come = codes "timetable" ∷ (if to_come then codes "2" else codes "3") ∷ []

at_least_two : (b : Bool) → nat_le 2 (version b) ≡ true
at_least_two true = refl
at_least_two false = refl

first_again : (b : Bool) → answer 1 (first_of (head_row b)) ≡ Ok (listed (version b) [] [] false)
unfolding first_of decimal_of is_within
first_again true = refl
first_again false = refl

empty_of : {X : Type 0} (xs : List X) → nat_lt 0 (length xs) ≡ false → xs ≡ []
empty_of [] e = refl
empty_of (x ∷ xs) e = absurd (true≢false (sym (lt-ltb 0 (length (x ∷ xs)) (omega arith)) ∙ e))

-- where no unit has come, the trains are as their own records state them
none_there : (station : Station) (ts : List Train) → list_any (λ t. nat_lt 0 (length t.placed)) ts ≡ false → (map bare ts ≡ ts) × (flat_map (placed_rows station) ts ≡ [])
none_there station [] e = (refl, refl)
none_there station (t ∷ ts) e =
    let p = or_parts _ _ e in
    let none = empty_of t.placed p.0 in
    let more = none_there station ts p.1 in (
      ap (λ u. u ∷ map bare ts) (bare_is t none) ∙ ap (λ l. t ∷ l) more.0,
      flat_map-cons (placed_rows station) t ts ∙ ap (λ r. map (placed_row station t) r ++ flat_map (placed_rows station) ts) none ∙ more.1,
    )

last_section : (station : Station) (arrive depart : List Train) (m b : Bool) → IsStation station → AreTrains station arrive → all_to_come arrive ≡ b → (n : ℕ)
    → reads (timetable_format station) (listed (version b) (map bare arrive) depart m) n (flat_map (placed_rows station) arrive) ≡ Ok (listed (version b) arrive depart m)
last_section station arrive depart m true s f e n =
    let none = none_there station arrive (not-true _ e) in
    ap (reads (timetable_format station) (listed 2 (map bare arrive) depart m) n) none.1 ∙ ap (λ l. Ok (listed 2 l depart m)) none.0
last_section station arrive depart m false s f e n = runs_again station depart m arrive s f [] arrive refl n

-- what is true of each that passes a test is true of those that are kept
kept_all : {X : Type 0} (p : X → Bool) (P : X → Type 0) (xs : List X) → All (λ x. p x ≡ true → P x) xs → All P (filter p xs)
kept_all p P [] h = λ k d lt. absurd (omega arith)
kept_all p P (x ∷ xs) h = by (p x) refl (kept_all p P xs (All-tail (λ x. p x ≡ true → P x) x xs h))
  where
    by : (b : Bool) → p x ≡ b → All P (filter p xs) → All P (filter p (x ∷ xs))
    by true is rest = subst (λ b. All P (cond b (x ∷ filter p xs) (filter p xs))) (sym is) (All-cons P x (filter p xs) (h 0 x (omega arith) is) rest)
    by false is rest = subst (λ b. All P (cond b (x ∷ filter p xs) (filter p xs))) (sym is) rest

pub timetable_again : (station : Station) (t : Timetable) → IsStation station → IsTimetable station t → reading (timetable_format station) (rows_of station t) ≡ Ok t
timetable_again station t s h =
    let f = timetable_format station in
    let to_come = all_to_come t.arrive in
    let v = version to_come in
    let stand = filter is_standing t.arrive in
    let come = filter (λ r. not (is_standing r)) t.arrive in
    let a = map (standing_row station) stand in
    let b = map (moving_row station (codes "arrive")) come in
    let c = map (moving_row station (codes "depart")) t.depart in
    let d = flat_map (placed_rows station) t.arrive in
    let all = subst (AreTrains station) h.first h.arrive in
    let stands = kept_all is_standing (λ r. is_standing r ≡ true) t.arrive (λ k d lt is. is) in
    let start = kept_all is_standing (λ r. r.minute ≡ 0) t.arrive h.at_start in
    let moves = kept_all (λ r. not (is_standing r)) (λ r. is_standing r ≡ false) t.arrive (λ k d lt is. not-true _ is) in
    let m = moves_after false come in
    let end = listed v t.arrive t.depart (moves_after m t.depart) in
    let last = λ (j : ℕ). subst (λ l. reads f (listed v (map bare l) t.depart (moves_after m t.depart)) j d ≡ Ok end) h.first
    (last_section station t.arrive t.depart (moves_after m t.depart) to_come s h.arrive refl j) in
    ap (λ l. reading f (head_row to_come ∷ l)) (append_assoc (a ++ b) c d ∙ append_assoc a b (c ++ d))
    ∙ all_read f (head_row to_come) (a ++ (b ++ (c ++ d))) (listed v [] [] false) end (first_again to_come)
    (section_then f (standing_row station) (λ l. listed v (map bare l) [] false) stand end _ (stand_next station v stand come (at_least_two to_come) s all stands start)
    (λ n. subst (λ l. reads f (listed v (map bare l) [] false) n (b ++ (c ++ d)) ≡ Ok end) (append-nil stand)
    (section_then f (moving_row station (codes "arrive")) (λ l. listed v (map bare (stand ++ l)) [] (moves_after false l)) come end _ (arrive_next station v stand come s all moves)
    (λ k. section_then f (moving_row station (codes "depart")) (λ l. listed v (map bare (stand ++ come)) l (moves_after m l)) t.depart end _
    (depart_next station v (map bare (stand ++ come)) t.depart m s h.depart h.from_platform h.to_come) last k) n)) 2)
    refl
