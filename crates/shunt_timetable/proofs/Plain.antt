-- The rows of a timetable are plain, and their text.
use Rattle.std.proofs.Common.{◌≡◌, ℕ, ◌<◌, Bool, true, false, not, List, [], ◌∷◌, ◌++◌, length, map, filter, refl, sym, ap, subst, ◌∙◌, arith}
use Rattle.std.specs.Prelude.{All, IfSome, Option, Some, None, slice_index_or, flat_map, if◌then◌else◌, codes, Ok}
use Rattle.std.specs.List.{AllByRecursion}
use Rattle.std.proofs.lemmas.List.{append-nil, append_assoc}
use Rattle.std.proofs.lemmas.List.Concat.{flat_map-cons}
use Rattle.std.proofs.lemmas.List.Elements.{All-tail, All-filter}
use Rattle.shunt_base.proofs.Names.{name_from}
use Rattle.shunt_base.specs.declared.ids.TypeId.{TypeId}
use Rattle.shunt_base.specs.defs.Spelling.{IsName}
use Rattle.shunt_rows.specs.defs.Records.{IsPlainField, IsPlainRow, ArePlain, text_of_row, text_of_rows, records_of, ReadsBack}
use Rattle.shunt_rows.specs.defs.Formats.{reading}
use Rattle.shunt_rows.specs.defs.Written.{Written}
use Rattle.shunt_rows.proofs.Named.{name_at}
use Rattle.shunt_rows.proofs.Plain.{plain_name, plain_number, plain_side, plain_minute, plain_map, plain_more}
use Rattle.shunt_rows.proofs.Texts.{row_written, rows_written}
use Rattle.shunt_instance.specs.declared.records.Station.{Station}
use Rattle.shunt_instance.specs.declared.records.PlacedRun.{PlacedRun}
use Rattle.shunt_instance.specs.declared.records.TrackEnd.{TrackEnd}
use Rattle.shunt_instance.specs.declared.records.Train.{Train}
use Rattle.shunt_instance.specs.declared.records.Timetable.{Timetable}
use Rattle.shunt_instance.specs.declared.records.Origin.{Origin}
use Rattle.shunt_instance.specs.declared.records.Origin.TheVariants as origin
use Rattle.shunt_instance.specs.defs.Words.{is_standing}
use Rattle.shunt_instance.specs.defs.Wellformed.{IsOrigin, IsPlacedRun, IsStation, IsTrain, IsTimetable}
use Rattle.shunt_timetable.specs.defs.TimetableFormat.{timetable_format}
use Rattle.shunt_timetable.specs.defs.WrittenRows.{type_names, place_name, standing_row, moving_row, end_fields, placed_row, placed_rows, all_to_come, first_row, rows_of}
use Rattle.shunt_timetable.proofs.PlacedRuns.{filter_whole}
use Rattle.shunt_timetable.proofs.RoundTrip.{timetable_again}

pub place_is_name : (station : Station) (o : Origin) → IsStation station → IsOrigin station o → IsName (place_name station o)
place_is_name station (origin.Platform p) s lt = s.platforms p.0 [] lt
place_is_name station (origin.Track k) s lt = name_at (λ t. t.name) station.tracks k.0 (λ i d l. (s.tracks i d l).name) lt

-- the names of the types of a train's units
abbrev pub unit_names : Station → List TypeId → List (List ℕ)
unit_names station units = map (λ k. slice_index_or (type_names station) k.0 []) units

pub units_named : (station : Station) (units : List TypeId) → IsStation station → All (λ k. k.0 < length station.types) units → AllByRecursion IsName (unit_names station units)
units_named station [] s h = tt
units_named station (k ∷ units) s h = (
  name_at (λ t. t.name) station.types k.0 (λ i d l. (s.types i d l).name) (h 0 k (omega arith)),
  units_named station units s (All-tail (λ k. k.0 < length station.types) k units h),
)

names_plain : (names : List (List ℕ)) → AllByRecursion IsName names → AllByRecursion IsPlainField names
names_plain [] h = tt
names_plain (name ∷ names) h = (plain_name name h.0, names_plain names h.1)

pub moving_plain : (station : Station) (word : List ℕ) → IsStation station → IsName word → (t : Train) → IsTrain station t → IsPlainRow (moving_row station word t)
moving_plain station word s w t h = (
  omega arith,
  (
    plain_name word w,
    (
      plain_name t.name h.name,
      (plain_minute t.minute h.minute, (plain_name (place_name station t.origin) (place_is_name station t.origin s h.origin), names_plain (unit_names station t.units) (units_named station t.units s h.kinds))),
    ),
  ),
)

pub standing_plain : (station : Station) → IsStation station → (t : Train) → IsTrain station t → IsPlainRow (standing_row station t)
standing_plain station s t h = (
  omega arith,
  (
    plain_name (codes "stand") (name_from (codes "stand") refl),
    (plain_name t.name h.name, (plain_name (place_name station t.origin) (place_is_name station t.origin s h.origin), names_plain (unit_names station t.units) (units_named station t.units s h.kinds))),
  ),
)

end_plain : (station : Station) (end : Option TrackEnd) → IsStation station → IfSome end (λ e. e.track.0 < length station.tracks)
    → AllByRecursion IsPlainField (end_fields station end)
end_plain station None s lt = (plain_name (codes "unparked") (name_from (codes "unparked") refl), tt)
end_plain station (Some e) s lt = (
  plain_name (codes "park") (name_from (codes "park") refl),
  (plain_name _ (name_at (λ t. t.name) station.tracks e.track.0 (λ i d l. (s.tracks i d l).name) lt), (plain_side e.side, tt)),
)

pub placed_plain : (station : Station) (t : Train) → IsStation station → IsTrain station t → (r : PlacedRun) → IsPlacedRun station t r → IsPlainRow (placed_row station t r)
placed_plain station t s h r p =
    let some = p.some in
    let fits = p.within in
    let few = h.few in (
      omega arith,
      (
        plain_name (codes "placed") (name_from (codes "placed") refl),
        (plain_name t.name h.name, (plain_number r.first (omega (arith, fits, few)), (plain_number r.count (omega (arith, fits, few)), end_plain station r.came_by s p.track))),
      ),
    )

runs_plain : (station : Station) (ts : List Train) → IsStation station → All (IsTrain station) ts → ArePlain (flat_map (placed_rows station) ts)
runs_plain station [] s h = tt
runs_plain station (t ∷ ts) s h =
    let one = h 0 t (omega arith) in
    let runs = plain_map (IsPlacedRun station t) (placed_row station t) t.placed (placed_plain station t s one) one.placed.each in
    subst ArePlain (sym (flat_map-cons (placed_rows station) t ts)) (plain_more (placed_rows station t) (flat_map (placed_rows station) ts) runs
    (runs_plain station ts s (All-tail (IsTrain station) t ts h)))

pub head_plain : (to_come : Bool) → IsPlainRow (codes "timetable" ∷ (if to_come then codes "2" else codes "3") ∷ [])
head_plain true = (omega arith, (plain_name (codes "timetable") (name_from (codes "timetable") refl), (plain_name (codes "2") (name_from (codes "2") refl), tt)))
head_plain false = (omega arith, (plain_name (codes "timetable") (name_from (codes "timetable") refl), (plain_name (codes "3") (name_from (codes "3") refl), tt)))

timetable_plain : (station : Station) (t : Timetable) → IsStation station → IsTimetable station t → ArePlain (rows_of station t)
timetable_plain station t s h =
    let a = plain_map (IsTrain station) (standing_row station) (filter is_standing t.arrive) (standing_plain station s)
    (All-filter is_standing (IsTrain station) t.arrive h.arrive.each) in
    let b = plain_map (IsTrain station) (moving_row station (codes "arrive")) (filter (λ r. not (is_standing r)) t.arrive)
    (moving_plain station (codes "arrive") s (name_from (codes "arrive") refl)) (All-filter (λ r. not (is_standing r)) (IsTrain station) t.arrive h.arrive.each) in
    let c = plain_map (IsTrain station) (moving_row station (codes "depart")) t.depart (moving_plain station (codes "depart") s (name_from (codes "depart") refl)) h.depart.each in
    let d = runs_plain station t.arrive s h.arrive.each in
    (head_plain (all_to_come t.arrive), plain_more _ _ (plain_more _ _ (plain_more _ _ a b) c) d)

abbrev wrote : List ℕ → Written
wrote text = record { text = text; row = [] }

-- all records of a timetable, one section after the other
pub timetable_written : (station : Station) (t : Timetable) (x y z v : List Train) (w a b c d e : Written) → IsTimetable station t → x ≡ t.arrive → y ≡ t.arrive → z ≡ t.depart
    → v ≡ t.arrive
    → w ≡ record { text = []; row = [] }
    → a ≡ record { text = w.text ++ text_of_row (first_row t); row = [] }
    → b ≡ record { text = a.text ++ text_of_rows (map (standing_row station) (filter is_standing x)); row = [] }
    → c ≡ record { text = b.text ++ text_of_rows (map (moving_row station (codes "arrive")) (filter (λ r. not (is_standing r)) y)); row = [] }
    → d ≡ record { text = c.text ++ text_of_rows (map (moving_row station (codes "depart")) (filter (λ r. not (is_standing r)) z)); row = [] }
    → e ≡ record { text = d.text ++ text_of_rows (flat_map (placed_rows station) v); row = [] }
    → e.text ≡ text_of_rows (rows_of station t)
timetable_written station t x y z v w a b c d e h hx hy hz hv h0 h1 h2 h3 h4 h5 =
    let moves = λ (r : Train). not (is_standing r) in
    let head = first_row t in
    let stand = map (standing_row station) (filter is_standing t.arrive) in
    let come = map (moving_row station (codes "arrive")) (filter moves t.arrive) in
    let go = map (moving_row station (codes "depart")) t.depart in
    let runs = flat_map (placed_rows station) t.arrive in
    let all = text_of_rows (head ∷ (stand ++ (come ++ (go ++ (runs ++ []))))) in
    let i2 = h2 ∙ ap (λ l. wrote (a.text ++ text_of_rows (map (standing_row station) (filter is_standing l)))) hx in
    let i3 = h3 ∙ ap (λ l. wrote (b.text ++ text_of_rows (map (moving_row station (codes "arrive")) (filter moves l)))) hy in
    let i4 = h4 ∙ ap (λ l. wrote (c.text ++ text_of_rows (map (moving_row station (codes "depart")) l)))
    (ap (filter moves) hz ∙ filter_whole moves t.depart (λ k e lt. ap not (h.from_platform k e lt))) in
    let i5 = h5 ∙ ap (λ l. wrote (d.text ++ text_of_rows (flat_map (placed_rows station) l))) hv in
    sym (append-nil e.text)
    ∙ rows_written d e runs [] all i5 (rows_written c d go (runs ++ []) all i4 (rows_written b c come (go ++ (runs ++ [])) all i3
    (rows_written a b stand (come ++ (go ++ (runs ++ []))) all i2 (row_written w a head (stand ++ (come ++ (go ++ (runs ++ [])))) all h1
    (ap (λ (v : Written). v.text ++ all) h0)))))
    ∙ ap (λ l. text_of_rows (head ∷ (stand ++ (come ++ (go ++ l))))) (append-nil runs)
    ∙ ap (λ l. text_of_rows (head ∷ l)) (sym (append_assoc (stand ++ come) go runs ∙ append_assoc stand come (go ++ runs)))

pub rows_read : (station : Station) (t : Timetable) (text bytes : List ℕ) → IsStation station → IsTimetable station t → text ≡ text_of_rows (rows_of station t)
    → ReadsBack text bytes → records_of bytes ≡ rows_of station t
rows_read station t text bytes s h is back = back (rows_of station t) (timetable_plain station t s h) is

pub timetable_read : (station : Station) (t : Timetable) (text bytes : List ℕ) → IsStation station → IsTimetable station t → text ≡ text_of_rows (rows_of station t)
    → ReadsBack text bytes → reading (timetable_format station) (records_of bytes) ≡ Ok t
timetable_read station t text bytes s h is back = ap (reading (timetable_format station)) (rows_read station t text bytes s h is back) ∙ timetable_again station t s h
