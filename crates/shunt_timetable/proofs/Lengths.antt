-- How long the text of a timetable is.
use Rattle.std.proofs.Common.{◌≡◌, ℕ, ◌+◌, ◌*◌, ◌<◌, ◌≤◌, Bool, true, false, not, List, [], ◌∷◌, ◌++◌, length, length-append, map, filter, refl, ap, ◌∙◌, arith}
use Rattle.std.specs.Prelude.{All, AllPairs, IfSome, Option, Some, None, codes, flat_map, if◌then◌else◌, slice_index_or}
use Rattle.std.proofs.lemmas.Fmt.{length-decimal-le}
use Rattle.std.proofs.lemmas.List.Concat.{flat_map-cons}
use Rattle.std.proofs.lemmas.List.Elements.{All-tail, All-filter, All-weaker}
use Rattle.std.proofs.lemmas.List.Sums.{sum_by-append, sum_by-cons}
use Rattle.std.specs.List.{AllByRecursion}
use Rattle.std.proofs.lemmas.List.{length-map}
use Rattle.shunt_base.proofs.Names.{name_from}
use Rattle.shunt_base.specs.declared.ids.TypeId.{TypeId}
use Rattle.shunt_base.specs.defs.Spelling.{IsName}
use Rattle.shunt_rows.specs.defs.Records.{text_of_row, text_of_rows, width}
use Rattle.shunt_rows.proofs.Widths.{row_width, rows_width}
use Rattle.shunt_instance.specs.declared.records.Station.{Station}
use Rattle.shunt_instance.specs.declared.records.PlacedRun.{PlacedRun}
use Rattle.shunt_instance.specs.declared.records.TrackEnd.{TrackEnd}
use Rattle.shunt_instance.specs.declared.records.Train.{Train}
use Rattle.shunt_instance.specs.declared.records.Timetable.{Timetable}
use Rattle.shunt_instance.specs.defs.Words.{is_standing, unit_count}
use Rattle.shunt_instance.specs.defs.Wellformed.{IsPlacedRun, IsStation, IsTrain, IsTimetable}
use Rattle.shunt_timetable.specs.defs.WrittenRows.{type_names, standing_row, moving_row, end_fields, placed_row, placed_rows, all_to_come, first_row, rows_of}
use Rattle.shunt_instance.proofs.Placed.{Before}
use Rattle.shunt_timetable.proofs.PlacedRuns.{heads_apart, rest_apart}
use Rattle.shunt_timetable.proofs.Plain.{place_is_name, moving_plain, standing_plain, placed_plain, head_plain, unit_names, units_named}
use Rattle.shunt_rows.proofs.Named.{name_at}
use Rattle.shunt_rows.proofs.Plain.{side_short}
use Rattle.shunt_rows.proofs.Texts.{texts_join}

names_wide : (names : List (List ℕ)) → AllByRecursion IsName names → width names ≤ 17 * length names
names_wide [] h = omega arith
names_wide (name ∷ names) h = let first = h.0 in let more = names_wide names h.1 in omega (arith, more, first.1)

moving_wide : (station : Station) (word : List ℕ) → IsStation station → IsName word → length word ≤ 6 → (t : Train) → IsTrain station t
    → length (text_of_row (moving_row station word t)) ≤ 47 + 17 * length t.units
moving_wide station word s w short t h =
    let row = row_width (moving_row station word t) (moving_plain station word s w t h) in
    let units = names_wide (unit_names station t.units) (units_named station t.units s h.kinds) in
    let name = h.name.1 in
    let place = (place_is_name station t.origin s h.origin).1 in
    omega (arith, row, units, length-map t.units (λ (k : TypeId). slice_index_or (type_names station) k.0 []), name, place, short)

standing_wide : (station : Station) → IsStation station → (t : Train) → IsTrain station t → length (text_of_row (standing_row station t)) ≤ 47 + 17 * length t.units
standing_wide station s t h =
    let row = row_width (standing_row station t) (standing_plain station s t h) in
    let units = names_wide (unit_names station t.units) (units_named station t.units s h.kinds) in
    let name = h.name.1 in
    let place = (place_is_name station t.origin s h.origin).1 in
    omega (arith, row, units, length-map t.units (λ (k : TypeId). slice_index_or (type_names station) k.0 []), name, place)

rows_wide : (station : Station) (row : Train → List (List ℕ)) (ts : List Train) → ((t : Train) → IsTrain station t → length (text_of_row (row t)) ≤ 47 + 17 * length t.units)
    → All (IsTrain station) ts
    → length (text_of_rows (map row ts)) ≤ 47 * length ts + 17 * unit_count ts
rows_wide station row [] f h = omega arith
rows_wide station row (t ∷ ts) f h =
    let one = f t (h 0 t (omega arith)) in
    let more = rows_wide station row ts f (All-tail (IsTrain station) t ts h) in
    omega (
      arith,
      one,
      more,
      ap length (flat_map-cons text_of_row (row t) (map row ts)),
      length-append (text_of_row (row t)) (text_of_rows (map row ts)),
      sum_by-cons (λ u. length u.units) t ts,
    )

end_wide : (station : Station) (end : Option TrackEnd) → IsStation station → IfSome end (λ e. e.track.0 < length station.tracks) → width (end_fields station end) ≤ 24
end_wide station None s lt = omega arith
end_wide station (Some e) s lt =
    let name = name_at (λ t. t.name) station.tracks e.track.0 (λ i d l. (s.tracks i d l).name) lt in
    omega (arith, name.1, side_short e.side)

placed_wide : (station : Station) (t : Train) → IsStation station → IsTrain station t → (r : PlacedRun) → IsPlacedRun station t r
    → length (text_of_row (placed_row station t r)) ≤ 52
placed_wide station t s h r p =
    let row = row_width (placed_row station t r) (placed_plain station t s h r p) in
    let name = h.name.1 in
    let fits = p.within in
    let first = p.first in
    let some = p.some in
    let few = h.few in
    let a = length-decimal-le 1 r.first (omega arith) (omega (arith, fits, some, few)) (omega (arith, fits, some, few)) in
    let b = length-decimal-le 1 r.count (omega arith) (omega (arith, fits, first, few)) (omega (arith, fits, first, few)) in
    omega (arith, row, name, a, b, end_wide station r.came_by s p.track)

-- runs apart from each other are no more than the places that they have
pub few_runs : (runs : List PlacedRun) (from past : ℕ) → from ≤ past → All (λ r. 1 ≤ r.count) runs → All (λ r. r.first + r.count ≤ past) runs → All (λ r. from ≤ r.first) runs
    → AllPairs Before runs → length runs + from ≤ past
few_runs [] from past le some within later apart = omega (arith, le)
few_runs (r ∷ runs) from past le some within later apart =
    let count : 1 ≤ r.count = some 0 r (omega arith) in
    let fits : r.first + r.count ≤ past = within 0 r (omega arith) in
    let start : from ≤ r.first = later 0 r (omega arith) in
    let more = few_runs runs (r.first + r.count) past fits (All-tail (λ r. 1 ≤ r.count) r runs some) (All-tail (λ r. r.first + r.count ≤ past) r runs within)
    (heads_apart r runs apart) (rest_apart r runs apart) in
    omega (arith, count, start, more)

runs_wide : (station : Station) (t : Train) → IsStation station → IsTrain station t → length (text_of_rows (placed_rows station t)) ≤ 52 * length t.units
runs_wide station t s h =
    let p = h.placed in
    let weaker = λ (Q : PlacedRun → Type 0) (q : (r : PlacedRun) → IsPlacedRun station t r → Q r). All-weaker (IsPlacedRun station t) Q q t.placed p.each in
    let few = few_runs t.placed 1 (length t.units + 1) (omega arith) (weaker (λ r. 1 ≤ r.count) (λ r q. q.some))
    (weaker (λ r. r.first + r.count ≤ length t.units + 1) (λ r q. q.within)) (weaker (λ r. 1 ≤ r.first) (λ r q. q.first)) p.apart in
    let wide = rows_width (IsPlacedRun station t) (placed_row station t) 52 t.placed (placed_wide station t s h) p.each in
    omega (arith, few, wide)

all_runs_wide : (station : Station) (ts : List Train) → IsStation station → All (IsTrain station) ts
    → length (text_of_rows (flat_map (placed_rows station) ts)) ≤ 52 * unit_count ts
all_runs_wide station [] s h = omega arith
all_runs_wide station (t ∷ ts) s h =
    let one = runs_wide station t s (h 0 t (omega arith)) in
    let more = all_runs_wide station ts s (All-tail (IsTrain station) t ts h) in
    let rest = flat_map (placed_rows station) ts in
    omega (
      arith,
      one,
      more,
      ap (λ l. length (text_of_rows l)) (flat_map-cons (placed_rows station) t ts),
      ap length (texts_join (placed_rows station t) rest),
      length-append (text_of_rows (placed_rows station t)) (text_of_rows rest),
      sum_by-cons (λ u. length u.units) t ts,
    )

first_wide : (to_come : Bool) → length (text_of_row (codes "timetable" ∷ (if to_come then codes "2" else codes "3") ∷ [])) ≡ 12
first_wide true = row_width (codes "timetable" ∷ codes "2" ∷ []) (head_plain true)
first_wide false = row_width (codes "timetable" ∷ codes "3" ∷ []) (head_plain false)

pub timetable_wide : (station : Station) (t : Timetable) → IsStation station → IsTimetable station t → length (text_of_rows (rows_of station t)) ≤ 23172
timetable_wide station t s h =
    let stand = filter is_standing t.arrive in
    let come = filter (λ r. not (is_standing r)) t.arrive in
    let a = map (standing_row station) stand in
    let b = map (moving_row station (codes "arrive")) come in
    let c = map (moving_row station (codes "depart")) t.depart in
    let one = rows_wide station (standing_row station) stand (standing_wide station s) (All-filter is_standing (IsTrain station) t.arrive h.arrive.each) in
    let two = rows_wide station (moving_row station (codes "arrive")) come (moving_wide station (codes "arrive") s (name_from (codes "arrive") refl) (omega arith))
    (All-filter (λ r. not (is_standing r)) (IsTrain station) t.arrive h.arrive.each) in
    let three = rows_wide station (moving_row station (codes "depart")) t.depart (moving_wide station (codes "depart") s (name_from (codes "depart") refl) (omega arith))
    h.depart.each in
    let four = all_runs_wide station t.arrive s h.arrive.each in
    let d = flat_map (placed_rows station) t.arrive in
    let head = first_row t in
    let many : length t.arrive ≡ length stand + length come = ap length h.first ∙ length-append stand come in
    let units : unit_count t.arrive ≡ unit_count stand + unit_count come = ap unit_count h.first ∙ sum_by-append (λ u. length u.units) stand come in
    let few = h.arrive.few in
    let small = h.arrive.units in
    let few_go = h.depart.few in
    let small_go = h.depart.units in
    omega (
      arith,
      one,
      two,
      three,
      four,
      many,
      units,
      few,
      small,
      few_go,
      small_go,
      first_wide (all_to_come t.arrive),
      ap length (texts_join (head ∷ ((a ++ b) ++ c)) d),
      length-append (text_of_rows (head ∷ ((a ++ b) ++ c))) (text_of_rows d),
      ap length (texts_join (head ∷ (a ++ b)) c),
      length-append (text_of_rows (head ∷ (a ++ b))) (text_of_rows c),
      ap length (texts_join (head ∷ a) b),
      length-append (text_of_rows (head ∷ a)) (text_of_rows b),
      ap length (flat_map-cons text_of_row head a),
      length-append (text_of_row head) (text_of_rows a),
    )

pub text_wide : (station : Station) (t : Timetable) (text : List ℕ) → IsStation station → IsTimetable station t → text ≡ text_of_rows (rows_of station t) → length text ≤ 23172
text_wide station t text s h is = omega (arith, ap length is, timetable_wide station t s h)
