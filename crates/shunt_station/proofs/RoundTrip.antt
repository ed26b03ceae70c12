-- A station's records state that station.
use Rattle.std.proofs.Common.{◌≡◌, ℕ, ◌<◌, Bool, true, false, not, ◌||◌, ◌&&◌, List, [], ◌∷◌, ◌++◌, length, map, refl, sym, ap, subst, ◌∙◌, arith}
use Rattle.std.specs.Prelude.{Ok, bytes_eq, ◌==◌, Some, option_map, slice_get}
use Rattle.std.specs.List.{list_any}
use Rattle.std.specs.Option.{is_some, unwrap_or}
use Rattle.std.specs.Fmt.{decimal}
use Rattle.std.proofs.lemmas.List.{map-id, length-map}
use Rattle.std.proofs.lemmas.Bool.{true≢false, and_parts, eqb-true}
use Rattle.std.proofs.lemmas.Option.{slice_get-get_or}
use Rattle.shunt_base.proofs.Sides.{same_side_tells}
use Rattle.shunt_base.specs.defs.Sides.{same_side}
use Rattle.shunt_lists.specs.defs.Members.{AreDistinct}
use Rattle.shunt_base.proofs.Names.{name_read}
use Rattle.shunt_base.specs.declared.ids.PlatformId.{PlatformId}
use Rattle.shunt_base.specs.declared.ids.TrackId.{TrackId}
use Rattle.shunt_base.specs.declared.ids.TypeId.{TypeId}
use Rattle.shunt_base.specs.declared.ids.Side.{Side}
use Rattle.shunt_base.specs.declared.ids.Side.TheVariants.{A}
use Rattle.shunt_base.specs.defs.Spelling.{IsName, decimal_of}
use Rattle.shunt_rows.specs.defs.Checks.{answer}
use Rattle.shunt_rows.specs.defs.Fields.{is_within, side_of}
use Rattle.shunt_rows.specs.defs.Formats.{reading}
use Rattle.shunt_rows.specs.defs.Records.{records_of, text_of_rows, ReadsBack}
use Rattle.shunt_rows.specs.defs.Written.{side_text}
use Rattle.shunt_rows.proofs.Again.{again}
use Rattle.shunt_rows.proofs.Answered.{holding}
use Rattle.shunt_rows.proofs.Named.{by_name, not_before, of_middle, fewer}
use Rattle.shunt_rows.proofs.Plain.{side_read}
use Rattle.shunt_rows.proofs.Sections.{section_then, one_reads, all_read}
use Rattle.shunt_rows.proofs.Spelled.{number_read}
use Rattle.shunt_instance.specs.declared.records.UnitType.{UnitType}
use Rattle.shunt_instance.specs.declared.records.Track.{Track}
use Rattle.shunt_instance.specs.declared.records.Route.{Route}
use Rattle.shunt_instance.specs.declared.records.Permit.{Permit}
use Rattle.shunt_instance.specs.declared.records.Station.{Station}
use Rattle.shunt_instance.specs.defs.Words.{is_open_at, joins, way_of, track_of_name}
use Rattle.shunt_instance.specs.defs.Wellformed.{IsUnitType, IsTrack, IsRoute, IsPermit, IsStation}
use Rattle.shunt_instance.proofs.Found.{found_there}
use Rattle.shunt_station.specs.defs.StatedStations.{StationDraft, OpenSides, empty_station, first_of, type_of_name, platform_of_name, open_sides_of, type_of, platform_of, track_of, stands, route_of, permit_of, cost_of, later_of, station_format}
use Rattle.shunt_station.specs.defs.WrittenRows.{type_name, platform_name, track_name, ends_text, head_row, type_row, platform_row, track_row, route_row, permit_row, cost_row, rows_of, ReadsAsStation}
use Rattle.shunt_station.proofs.Plain.{station_plain}
use Rattle.shunt_station.proofs.Ids.{platform_id, track_id, type_id, way_from, permit_from}

-- the parts of a station that were read
abbrev partial : Station → List UnitType → List (List ℕ) → List Track → List Route → List Permit → StationDraft
partial s ts ps ks rs qs = record {
  version = 2;
  station = record {
    name = s.name;
    types = ts;
    platforms = ps;
    tracks = ks;
    routes = rs;
    permits = qs;
    split = 0;
    couple = 0;
    unparked = 0;
  };
  is_costed = false;
}

abbrev type_from : List ℕ → ℕ → ℕ → UnitType
type_from name size turn = record { name = name; length = size; turn = turn }

type_read : (s : Station) → IsStation s → (n : ℕ) (xs : List UnitType) (y : UnitType) (zs : List UnitType) → s.types ≡ xs ++ y ∷ zs
    → answer n (later_of (partial s xs [] [] [] []) (type_row y)) ≡ Ok (partial s (xs ++ y ∷ []) [] [] [] [])
unfolding later_of type_of is_within
type_read s f n xs y zs e =
    let is = of_middle IsUnitType s.types xs zs y f.types e in
    let size = number_read 1 5000 y.length is.some is.long (omega arith) in
    let turn = number_read 1 1440 y.turn is.turns is.turn (omega arith) in
    let new = not_before (λ t. t.name) (λ t. bytes_eq t.name y.name) xs zs y (λ t. by_name y.name t.name)
    (subst (λ (l : List UnitType). AreDistinct (map (λ t. t.name) l)) e f.type_names) in
    let m = type_of (partial s xs [] [] [] []) (type_row y) in
    let same = ap (λ a. type_from y.name a (unwrap_or (decimal_of (decimal y.turn)) 0)) size.value ∙ ap (λ b. type_from y.name y.length b) turn.value in
    holding n m.checks m.value (
      refl,
      (
        fewer s.types xs zs y 40 f.few_types e,
        (
          name_read y.name is.name,
          (ap not new, (size.there, (size.range, (turn.there, (turn.range, tt))))),
        ),
      ),
    )
    ∙ ap (λ (t : UnitType). Ok (partial s (xs ++ t ∷ []) [] [] [] [])) same

platform_read : (s : Station) → IsStation s → (n : ℕ) (xs : List (List ℕ)) (y : List ℕ) (zs : List (List ℕ)) → s.platforms ≡ xs ++ y ∷ zs
    → answer n (later_of (partial s s.types xs [] [] []) (platform_row y)) ≡ Ok (partial s s.types (xs ++ y ∷ []) [] [] [])
unfolding later_of platform_of is_within
platform_read s f n xs y zs e =
    let is = of_middle IsName s.platforms xs zs y f.platforms e in
    let apart : AreDistinct (map (λ p. p) (xs ++ y ∷ zs)) = subst AreDistinct (e ∙ sym (map-id (xs ++ y ∷ zs))) f.platform_names in
    let new = not_before (λ p. p) (λ p. bytes_eq p y) xs zs y (λ p. by_name y p) apart in
    let m = platform_of (partial s s.types xs [] [] []) (platform_row y) in
    holding n m.checks m.value (refl, (fewer s.platforms xs zs y 30 f.few_platforms e, (name_read y is, (ap not new, tt))))

-- what is open at a side is read from its letters
ends_read : (a b : Bool) → (a || b) ≡ true → open_sides_of (ends_text a b) ≡ Some (record { side_a = a; side_b = b })
unfolding open_sides_of
ends_read true true e = refl
ends_read true false e = refl
ends_read false true e = refl
ends_read false false e = absurd (true≢false (sym e))

abbrev track_from : List ℕ → ℕ → OpenSides → Track
track_from name size sides = record { name = name; length = size; side_a = sides.side_a; side_b = sides.side_b }

abbrev both_ends : OpenSides
both_ends = record { side_a = true; side_b = true }

track_read : (s : Station) → IsStation s → (n : ℕ) (xs : List Track) (y : Track) (zs : List Track) → s.tracks ≡ xs ++ y ∷ zs
    → answer n (later_of (partial s s.types s.platforms xs [] []) (track_row y)) ≡ Ok (partial s s.types s.platforms (xs ++ y ∷ []) [] [])
unfolding later_of track_of is_within
track_read s f n xs y zs e =
    let is = of_middle IsTrack s.tracks xs zs y f.tracks e in
    let size = number_read 1 50000 y.length is.some is.long (omega arith) in
    let sides = ends_read y.side_a y.side_b is.open_at in
    let new = not_before (λ t. t.name) (λ t. bytes_eq t.name y.name) xs zs y (λ t. by_name y.name t.name)
    (subst (λ (l : List Track). AreDistinct (map (λ t. t.name) l)) e f.track_names) in
    let m = track_of (partial s s.types s.platforms xs [] []) (track_row y) in
    let same = ap (λ a. track_from y.name a (unwrap_or (open_sides_of (ends_text y.side_a y.side_b)) both_ends)) size.value
    ∙ ap (λ o. track_from y.name y.length (unwrap_or o both_ends)) sides in
    holding n m.checks m.value (refl, (fewer s.tracks xs zs y 60 f.few_tracks e, (name_read y.name is.name, (ap not new, (size.there, (size.range, (ap is_some sides, tt)))))))
    ∙ ap (λ (t : Track). Ok (partial s s.types s.platforms (xs ++ t ∷ []) [] [])) same

joins_tells : (y r : Route) → joins y.platform y.track y.side r ≡ true → way_of r ≡ way_of y
joins_tells y r e =
    let c = and_parts _ (same_side r.side y.side) e in
    let d = and_parts (r.platform.0 == y.platform.0) _ c.0 in
    ap (λ k. way_from (platform_id k) r.track r.side) (eqb-true r.platform.0 y.platform.0 d.0)
    ∙ ap (λ k. way_from y.platform (track_id k) r.side) (eqb-true r.track.0 y.track.0 d.1)
    ∙ ap (λ q. way_from y.platform y.track q) (same_side_tells r.side y.side c.1)

names_tell : (y p : Permit) → (p.track.0 == y.track.0 && p.kind.0 == y.kind.0) ≡ true → p ≡ y
names_tell y p e =
    let c = and_parts _ _ e in
    ap (λ k. permit_from (track_id k) p.kind) (eqb-true p.track.0 y.track.0 c.0) ∙ ap (λ k. permit_from y.track (type_id k)) (eqb-true p.kind.0 y.kind.0 c.1)

name_of_type : UnitType → List ℕ
name_of_type t = t.name

platform_there : (s : Station) (ts : List UnitType) (ks : List Track) (rs : List Route) (qs : List Permit) (i : PlatformId) → IsStation s → i.0 < length s.platforms
    → platform_of_name (partial s ts s.platforms ks rs qs).station (platform_name s.platforms i) ≡ Some i
unfolding platform_of_name
platform_there s ts ks rs qs i f lt =
    ap (option_map platform_id) (found_there (λ (p : List ℕ). p) s.platforms (platform_name s.platforms i) i.0 [] (subst AreDistinct (sym (map-id s.platforms)) f.platform_names)
    (subst (λ (l : List (List ℕ)). slice_get l i.0 ≡ Some (platform_name s.platforms i)) (sym (map-id s.platforms)) (slice_get-get_or s.platforms i.0 [] lt)))

abbrev some_track : Track
some_track = record { name = []; length = 0; side_a = false; side_b = false }

track_there : (s : Station) (ts : List UnitType) (ps : List (List ℕ)) (rs : List Route) (qs : List Permit) (i : TrackId) → IsStation s → i.0 < length s.tracks
    → track_of_name (partial s ts ps s.tracks rs qs).station (track_name s.tracks i) ≡ Some i
track_there s ts ps rs qs i f lt =
    ap (option_map track_id) (found_there (λ (t : Track). t.name) s.tracks (track_name s.tracks i) i.0 some_track f.track_names
    (slice_get-get_or (map (λ (t : Track). t.name) s.tracks) i.0 [] (omega (arith, lt, length-map s.tracks (λ (t : Track). t.name)))))

abbrev some_type : UnitType
some_type = record { name = []; length = 0; turn = 0 }

type_there : (s : Station) (ps : List (List ℕ)) (ks : List Track) (rs : List Route) (qs : List Permit) (i : TypeId) → IsStation s → i.0 < length s.types
    → type_of_name (partial s s.types ps ks rs qs).station (type_name s.types i) ≡ Some i
unfolding type_of_name
type_there s ps ks rs qs i f lt =
    ap (option_map type_id) (found_there (λ (t : UnitType). t.name) s.types (type_name s.types i) i.0 some_type f.type_names
    (slice_get-get_or (map (λ (t : UnitType). t.name) s.types) i.0 [] (omega (arith, lt, length-map s.types (λ (t : UnitType). t.name)))))

abbrev route_from : PlatformId → TrackId → Side → ℕ → Route
route_from p t q c = record { platform = p; track = t; side = q; cost = c }

-- a test of three things that are read
three : {X : Type 0} (test : PlatformId → TrackId → Side → X) (p q : PlatformId) (t u : TrackId) (a b : Side) → p ≡ q → t ≡ u → a ≡ b → test p t a ≡ test q u b
three test p q t u a b e f g = ap (λ k. test k t a) e ∙ ap (λ k. test q k a) f ∙ ap (λ k. test q u k) g

route_read : (s : Station) → IsStation s → (n : ℕ) (xs : List Route) (y : Route) (zs : List Route) → s.routes ≡ xs ++ y ∷ zs
    → answer n (later_of (partial s s.types s.platforms s.tracks xs []) (route_row s y)) ≡ Ok (partial s s.types s.platforms s.tracks (xs ++ y ∷ []) [])
unfolding later_of route_of stands is_within
route_read s f n xs y zs e =
    let is = of_middle (IsRoute s) s.routes xs zs y f.routes e in
    let d = partial s s.types s.platforms s.tracks xs [] in
    let p = platform_there s s.types s.tracks xs [] y.platform f is.platform in
    let t = track_there s s.types s.platforms xs [] y.track f is.track in
    let q = side_read y.side in
    let pv = ap (λ o. unwrap_or o (platform_id 0)) p in
    let tv = ap (λ o. unwrap_or o (track_id 0)) t in
    let qv = ap (λ o. unwrap_or o A) q in
    let price = number_read 0 1000000 y.cost (omega arith) is.cost (omega arith) in
    let new = not_before way_of (joins y.platform y.track y.side) xs zs y (joins_tells y) (subst (λ (l : List Route). AreDistinct (map way_of l)) e f.ways) in
    let m = route_of d (route_row s y) in
    let repeats = three (λ a b c. not (list_any (joins a b c) xs)) _ y.platform _ y.track _ y.side pv tv qv ∙ ap not new in
    let shut = ap (λ k. is_open_at d.station k (unwrap_or (side_of (side_text y.side)) A)) tv ∙ ap (λ k. is_open_at d.station y.track k) qv ∙ is.open_at in
    let same = three (λ a b c. route_from a b c (unwrap_or (decimal_of (decimal y.cost)) 0)) _ y.platform _ y.track _ y.side pv tv qv
    ∙ ap (λ c. route_from y.platform y.track y.side c) price.value in
    holding n m.checks m.value (refl, (ap is_some p, (ap is_some t, (ap is_some q, (repeats, (shut, (price.there, (price.range, tt))))))))
    ∙ ap (λ (r : Route). Ok (partial s s.types s.platforms s.tracks (xs ++ r ∷ []) [])) same

permit_read : (s : Station) → IsStation s → (n : ℕ) (xs : List Permit) (y : Permit) (zs : List Permit) → s.permits ≡ xs ++ y ∷ zs
    → answer n (later_of (partial s s.types s.platforms s.tracks s.routes xs) (permit_row s y)) ≡ Ok (partial s s.types s.platforms s.tracks s.routes (xs ++ y ∷ []))
unfolding later_of permit_of is_within
permit_read s f n xs y zs e =
    let is = of_middle (IsPermit s) s.permits xs zs y f.permits e in
    let d = partial s s.types s.platforms s.tracks s.routes xs in
    let t = track_there s s.types s.platforms s.routes xs y.track f is.track in
    let k = type_there s s.platforms s.tracks s.routes xs y.kind f is.kind in
    let tv = ap (λ o. unwrap_or o (track_id 0)) t in
    let kv = ap (λ o. unwrap_or o (type_id 0)) k in
    let apart : AreDistinct (map (λ p. p) (xs ++ y ∷ zs)) = subst AreDistinct (e ∙ sym (map-id (xs ++ y ∷ zs))) f.permits_differ in
    let new = not_before (λ p. p) (λ p. p.track.0 == y.track.0 && p.kind.0 == y.kind.0) xs zs y (names_tell y) apart in
    let m = permit_of d (permit_row s y) in
    let read_kind = unwrap_or (type_of_name d.station (type_name s.types y.kind)) (type_id 0) in
    let repeats = ap (λ (a : TrackId). not (list_any (λ p. p.track.0 == a.0 && p.kind.0 == read_kind.0) xs)) tv
    ∙ ap (λ (a : TypeId). not (list_any (λ p. p.track.0 == y.track.0 && p.kind.0 == a.0) xs)) kv ∙ ap not new in
    let same = ap (λ a. permit_from a read_kind) tv ∙ ap (λ b. permit_from y.track b) kv in
    holding n m.checks m.value (refl, (ap is_some t, (ap is_some k, (repeats, tt))))
    ∙ ap (λ (p : Permit). Ok (partial s s.types s.platforms s.tracks s.routes (xs ++ p ∷ []))) same

abbrev whole : Station → ℕ → ℕ → ℕ → StationDraft
whole s a b c = record {
  version = 2;
  station = record {
    name = s.name;
    types = s.types;
    platforms = s.platforms;
    tracks = s.tracks;
    routes = s.routes;
    permits = s.permits;
    split =
        a;
    couple = b;
    unparked = c;
  };
  is_costed = true;
}

cost_read : (s : Station) → IsStation s → (n : ℕ) → answer n (later_of (partial s s.types s.platforms s.tracks s.routes s.permits) (cost_row s))
    ≡ Ok (whole s s.split s.couple s.unparked)
unfolding later_of cost_of is_within
cost_read s f n =
    let a = number_read 0 1000000 s.split (omega arith) f.split (omega arith) in
    let b = number_read 0 1000000 s.couple (omega arith) f.couple (omega arith) in
    let c = number_read 0 1000000 s.unparked (omega arith) f.unparked (omega arith) in
    let m = cost_of (partial s s.types s.platforms s.tracks s.routes s.permits) (cost_row s) in
    holding n m.checks m.value (refl, (refl, (a.there, (a.range, (b.there, (b.range, (c.there, (c.range, tt))))))))
    ∙ ap (λ x. Ok (whole s x (unwrap_or (decimal_of (decimal s.couple)) 0) (unwrap_or (decimal_of (decimal s.unparked)) 0))) a.value
    ∙ ap (λ x. Ok (whole s s.split x (unwrap_or (decimal_of (decimal s.unparked)) 0))) b.value
    ∙ ap (λ x. Ok (whole s s.split s.couple x)) c.value

head_read : (s : Station) → IsStation s → answer 1 (first_of (head_row s)) ≡ Ok (partial s [] [] [] [] [])
unfolding first_of is_within
head_read s f =
    let v = number_read 1 2 2 (omega arith) (omega arith) (omega arith) in
    let m = first_of (head_row s) in
    holding 1 m.checks m.value (refl, (refl, (v.there, (v.range, (name_read s.name f.name, tt)))))
    ∙ ap (λ (x : ℕ). Ok (record { version = x; station = empty_station s.name; is_costed = false })) v.value

-- the records of a station state it
pub station_back : (s : Station) → IsStation s → reading station_format (rows_of s) ≡ Ok s
station_back s f =
    let end = whole s s.split s.couple s.unparked in
    all_read station_format (head_row s) _ (partial s [] [] [] [] []) end (head_read s f)
    (section_then station_format type_row (λ l. partial s l [] [] [] []) s.types end _ (type_read s f)
    (section_then station_format platform_row (λ l. partial s s.types l [] [] []) s.platforms end _ (platform_read s f)
    (section_then station_format track_row (λ l. partial s s.types s.platforms l [] []) s.tracks end _ (track_read s f)
    (section_then station_format (route_row s) (λ l. partial s s.types s.platforms s.tracks l []) s.routes end _ (route_read s f)
    (section_then station_format (permit_row s) (λ l. partial s s.types s.platforms s.tracks s.routes l) s.permits end _ (permit_read s f)
    (λ n. one_reads station_format (partial s s.types s.platforms s.tracks s.routes s.permits) end n (cost_row s) (cost_read s f n)))))) 2)
    refl

-- the station's text is read back
pub back_from : (s : Station) → IsStation s → (text bytes : List ℕ) → text ≡ text_of_rows (rows_of s) → ReadsBack text bytes → ReadsAsStation s bytes
back_from s f text bytes e back =
    let rows = back (rows_of s) (station_plain s f) e in
    record { rows = rows; value = ap (reading station_format) rows ∙ station_back s f }

pub text_back : (s : Station) → IsStation s → ReadsAsStation s (text_of_rows (rows_of s))
text_back s f = back_from s f (text_of_rows (rows_of s)) (text_of_rows (rows_of s)) refl (λ rows plain e. ap records_of e ∙ again rows plain)
