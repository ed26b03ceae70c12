-- What the code puts together is what the definitions say.
use Rattle.std.proofs.Common.{◌≡◌, ℕ, ◌+◌, ◌*◌, ◌<◌, ◌≤◌, min, List, [], ◌∷◌, ◌++◌, length, map, sym, ap, ◌∙◌, subst, arith}
use Rattle.std.specs.Prelude.{codes}
use Rattle.std.specs.List.{range_with_len}
use Rattle.std.proofs.lemmas.List.FromFn.{map-range_with_len_more}
use Rattle.shunt_instance.specs.declared.records.UnitType.{UnitType}
use Rattle.shunt_instance.specs.declared.records.Track.{Track}
use Rattle.shunt_instance.specs.declared.records.Route.{Route}
use Rattle.shunt_instance.specs.declared.records.Permit.{Permit}
use Rattle.shunt_instance.specs.declared.records.Station.{Station}
use Rattle.shunt_instance.specs.declared.records.Train.{Train}
use Rattle.shunt_instance.specs.declared.records.Timetable.{Timetable}
use Rattle.shunt_instance.specs.defs.Words.{unit_count}
use Rattle.shunt_instance.specs.defs.Wellformed.{IsStation, IsTimetable}
use Rattle.shunt_instance.specs.defs.Instance.{night_of}
use Rattle.shunt_matching.specs.defs.Nights.{HasMatching}
use Rattle.shunt_make.specs.declared.stations.OpenWay.{OpenWay}
use Rattle.shunt_make.specs.defs.Draws.{next, after, drawn, drawn_for}
use Rattle.shunt_make.specs.defs.Made.{unit_types, platform_names, track_count, tracks_of, ways_of, route_of, station_of, after_station, train_count, size_of, arriving_of, arriving, departing_of, departing, timetable_of}
use Rattle.shunt_make.proofs.Chain.{after_both}
use Rattle.shunt_make.proofs.Formed.{tracks_few, station_formed}
use Rattle.shunt_make.proofs.Timed.{arriving_length, departing_is}
use Rattle.shunt_make.proofs.Paired.{made_formed, made_matched}
use Rattle.shunt_make.proofs.Sized.{taken, made_tracks, made_arrive, made_depart}

-- ---- the station

pub few_tracks : (x units : ℕ) (tracks : List Track) → units ≤ 160 → tracks ≡ tracks_of x units → length tracks ≤ 60
few_tracks x units tracks few is = omega (arith, ap length is, tracks_few x units few)

same_station : (name name' : List ℕ) (types types' : List UnitType) (platforms platforms' : List (List ℕ)) (tracks tracks' : List Track) (routes routes' : List Route)
    (permits permits' : List Permit) (split couple unparked : ℕ)
    → name ≡ name' → types ≡ types' → platforms ≡ platforms' → tracks ≡ tracks' → routes ≡ routes' → permits ≡ permits'
    → (let s : Station = record {
      name = name;
      types = types;
      platforms = platforms;
      tracks = tracks;
      routes = routes;
      permits = permits;
      split = split;
      couple = couple;
      unparked =
          unparked;
    } in
    let t : Station = record {
      name = name';
      types = types';
      platforms = platforms';
      tracks = tracks';
      routes = routes';
      permits = permits';
      split = split;
      couple = couple;
      unparked = unparked;
    } in
    s ≡ t)
same_station name name' types types' platforms platforms' tracks tracks' routes routes' permits permits' split couple unparked a b c d e f = cc

pub station_is : (x units y : ℕ) (name : List ℕ) (types : List UnitType) (platforms : List (List ℕ)) (tracks seen : List Track) (ways : List OpenWay) (routes : List Route)
    (permits : List Permit)
    → name ≡ codes "G" → types ≡ unit_types → platforms ≡ platform_names → tracks ≡ tracks_of x units → seen ≡ tracks_of x units → y ≡ after x (track_count units)
    → ways ≡ ways_of seen → routes ≡ drawn_for route_of y ways → permits ≡ []
    → (let s : Station = record { name = name; types = types; platforms = platforms; tracks = tracks; routes = routes; permits = permits; split = 10; couple = 10; unparked = 500 }
    in s ≡ station_of x units)
unfolding station_of
station_is x units y name types platforms tracks seen ways routes permits named typed stand long see state go routed none =
    same_station name (codes "G") types unit_types platforms platform_names tracks (tracks_of x units) routes
    (drawn_for route_of (after x (track_count units)) (ways_of (tracks_of x units))) permits [] 10 10 500 named typed stand long
    (routed ∙ ap (λ (z : ℕ). drawn_for route_of z ways) state ∙ ap (drawn_for route_of (after x (track_count units))) (go ∙ ap ways_of see)) none

pub station_state : (x units y z : ℕ) (seen : List Track) (ways : List OpenWay) → seen ≡ tracks_of x units → y ≡ after x (track_count units) → ways ≡ ways_of seen
    → z ≡ after y (length ways) → z ≡ after_station x units
unfolding after_station
station_state x units y z seen ways see state go now =
    now ∙ ap (λ (w : ℕ). after w (length ways)) state ∙ ap (λ (l : List OpenWay). after (after x (track_count units)) (length l)) (go ∙ ap ways_of see)

-- ---- the trains

pub arriving_turn : (x units i y : ℕ) (xs ys : List Train) (t : Train) → i < train_count units → xs ≡ map (arriving_of x units) (range_with_len 0 i)
    → y ≡ after x (min (2 * i) units) → ((z : ℕ) → y ≡ after z (2 * i) → t ≡ arriving_of z units i) → ys ≡ xs ++ t ∷ [] → ys ≡ map (arriving_of x units) (range_with_len 0 (i + 1))
arriving_turn x units i y xs ys t lt made state one pushed =
    let all : min (2 * i) units ≡ 2 * i = omega arith in
    pushed
    ∙ ap (λ (l : List Train). l ++ t ∷ []) made
    ∙ ap (λ (u : Train). map (arriving_of x units) (range_with_len 0 i) ++ u ∷ []) (one x (state ∙ ap (after x) all))
    ∙ sym (map-range_with_len_more (arriving_of x units) 0 i i (omega arith))

pub arriving_state : (x units i y z : ℕ) → i < train_count units → y ≡ after x (min (2 * i) units) → z ≡ after y (size_of units i) → z ≡ after x (min (2 * (i + 1)) units)
arriving_state x units i y z lt state now =
    now ∙ ap (λ (w : ℕ). after w (size_of units i)) state ∙ after_both x (min (2 * i) units) (size_of units i) ∙ ap (after x) (taken units i lt)

pub arriving_end : (x units i : ℕ) (xs : List Train) → i ≡ train_count units → xs ≡ map (arriving_of x units) (range_with_len 0 i) → xs ≡ arriving x units
unfolding arriving
arriving_end x units i xs last made = made ∙ ap (λ (n : ℕ). map (arriving_of x units) (range_with_len 0 n)) last

pub few_arriving : (x units : ℕ) (xs : List Train) → units ≤ 160 → xs ≡ arriving x units → length xs ≤ 80
few_arriving x units xs few is = omega (arith, ap length is, arriving_length x units)

pub none_departing : (x : ℕ) (arrive xs : List Train) → length arrive ≡ 0 → xs ≡ [] → xs ≡ departing x arrive
unfolding departing
none_departing x [] xs none is = is
none_departing x (t ∷ ts) xs none is = absurd (omega arith)

pub departing_end : (x count shift y : ℕ) (arrive xs : List Train) → count ≡ length arrive → y ≡ next x → shift ≡ drawn y count
    → xs ≡ drawn_for (departing_of arrive shift) y (range_with_len 0 (length arrive)) → xs ≡ departing x arrive
departing_end x count shift y arrive xs long state drew made =
    made
    ∙ ap (λ (s : ℕ). drawn_for (departing_of arrive s) y (range_with_len 0 (length arrive))) (drew ∙ ap (λ (n : ℕ). drawn y n) long)
    ∙ ap (λ (z : ℕ). drawn_for (departing_of arrive (drawn z (length arrive))) z (range_with_len 0 (length arrive))) state
    ∙ sym (departing_is x arrive)

same_timetable : (arrive arrive' depart depart' : List Train) → arrive ≡ arrive' → depart ≡ depart'
    → (let s : Timetable = record { arrive = arrive; depart = depart } in
    let t : Timetable = record { arrive = arrive'; depart = depart' } in
    s ≡ t)
same_timetable arrive arrive' depart depart' a b = cc

pub timetable_is : (x units y : ℕ) (arrive seen depart : List Train) → arrive ≡ arriving x units → seen ≡ arriving x units → y ≡ after x units → depart ≡ departing y seen
    → (let t : Timetable = record { arrive = arrive; depart = depart } in t ≡ timetable_of x units)
unfolding timetable_of
timetable_is x units y arrive seen depart is see state made =
    same_timetable arrive (arriving x units) depart (departing (after x units) (arriving x units)) is
    (made ∙ ap (λ (z : ℕ). departing z seen) state ∙ ap (departing (after x units)) see)

-- ---- the night

pub night_made : (number units : ℕ) (s : Station) (t : Timetable) → units ≤ 160 → s ≡ station_of number units → t ≡ timetable_of (after_station number units) units
    → IsStation s × IsTimetable s t × HasMatching (night_of s t) [] []
night_made number units s t few is made = (
  subst IsStation (sym is) (station_formed number units few),
  subst (λ (u : Station). IsTimetable u t) (sym is) (subst (λ (v : Timetable). IsTimetable (station_of number units) v) (sym made)
      (made_formed number (after_station number units) units few)),
  subst (λ (u : Station). HasMatching (night_of u t) [] []) (sym is)
      (subst (λ (v : Timetable). HasMatching (night_of (station_of number units) v) [] []) (sym made) (made_matched number (after_station number units) units few)),
)

pub tracks_made : (number units : ℕ) (s : Station) → s ≡ station_of number units → length s.tracks ≡ track_count units
tracks_made number units s is = ap (λ (u : Station). length u.tracks) is ∙ made_tracks number units

pub arriving_made : (y units : ℕ) (t : Timetable) → t ≡ timetable_of y units → (length t.arrive ≡ train_count units) × (unit_count t.arrive ≡ units)
arriving_made y units t is = (ap (λ (u : Timetable). length u.arrive) is ∙ (made_arrive y units).0, ap (λ (u : Timetable). unit_count u.arrive) is ∙ (made_arrive y units).1)

pub departing_made : (y units : ℕ) (t : Timetable) → t ≡ timetable_of y units → (length t.depart ≡ train_count units) × (unit_count t.depart ≡ units)
departing_made y units t is = (ap (λ (u : Timetable). length u.depart) is ∙ (made_depart y units).0, ap (λ (u : Timetable). unit_count u.depart) is ∙ (made_depart y units).1)
