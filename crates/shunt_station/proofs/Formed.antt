-- What the records of a station file state is well formed.
use Rattle.std.proofs.Common.{◌≡◌, ◌≢◌, ℕ, zero, suc, ◌<◌, ◌≤◌, Bool, true, false, ◌||◌, ◌&&◌, List, [], ◌∷◌, ◌++◌, length, length-append, map, refl, sym, ap, ◌∙◌, subst, arith}
use Rattle.std.specs.Prelude.{Ok, bytes_eq, nat_lt, All, ◌==◌, Option, Some, if◌then◌else◌, codes}
use Rattle.std.proofs.lemmas.List.Elements.{All-nil, All-push, All-weaker}
use Rattle.std.proofs.lemmas.Bool.{true≢false, ltb-true, not-true, and_from}
use Rattle.shunt_base.proofs.Sides.{same_side_itself}
use Rattle.shunt_base.specs.defs.Sides.{same_side}
use Rattle.shunt_lists.specs.defs.Members.{AreDistinct}
use Rattle.shunt_base.proofs.Names.{name_from}
use Rattle.shunt_lists.proofs.Lists.{no_pairs}
use Rattle.shunt_base.specs.declared.ids.PlatformId.{PlatformId}
use Rattle.shunt_base.specs.declared.ids.TrackId.{TrackId}
use Rattle.shunt_base.specs.declared.ids.TypeId.{TypeId}
use Rattle.shunt_base.specs.declared.ids.Side.{Side}
use Rattle.shunt_base.specs.defs.Spelling.{IsName}
use Rattle.shunt_rows.specs.declared.fault.RowKind.TheVariants as kinds
use Rattle.shunt_rows.specs.defs.Records.{at}
use Rattle.shunt_rows.specs.defs.Checks.{found, answer}
use Rattle.shunt_rows.specs.defs.Fields.{is_word, number_in, side_in}
use Rattle.shunt_rows.specs.defs.Formats.{reading}
use Rattle.shunt_rows.proofs.Answered.{says, in_either}
use Rattle.shunt_rows.proofs.KeptStates.{formed}
use Rattle.shunt_rows.proofs.Named.{distinct_push, plain_push, same_name}
use Rattle.shunt_rows.proofs.Spelled.{there, within}
use Rattle.shunt_instance.specs.declared.records.UnitType.{UnitType}
use Rattle.shunt_instance.specs.declared.records.Track.{Track}
use Rattle.shunt_instance.specs.declared.records.Route.{Route}
use Rattle.shunt_instance.specs.declared.records.Permit.{Permit}
use Rattle.shunt_instance.specs.declared.records.Station.{Station}
use Rattle.shunt_instance.specs.defs.Words.{is_open_at, joins, way_of, track_of_name, open_in}
use Rattle.shunt_instance.specs.defs.Wellformed.{IsUnitType, IsTrack, IsRoute, IsPermit, IsStation}
use Rattle.shunt_instance.proofs.Found.{number_found, track_within}
use Rattle.shunt_station.specs.defs.StatedStations.{StationDraft, OpenSides, empty_station, first_of, type_of_name, platform_of_name, open_sides_of, type_of, platform_of, track_of, stands, route_of, permit_of, cost_of, later_of, station_format}
use Rattle.shunt_lists.proofs.Tests.{same_number}

-- the lists of a station, each with what is true of it
abbrev AreTypes : List UnitType → Type 0
AreTypes types = (length types ≤ 40) × All IsUnitType types × AreDistinct (map (λ t. t.name) types)

abbrev ArePlatforms : List (List ℕ) → Type 0
ArePlatforms platforms = (length platforms ≤ 30) × All IsName platforms × AreDistinct platforms

abbrev AreTracks : List Track → Type 0
AreTracks tracks = (length tracks ≤ 60) × All IsTrack tracks × AreDistinct (map (λ t. t.name) tracks)

abbrev AreRoutes : Station → List Route → Type 0
AreRoutes s routes = All (IsRoute s) routes × AreDistinct (map way_of routes)

abbrev ArePermits : Station → List Permit → Type 0
ArePermits s permits = All (IsPermit s) permits × AreDistinct permits

abbrev AreCosts : Station → Type 0
AreCosts s = (s.split ≤ 1000000) × (s.couple ≤ 1000000) × (s.unparked ≤ 1000000)

of_parts : (s : Station) → IsName s.name → AreTypes s.types → ArePlatforms s.platforms → AreTracks s.tracks → AreRoutes s s.routes → ArePermits s s.permits → AreCosts s
    → IsStation s
of_parts s name types platforms tracks routes permits costs = record {
  name = name;
  few_types = types.0;
  types = types.1;
  type_names = types.2;
  few_platforms = platforms.0;
  platforms = platforms.1;
  platform_names = platforms.2;
  few_tracks = tracks.0;
  tracks = tracks.1;
  track_names = tracks.2;
  routes = routes.0;
  ways = routes.1;
  permits = permits.0;
  permits_differ = permits.1;
  split = costs.0;
  couple = costs.1;
  unparked = costs.2;
}

types_of : (s : Station) → IsStation s → AreTypes s.types
types_of s f = (f.few_types, f.types, f.type_names)

platforms_of : (s : Station) → IsStation s → ArePlatforms s.platforms
platforms_of s f = (f.few_platforms, f.platforms, f.platform_names)

tracks_of : (s : Station) → IsStation s → AreTracks s.tracks
tracks_of s f = (f.few_tracks, f.tracks, f.track_names)

costs_of : (s : Station) → IsStation s → AreCosts s
costs_of s f = (f.split, f.couple, f.unparked)

-- a station that has at least what another has
record Grows (s t : Station) : Type 0 where
  types : length s.types ≤ length t.types
  platforms : length s.platforms ≤ length t.platforms
  tracks : length s.tracks ≤ length t.tracks
  open_at : (k : TrackId) (side : Side) → is_open_at s k side ≡ true → is_open_at t k side ≡ true

route_kept : (s t : Station) → Grows s t → (r : Route) → IsRoute s r → IsRoute t r
route_kept s t g r is = record {
  platform = let a = is.platform in let b = g.platforms in omega arith;
  track = let a = is.track in let b = g.tracks in omega arith;
  open_at = g.open_at r.track r.side is.open_at;
  cost = is.cost;
}

permit_kept : (s t : Station) → Grows s t → (p : Permit) → IsPermit s p → IsPermit t p
permit_kept s t g p is = record {
  track = let a = is.track in let b = g.tracks in omega arith;
  kind = let a = is.kind in let b = g.types in omega arith;
}

open_kept : (tracks more : List Track) (k : ℕ) (side : Side) → open_in tracks k side ≡ true → open_in (tracks ++ more) k side ≡ true
open_kept [] more k side e = absurd (true≢false (sym e))
open_kept (t ∷ tracks) more zero side e = e
open_kept (t ∷ tracks) more (suc k) side e = open_kept tracks more k side e

-- the routes and permits of a station stand over one that grew
routes_on : (s t : Station) → Grows s t → IsStation s → AreRoutes t s.routes
routes_on s t g f = (All-weaker (IsRoute s) (IsRoute t) (route_kept s t g) s.routes f.routes, f.ways)

permits_on : (s t : Station) → Grows s t → IsStation s → ArePermits t s.permits
permits_on s t g f = (All-weaker (IsPermit s) (IsPermit t) (permit_kept s t g) s.permits f.permits, f.permits_differ)

-- a station over which as much stands
same_size : (s t : Station) → t.types ≡ s.types → t.platforms ≡ s.platforms → t.tracks ≡ s.tracks → Grows s t
same_size s t types platforms tracks = record {
  types = omega (arith, ap length types);
  platforms = omega (arith, ap length platforms);
  tracks = omega (arith, ap length tracks);
  open_at = λ k side o. ap (λ l. open_in l k.0 side) tracks ∙ o;
}

-- one more of a list
more : {X : Type 0} (xs : List X) (x : X) (most : ℕ) → nat_lt (length xs) most ≡ true → length (xs ++ x ∷ []) ≤ most
more xs x most lt = let l = ltb-true _ _ lt in omega (arith, l, length-append xs (x ∷ []))

at_least : {X : Type 0} (xs : List X) (x : X) → length xs ≤ length (xs ++ x ∷ [])
at_least xs x = omega (arith, length-append xs (x ∷ []))

type_formed : (n : ℕ) (d t : StationDraft) (row : List (List ℕ)) → IsStation d.station → answer n (type_of d row) ≡ Ok t → IsStation t.station
unfolding type_of
type_formed n d t row s e =
    let all = says n (type_of d row) t e in
    let room = all.0.1 in
    let name = room.1 in
    let new = name.1 in
    let size = new.1.1 in
    let turn = size.1.1 in
    let long = within 1 5000 (number_in row 3 1 5000).value size.0 in
    let late = within 1 1440 (number_in row 4 1 1440).value turn.0 in
    let old = d.station in
    let t0 : UnitType = record { name = at row 2; length = (number_in row 3 1 5000).value; turn = (number_in row 4 1 1440).value } in
    let next : Station = record old { types = old.types ++ t0 ∷ [] } in
    let grows : Grows old next = record { types = at_least old.types t0; platforms = omega arith; tracks = omega arith; open_at = λ k side o. o } in
    let types : AreTypes next.types = (
      more old.types t0 40 room.0,
      All-push IsUnitType old.types t0 s.types (record { name = name_from (at row 2) name.0; some = long.0; long = long.1; turns = late.0; turn = late.1 }),
      distinct_push (λ u. u.name) (λ u. bytes_eq u.name (at row 2)) old.types t0 (λ u. same_name (at row 2) u.name) s.type_names (not-true _ new.0),
    ) in
    subst (λ (u : StationDraft). IsStation u.station) all.1 (of_parts next s.name types (platforms_of old s) (tracks_of old s) (routes_on old next grows s)
    (permits_on old next grows s)
    (costs_of old s))

platform_formed : (n : ℕ) (d t : StationDraft) (row : List (List ℕ)) → IsStation d.station → answer n (platform_of d row) ≡ Ok t → IsStation t.station
unfolding platform_of
platform_formed n d t row s e =
    let all = says n (platform_of d row) t e in
    let room = all.0.1 in
    let name = room.1 in
    let new = name.1 in
    let old = d.station in
    let next : Station = record old { platforms = old.platforms ++ at row 2 ∷ [] } in
    let grows : Grows old next = record { types = omega arith; platforms = at_least old.platforms (at row 2); tracks = omega arith; open_at = λ k side o. o } in
    let platforms : ArePlatforms next.platforms = (
      more old.platforms (at row 2) 30 room.0,
      All-push IsName old.platforms (at row 2) s.platforms (name_from (at row 2) name.0),
      plain_push (λ p. bytes_eq p (at row 2)) old.platforms (at row 2) (λ p. same_name (at row 2) p) s.platform_names (not-true _ new.0),
    ) in
    subst (λ (u : StationDraft). IsStation u.station) all.1 (of_parts next s.name (types_of old s) platforms (tracks_of old s) (routes_on old next grows s)
    (permits_on old next grows s)
    (costs_of old s))

if_is : {X : Type 0} (P : X → Type 0) (b : Bool) (r s : X) → (b ≡ true → P r) → (b ≡ false → P s) → P (if b then r else s)
if_is P true r s f g = f refl
if_is P false r s f g = g refl

-- sides that are named are open at one of them
AreEnds : Option OpenSides → Type 0
AreEnds o = (e : OpenSides) → o ≡ Some e → (e.side_a || e.side_b) ≡ true

ends_open : (text : List ℕ) → AreEnds (open_sides_of text)
unfolding open_sides_of AreEnds
ends_open text =
    if_is AreEnds (bytes_eq text (codes "A")) _ _ (λ _. λ e is. cc)
    (λ _. if_is AreEnds (bytes_eq text (codes "B")) _ _ (λ _. λ e is. cc)
    (λ _. if_is AreEnds (bytes_eq text (codes "AB")) _ _ (λ _. λ e is. cc) (λ _. λ e is. cc)))

track_formed : (n : ℕ) (d t : StationDraft) (row : List (List ℕ)) → IsStation d.station → answer n (track_of d row) ≡ Ok t → IsStation t.station
unfolding track_of AreEnds
track_formed n d t row s e =
    let all = says n (track_of d row) t e in
    let room = all.0.1 in
    let name = room.1 in
    let new = name.1 in
    let size = new.1.1 in
    let sides = size.1 in
    let long = within 1 50000 (number_in row 3 1 50000).value size.0 in
    let all_open : OpenSides = record { side_a = true; side_b = true } in
    let ends = (found all_open (open_sides_of (at row 4)) 4 kinds.Kind).value in
    let old = d.station in
    let t0 : Track = record { name = at row 2; length = (number_in row 3 1 50000).value; side_a = ends.side_a; side_b = ends.side_b } in
    let next : Station = record old { tracks = old.tracks ++ t0 ∷ [] } in
    let grows : Grows old next = record {
      types = omega arith;
      platforms = omega arith;
      tracks = at_least old.tracks t0;
      open_at = λ k side o. open_kept old.tracks
          (t0 ∷ []) k.0 side o;
    } in
    let tracks : AreTracks next.tracks = (
      more old.tracks t0 60 room.0,
      All-push IsTrack old.tracks t0 s.tracks (record {
        name = name_from (at row 2) name.0;
        some = long.0;
        long = long.1;
        open_at = ends_open (at row 4) ends
            (there all_open _ sides.0);
      }),
      distinct_push (λ u. u.name) (λ u. bytes_eq u.name (at row 2)) old.tracks t0 (λ u. same_name (at row 2) u.name) s.track_names (not-true _ new.0),
    ) in
    subst (λ (u : StationDraft). IsStation u.station) all.1 (of_parts next s.name (types_of old s) (platforms_of old s) tracks (routes_on old next grows s)
    (permits_on old next grows s)
    (costs_of old s))

platform_within : (s : Station) (name : List ℕ) (i : PlatformId) → platform_of_name s name ≡ Some i → i.0 < length s.platforms
unfolding platform_of_name
platform_within s name i e = number_found (λ p. bytes_eq p name) s.platforms [] (λ k. record { 0 = k }) (λ j. j.0) (λ k. refl) i e

type_within : (s : Station) (name : List ℕ) (i : TypeId) → type_of_name s name ≡ Some i → i.0 < length s.types
unfolding type_of_name
type_within s name i e = number_found (λ t. bytes_eq t.name name) s.types (record { name = []; length = 0; turn = 0 }) (λ k. record { 0 = k }) (λ j. j.0) (λ k. refl) i e

joins_own : (r q : Route) → way_of q ≡ way_of r → joins r.platform r.track r.side q ≡ true
joins_own r q e =
    subst (λ (w : PlatformId × (TrackId × Side)). (q.platform.0 == w.0.0 && q.track.0 == w.1.0.0 && same_side q.side w.1.1) ≡ true) e
    (and_from _ _ (and_from _ _ (same_number q.platform.0) (same_number q.track.0)) (same_side_itself q.side))

names_own : (p q : Permit) → q ≡ p → (q.track.0 == p.track.0 && q.kind.0 == p.kind.0) ≡ true
names_own p q e = subst (λ (w : Permit). (q.track.0 == w.track.0 && q.kind.0 == w.kind.0) ≡ true) e (and_from _ _ (same_number q.track.0) (same_number q.kind.0))

abbrev no_platform : PlatformId
no_platform = record { 0 = 0 }

abbrev no_track : TrackId
no_track = record { 0 = 0 }

abbrev no_type : TypeId
no_type = record { 0 = 0 }

route_formed : (n : ℕ) (d t : StationDraft) (row : List (List ℕ)) → IsStation d.station → answer n (route_of d row) ≡ Ok t → IsStation t.station
unfolding route_of stands
route_formed n d t row s e =
    let all = says n (route_of d row) t e in
    let p = all.0.1 in
    let k = p.1 in
    let new = k.1.1 in
    let shut = new.1 in
    let price = shut.1.1 in
    let mp = found no_platform (platform_of_name d.station (at row 2)) 2 kinds.Unknown in
    let mt = found no_track (track_of_name d.station (at row 3)) 3 kinds.Unknown in
    let ms = side_in row 4 in
    let mc = number_in row 5 0 1000000 in
    let old = d.station in
    let r0 : Route = record { platform = mp.value; track = mt.value; side = ms.value; cost = mc.value } in
    let next : Station = record old { routes = old.routes ++ r0 ∷ [] } in
    let grows = same_size old next refl refl refl in
    let kept = routes_on old next grows s in
    let is : IsRoute next r0 = record {
      platform = platform_within old (at row 2) mp.value (there no_platform _ p.0);
      track = track_within old (at row 3) mt.value
          (there no_track _ k.0);
      open_at = shut.0;
      cost = (within 0 1000000 mc.value price.0).1;
    } in
    let routes : AreRoutes next next.routes = (
      All-push (IsRoute next) old.routes r0 kept.0 is,
      distinct_push way_of (joins mp.value mt.value ms.value) old.routes r0 (joins_own r0) kept.1 (not-true _ new.0),
    ) in
    subst (λ (u : StationDraft). IsStation u.station) all.1 (of_parts next s.name (types_of old s) (platforms_of old s) (tracks_of old s) routes (permits_on old next grows s)
    (costs_of old s))

permit_formed : (n : ℕ) (d t : StationDraft) (row : List (List ℕ)) → IsStation d.station → answer n (permit_of d row) ≡ Ok t → IsStation t.station
unfolding permit_of
permit_formed n d t row s e =
    let all = says n (permit_of d row) t e in
    let k = all.0.1 in
    let u = k.1 in
    let new = u.1 in
    let mt = found no_track (track_of_name d.station (at row 2)) 2 kinds.Unknown in
    let mk = found no_type (type_of_name d.station (at row 3)) 3 kinds.Unknown in
    let old = d.station in
    let p0 : Permit = record { track = mt.value; kind = mk.value } in
    let next : Station = record old { permits = old.permits ++ p0 ∷ [] } in
    let grows = same_size old next refl refl refl in
    let kept = permits_on old next grows s in
    let is : IsPermit next p0 = record { track = track_within old (at row 2) mt.value (there no_track _ k.0); kind = type_within old (at row 3) mk.value (there no_type _ u.0) } in
    let permits : ArePermits next next.permits = (
      All-push (IsPermit next) old.permits p0 kept.0 is,
      plain_push (λ p. p.track.0 == mt.value.0 && p.kind.0 == mk.value.0) old.permits p0 (names_own p0) kept.1 (not-true _ new.0),
    ) in
    subst (λ (u : StationDraft). IsStation u.station) all.1 (of_parts next s.name (types_of old s) (platforms_of old s) (tracks_of old s) (routes_on old next grows s) permits
    (costs_of old s))

cost_formed : (n : ℕ) (d t : StationDraft) (row : List (List ℕ)) → IsStation d.station → answer n (cost_of d row) ≡ Ok t → IsStation t.station
unfolding cost_of
cost_formed n d t row s e =
    let all = says n (cost_of d row) t e in
    let a = all.0.1.1.1 in
    let b = a.1.1 in
    let c = b.1.1 in
    let old = d.station in
    let next : Station = record old { split = (number_in row 2 0 1000000).value; couple = (number_in row 3 0 1000000).value; unparked = (number_in row 4 0 1000000).value } in
    let grows = same_size old next refl refl refl in
    let costs : AreCosts next = ((within 0 1000000 next.split a.0).1, (within 0 1000000 next.couple b.0).1, (within 0 1000000 next.unparked c.0).1) in
    subst (λ (u : StationDraft). IsStation u.station) all.1 (of_parts next s.name (types_of old s) (platforms_of old s) (tracks_of old s) (routes_on old next grows s)
    (permits_on old next grows s) costs)

later_formed : (n : ℕ) (d t : StationDraft) (row : List (List ℕ)) → IsStation d.station → answer n (later_of d row) ≡ Ok t → IsStation t.station
unfolding later_of
later_formed n d t row s =
    in_either n (is_word row (codes "type")) _ _ t (IsStation t.station) (λ w. type_formed n d t row s)
    (in_either n (is_word row (codes "platform")) _ _ t (IsStation t.station) (λ w. platform_formed n d t row s)
    (in_either n (is_word row (codes "track")) _ _ t (IsStation t.station) (λ w. track_formed n d t row s)
    (in_either n (is_word row (codes "route")) _ _ t (IsStation t.station) (λ w. route_formed n d t row s)
    (in_either n (is_word row (codes "cost")) _ _ t (IsStation t.station) (λ w. cost_formed n d t row s)
    (in_either n (d.version == 2 && is_word row (codes "permit")) _ _ t (IsStation t.station) (λ w. permit_formed n d t row s) (λ e. absurd cc))))))

empty_formed : (name : List ℕ) → IsName name → IsStation (empty_station name)
empty_formed name is = of_parts (empty_station name) is
    (omega arith, All-nil IsUnitType, no_pairs (λ m n. m ≢ n))
    (omega arith, All-nil IsName, no_pairs (λ m n. m ≢ n))
    (omega arith, All-nil IsTrack, no_pairs (λ m n. m ≢ n))
    (All-nil (IsRoute (empty_station name)), no_pairs (λ m n. m ≢ n))
    (All-nil (IsPermit (empty_station name)), no_pairs (λ m n. m ≢ n))
    (omega arith, omega arith, omega arith)

first_formed : (d : StationDraft) (row : List (List ℕ)) → answer 1 (first_of row) ≡ Ok d → IsStation d.station
unfolding first_of
first_formed d row e =
    let all = says 1 (first_of row) d e in
    subst (λ (u : StationDraft). IsStation u.station) all.1 (empty_formed (at row 3) (name_from (at row 3) all.0.1.1.1.1.0))

pub station_formed : (rows : List (List (List ℕ))) (t : Station) → reading station_format rows ≡ Ok t → IsStation t
station_formed = formed station_format (λ d. IsStation d.station) IsStation first_formed (λ n d t row s e. later_formed n d t row s e) (λ d is. is)
