-- The made station is well formed.
use Rattle.std.proofs.Common.{◌≡◌, ℕ, ◌+◌, ◌/◌, ◌<◌, ◌≤◌, true, List, [], ◌∷◌, length, map, get_or, refl, sym, ap, ◌∙◌, subst, arith}
use Rattle.std.specs.Prelude.{All, codes}
use Rattle.std.specs.List.{range_with_len}
use Rattle.std.proofs.lemmas.Nat.{mod_below}
use Rattle.std.proofs.lemmas.List.Elements.{All-nil, All-cons}
use Rattle.std.proofs.lemmas.List.FromFn.{length-range_with_len}
use Rattle.shunt_lists.specs.defs.Members.{AreDistinct}
use Rattle.shunt_lists.proofs.Lists.{no_pairs}
use Rattle.shunt_base.specs.defs.Spelling.{IsName, is_name_text}
use Rattle.shunt_base.proofs.Names.{name_from}
use Rattle.shunt_instance.specs.declared.records.UnitType.{UnitType}
use Rattle.shunt_instance.specs.declared.records.Track.{Track}
use Rattle.shunt_instance.specs.declared.records.Permit.{Permit}
use Rattle.shunt_instance.specs.declared.records.Station.{Station}
use Rattle.shunt_instance.specs.defs.Words.{way_of}
use Rattle.shunt_instance.specs.defs.Wellformed.{IsUnitType, IsTrack, IsRoute, IsPermit, IsStation}
use Rattle.shunt_make.specs.declared.stations.OpenWay.{OpenWay}
use Rattle.shunt_make.specs.defs.Draws.{after, drawn, drawn_for}
use Rattle.shunt_make.specs.defs.Made.{numbered, unit_types, platform_names, track_count, track_of, tracks_of, ways_of, route_of, station_of}
use Rattle.shunt_make.proofs.Chain.{drawn_length, drawn_all, drawn_map, range_in}
use Rattle.shunt_make.proofs.Spelled.{named, apart, distinct_over}
use Rattle.shunt_make.proofs.Ways.{IsWayOf, joined, ways_open, ways_distinct}

pub drawn_below : (x n : ℕ) → 0 < n → drawn x n < n
unfolding drawn
drawn_below x n some = mod_below (x / 65536) n some

a_type : (name : List ℕ) (long turn : ℕ) → is_name_text name ≡ true → 1 ≤ long → long ≤ 5000 → 1 ≤ turn → turn ≤ 1440
    → IsUnitType (record { name = name; length = long; turn = turn })
a_type name long turn is some le turns few = record { name = name_from name is; some = some; long = le; turns = turns; turn = few }

types_formed : All IsUnitType unit_types
types_formed =
    All-cons IsUnitType (record { name = codes "K"; length = 250; turn = 10 }) (record { name = codes "L"; length = 500; turn = 20 } ∷
    record { name = codes "M"; length = 750; turn = 30 } ∷ []) (a_type (codes "K") 250 10 refl (omega arith) (omega arith) (omega arith) (omega arith))
    (All-cons IsUnitType (record { name = codes "L"; length = 500; turn = 20 }) (record { name = codes "M"; length = 750; turn = 30 } ∷ [])
    (a_type (codes "L") 500 20 refl (omega arith) (omega arith) (omega arith) (omega arith))
    (All-cons IsUnitType (record { name = codes "M"; length = 750; turn = 30 }) [] (a_type (codes "M") 750 30 refl (omega arith) (omega arith) (omega arith) (omega arith))
    (All-nil IsUnitType)))

types_differ : AreDistinct (map (λ (t : UnitType). t.name) unit_types)
types_differ = distinct_over (λ (i : ℕ). (75 + i) ∷ []) 0 3 (λ i j lt small e. omega (arith, ap (λ (l : List ℕ). get_or l 0 0) e))

platforms_formed : All IsName platform_names
platforms_formed = All-cons IsName (numbered 80 1) (numbered 80 2 ∷ []) (named 80 1 refl (omega arith))
    (All-cons IsName (numbered 80 2) [] (named 80 2 refl (omega arith)) (All-nil IsName))

platforms_differ : AreDistinct platform_names
platforms_differ = distinct_over (numbered 80) 1 2 (λ i j lt small e. apart 80 i j lt (omega arith) e)

-- ---- tracks

pub tracks_long : (x units : ℕ) → length (tracks_of x units) ≡ track_count units
tracks_long x units = drawn_length track_of x (range_with_len 1 (track_count units)) ∙ length-range_with_len 1 (track_count units)

pub tracks_few : (x units : ℕ) → units ≤ 160 → length (tracks_of x units) ≤ 60
tracks_few x units few = omega (arith, tracks_long x units)

a_track : (k x : ℕ) → k < 1000 → IsTrack (track_of k x)
a_track k x small = let below = drawn_below x 5 (omega arith) in record {
  name = named 84 k refl (omega arith);
  some = omega arith;
  long = omega arith;
  open_at = refl;
}

tracks_formed : (x units : ℕ) → units ≤ 160 → All IsTrack (tracks_of x units)
tracks_formed x units few =
    drawn_all track_of (λ k. (1 ≤ k) × (k < 1 + track_count units)) IsTrack (λ k y q. a_track k y (omega (arith, q.1, few))) x (range_with_len 1 (track_count units))
    (range_in 1 (track_count units))

tracks_differ : (x units : ℕ) → units ≤ 160 → AreDistinct (map (λ (t : Track). t.name) (tracks_of x units))
tracks_differ x units few =
    subst (λ (names : List (List ℕ)). AreDistinct names) (sym (drawn_map track_of (λ (t : Track). t.name) (numbered 84) (λ k y. refl) x (range_with_len 1 (track_count units))))
    (distinct_over (numbered 84) 1 (track_count units) (λ i j lt small e. apart 84 i j lt (omega (arith, small, few)) e))

-- ---- routes

a_route : (s : Station) (w : OpenWay) (x : ℕ) → length s.platforms ≡ 2 → IsWayOf s.tracks w → IsRoute s (route_of w x)
a_route s w x two way = let below = drawn_below x 20 (omega arith) in record {
  platform = omega (arith, way.platform);
  track = way.track;
  open_at = way.open_at;
  cost = omega arith;
}

routes_formed : (s : Station) (x : ℕ) → length s.platforms ≡ 2 → All (IsRoute s) (drawn_for route_of x (ways_of s.tracks))
routes_formed s x two = drawn_all route_of (IsWayOf s.tracks) (IsRoute s) (λ w y q. a_route s w y two q) x (ways_of s.tracks) (ways_open s.tracks)

routes_differ : (tracks : List Track) (x : ℕ) → length tracks ≤ 60 → AreDistinct (map way_of (drawn_for route_of x (ways_of tracks)))
routes_differ tracks x few = subst AreDistinct (sym (drawn_map route_of way_of joined (λ w y. refl) x (ways_of tracks))) (ways_distinct tracks few)

pub station_formed : (x units : ℕ) → units ≤ 160 → IsStation (station_of x units)
unfolding station_of
station_formed x units few = record {
  name = name_from (codes "G") refl;
  few_types = omega arith;
  types = types_formed;
  type_names = types_differ;
  few_platforms = omega arith;
  platforms = platforms_formed;
  platform_names = platforms_differ;
  few_tracks = tracks_few x units few;
  tracks = tracks_formed x units few;
  track_names = tracks_differ x units few;
  routes = routes_formed (station_of x units) (after x (track_count units)) refl;
  ways = routes_differ (tracks_of x units) (after x (track_count units)) (tracks_few x units few);
  permits = All-nil (IsPermit (station_of x units));
  permits_differ = no_pairs (λ (p q : Permit). p ≡ q → ⊥);
  split = omega arith;
  couple = omega arith;
  unparked = omega arith;
}
