-- What the records of a zones file state is formed.
use Rattle.std.proofs.Common.{◌≡◌, ◌≢◌, ℕ, ◌+◌, ◌&&◌, true, List, [], ◌∷◌, ◌++◌, length, length-append, sym, subst, arith}
use Rattle.std.specs.Prelude.{Ok, bytes_eq, All, ◌==◌, position, codes}
use Rattle.std.specs.Option.{unwrap_or}
use Rattle.std.proofs.lemmas.Bool.{ltb-true, not-true, and_from}
use Rattle.std.proofs.lemmas.List.Elements.{All-nil, All-push, All-weaker}
use Rattle.std.proofs.lemmas.List.Quantifiers.{position-Some}
use Rattle.shunt_lists.proofs.Lists.{no_pairs}
use Rattle.shunt_base.proofs.Names.{name_from}
use Rattle.shunt_base.proofs.Sides.{same_side_itself}
use Rattle.shunt_base.specs.defs.Sides.{same_side}
use Rattle.shunt_base.specs.defs.Spelling.{IsName}
use Rattle.shunt_rows.specs.defs.Records.{at}
use Rattle.shunt_rows.specs.defs.Checks.{answer}
use Rattle.shunt_rows.specs.defs.Fields.{is_word, side_in}
use Rattle.shunt_rows.specs.defs.Formats.{reading}
use Rattle.shunt_rows.proofs.Answered.{says, in_either}
use Rattle.shunt_rows.proofs.KeptStates.{formed}
use Rattle.shunt_rows.proofs.Named.{plain_push, same_name}
use Rattle.shunt_rows.proofs.Spelled.{there}
use Rattle.shunt_instance.specs.declared.records.Station.{Station}
use Rattle.shunt_zones.specs.declared.records.Over.{Over}
use Rattle.shunt_zones.specs.declared.records.Zones.{Zones}
use Rattle.shunt_zones.specs.declared.ways.Way.{Way}
use Rattle.shunt_zones.specs.defs.ZonesFormat.{way_from, way_in, over_way, is_same, stands, no_zones, first_of, zone_of, over_in, over_of, later_of, zones_format, IsOverWay, IsZones}
use Rattle.shunt_lists.proofs.Tests.{same_number}

more_zones : (s : Station) (zones : ℕ) (o : Over) → IsOverWay s zones o → IsOverWay s (zones + 1) o
more_zones s zones o is = record { platform = is.platform; track = is.track; route = is.route; zone = let lt = is.zone in omega (arith, lt) }

zone_formed : (s : Station) (n : ℕ) (z t : Zones) (row : List (List ℕ)) → IsZones s z → answer n (zone_of z row) ≡ Ok t → IsZones s t
unfolding zone_of
zone_formed s n z t row f e =
    let all = says n (zone_of z row) t e in
    let room = all.0.1 in
    let name = room.1 in
    let new = name.1 in
    let less = ltb-true (length z.names) 64 room.0 in
    let longer : length (z.names ++ at row 2 ∷ []) ≡ length z.names + 1 = length-append z.names (at row 2 ∷ []) in
    let over : All (IsOverWay s (length (z.names ++ at row 2 ∷ []))) z.over =
    subst (λ k. All (IsOverWay s k) z.over) (sym longer) (All-weaker (IsOverWay s (length z.names)) (IsOverWay s (length z.names + 1))
    (more_zones s (length z.names)) z.over f.over) in
    let next : Zones = record z { names = z.names ++ at row 2 ∷ [] } in
    let is : IsZones s next = record {
      few = omega (arith, less, longer);
      names = All-push IsName z.names (at row 2) f.names (name_from (at row 2) name.0);
      names_differ = plain_push (λ m. bytes_eq m (at row 2)) z.names (at row 2) (λ m. same_name (at row 2) m) f.names_differ (not-true _ new.0);
      over = over;
      over_differ = f.over_differ;
    } in
    subst (IsZones s) all.1 is

same_itself : (o p : Over) → p ≡ o → is_same o p ≡ true
same_itself o p e =
    subst (λ (w : Over). (w.platform.0 == p.platform.0 && w.track.0 == p.track.0 && same_side w.side p.side && w.zone == p.zone) ≡ true) e
    (and_from _ _ (and_from _ _ (and_from _ _ (same_number p.platform.0) (same_number p.track.0)) (same_side_itself p.side)) (same_number p.zone))

over_formed : (s : Station) (n : ℕ) (z t : Zones) (row : List (List ℕ)) → IsZones s z → answer n (over_of s z row) ≡ Ok t → IsZones s t
unfolding over_of way_in over_in stands
over_formed s n z t row f e =
    let all = says n (over_of s z row) t e in
    let p = all.0.1 in
    let k = p.1 in
    let side = k.1 in
    let route = side.1 in
    let zone = route.1 in
    let new = zone.1 in
    let platform = position (λ x. bytes_eq x (at row 2)) s.platforms in
    let track = position (λ x. bytes_eq x.name (at row 3)) s.tracks in
    let number = position (λ x. bytes_eq x (at row 5)) z.names in
    let way : Way = way_from (unwrap_or platform 0) (unwrap_or track 0) (side_in row 4).value in
    let o : Over = over_way way (unwrap_or number 0) in
    let is : IsOverWay s (length z.names) o = record {
      platform = (position-Some (λ x. bytes_eq x (at row 2)) s.platforms (unwrap_or platform 0) [] (there 0 platform p.0)).0;
      track = (position-Some (λ x. bytes_eq x.name (at row 3)) s.tracks (unwrap_or track 0) (record { name = []; length = 0; side_a = true; side_b = true }) (there 0 track k.0)).0;
      route = route.0;
      zone = (position-Some (λ x. bytes_eq x (at row 5)) z.names (unwrap_or number 0) [] (there 0 number zone.0)).0;
    } in
    let next : Zones = record z { over = z.over ++ o ∷ [] } in
    let grown : IsZones s next = record {
      few = f.few;
      names = f.names;
      names_differ = f.names_differ;
      over = All-push (IsOverWay s (length z.names)) z.over o f.over is;
      over_differ = plain_push (is_same o) z.over o (same_itself o) f.over_differ (not-true _ new.0);
    } in
    subst (IsZones s) all.1 grown

later_formed : (s : Station) (n : ℕ) (z t : Zones) (row : List (List ℕ)) → IsZones s z → answer n (later_of s z row) ≡ Ok t → IsZones s t
unfolding later_of
later_formed s n z t row f =
    in_either n (is_word row (codes "zone")) _ _ t (IsZones s t) (λ w. zone_formed s n z t row f)
    (in_either n (is_word row (codes "over")) _ _ t (IsZones s t) (λ w. over_formed s n z t row f) (λ e. absurd cc))

none_formed : (s : Station) → IsZones s no_zones
none_formed s = record { few = omega arith; names = All-nil IsName; names_differ = no_pairs (λ m n. m ≢ n); over = All-nil (IsOverWay s 0); over_differ = no_pairs (λ m n. m ≢ n) }

first_formed : (s : Station) (z : Zones) (row : List (List ℕ)) → answer 1 (first_of row) ≡ Ok z → IsZones s z
unfolding first_of
first_formed s z row e = subst (IsZones s) (says 1 (first_of row) z e).1 (none_formed s)

pub zones_formed : (s : Station) (rows : List (List (List ℕ))) (z : Zones) → reading (zones_format s) rows ≡ Ok z → IsZones s z
zones_formed s = formed (zones_format s) (IsZones s) (IsZones s) (first_formed s) (λ n z t row f e. later_formed s n z t row f e) (λ z is. is)
