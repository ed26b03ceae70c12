-- The meets of a plan's moves are told with zones of the station.
use Rattle.std.proofs.Common.{◌≡◌, ◌<◌, inl, inr, ℕ, List, [], ◌∷◌, length, get_or, refl, sym, subst}
use Rattle.std.specs.Prelude.{All, filter}
use Rattle.std.proofs.lemmas.List.FromFn.{length-map-range_with_len}
use Rattle.shunt_lists.specs.defs.Members.{In}
use Rattle.shunt_lists.proofs.Members.{in_place, of_map, filter_from, each_one}
use Rattle.shunt_instance.specs.defs.Instance.{Night, IsInstance}
use Rattle.shunt_plan.specs.declared.records.Plan.{Plan}
use Rattle.shunt_plan.specs.defs.Plans.{IsPlanInRange}
use Rattle.shunt_tracks.specs.declared.run.Event.{Event}
use Rattle.shunt_zones.specs.declared.records.Zones.{Zones}
use Rattle.shunt_zones.specs.declared.records.Meet.{Meet}
use Rattle.shunt_zones.specs.defs.Moves.{train_of, events_of, moves_of, IsMoveOf}
use Rattle.shunt_zones.specs.defs.Passed.{lies_on, zones_of, passings_of}
use Rattle.shunt_zones.specs.defs.Loads.{minutes_over, load_of, loads_in}
use Rattle.shunt_zones.specs.defs.Meetings.{Before, meets_in}
use Rattle.shunt_zones.specs.defs.ZonesFormat.{IsZones, IsOverWay}
use Rattle.shunt_zones.proofs.InWords.{all_meets}
use Rattle.shunt_zones.proofs.Ordered.{StayLaws, events_of_night, moves_from, moves_of_night}
use Rattle.shunt_report.specs.defs.ZonesTexts.{IsMeetOf}

earlier : {X : Type 0} (x y : X) (xs : List X) → Before x y xs → In x xs
earlier x y [] h = absurd h
earlier x y (z ∷ zs) (inl h) = inl h.0
earlier x y (z ∷ zs) (inr h) = inr (earlier x y zs h)

module _ (laws : StayLaws) (night : Night) (zones : Zones) (plan : Plan) (is : IsInstance night) (formed : IsZones night.station zones) (range : IsPlanInRange night plan) where
  moves_are : All (IsMoveOf night) (moves_of night plan.blocks)
  moves_are = subst (All (IsMoveOf night)) (moves_from night plan.blocks plan.blocks (events_of night plan.blocks) (events_of night plan.blocks) refl refl refl)
      (moves_of_night night plan.blocks (events_of night plan.blocks) (events_of_night laws night plan.blocks is range.blocks))

  -- a zone that a move passes is one of the names
  zone_is : (e : Event) (zone : ℕ) → In zone (zones_of night zones e) → zone < length zones.names
  zone_is e zone h =
      let over = of_map (λ o. o.zone) (filter (lies_on (train_of night e.key).origin e.track e.side) zones.over) zone h in
      let there = filter_from (lies_on (train_of night e.key).origin e.track e.side) zones.over over.0 over.1 in
      subst (λ z. z < length zones.names) (sym over.2) (each_one (IsOverWay night.station (length zones.names)) zones.over over.0 formed.over there.0).zone

  meet_is : (m : Meet) → In m (meets_in night zones plan) → IsMeetOf zones m
  meet_is m h =
      let words = (all_meets night zones plan m).0 h in
      record {
        zone = zone_is m.first m.zone words.1.first;
        minute = (each_one (IsMoveOf night) (moves_of night plan.blocks) m.first moves_are (earlier m.first m.second (moves_of night plan.blocks) words.0)).minute;
      }

  pub meets_are : All (IsMeetOf zones) (meets_in night zones plan)
  meets_are = λ k d lt. meet_is (get_or (meets_in night zones plan) k d) (in_place (meets_in night zones plan) k d lt)

pub loads_are : (night : Night) (zones : Zones) (plan : Plan) → length (loads_in night zones plan) ≡ length zones.names
unfolding loads_in
loads_are night zones plan = length-map-range_with_len (λ z. load_of (minutes_over z (passings_of night zones plan.blocks))) 0 (length zones.names)
