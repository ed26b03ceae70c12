-- What the tables of an instance hold.
use Rattle.std.specs.Prelude.{◌≡◌, ℕ, ◌+◌, ◌*◌, ◌<◌, Bool, ◌&&◌, ◌==◌, List, map, length, take, Option, option_map, find, slice_get, slice_index, Some}
use Rattle.std.specs.List.{list_any}
use Rattle.shunt_base.specs.declared.ids.PlatformId.{PlatformId}
use Rattle.shunt_base.specs.declared.ids.TrackId.{TrackId}
use Rattle.shunt_base.specs.declared.ids.TypeId.{TypeId}
use Rattle.shunt_base.specs.declared.ids.Side.{Side}
use Rattle.shunt_base.specs.declared.ids.Side.TheVariants.{A, B}
use Rattle.shunt_instance.specs.declared.records.Route.{Route}
use Rattle.shunt_instance.specs.declared.records.Permit.{Permit}
use Rattle.shunt_instance.specs.declared.records.Train.{Train}
use Rattle.shunt_instance.specs.declared.records.Unit.{Unit as TrainUnit}
use Rattle.shunt_instance.specs.declared.records.Position.{Position}
use Rattle.shunt_instance.specs.defs.Words.{joins, unit_count}
use Rattle.shunt_instance.specs.defs.Instance.{Night, IsOrderedNight, units_of, positions_of, ready_of, leaves_of}

-- where the table of costs holds a route: there are at most 30 platforms and 60 tracks
abbrev pub side_number : Side → ℕ
side_number A = 0
side_number B = 1

abbrev pub route_cell : PlatformId → TrackId → Side → ℕ
route_cell p t side = (p.0 * 60 + t.0) * 2 + side_number side

-- the table of costs of these routes
pub record AreCosts (routes : List Route) (costs : List (Option ℕ)) : Type 0 where
  pub size : length costs ≡ 3600
  pub each : (p : PlatformId) (t : TrackId) (s : Side) → p.0 < 30 → t.0 < 60 → slice_get costs (route_cell p t s) ≡ Some (option_map (λ r. r.cost) (find (joins p t s) routes))

-- where the table of permits holds a track and a type: there are at most 60 tracks and 40 types
abbrev pub permit_cell : TrackId → TypeId → ℕ
permit_cell t k = t.0 * 40 + k.0

-- for each track whether a permit names it
pub record AreNamed (permits : List Permit) (named : List Bool) : Type 0 where
  pub size : length named ≡ 60
  pub each : (t : TrackId) → t.0 < 60 → slice_get named t.0 ≡ Some (list_any (λ p. p.track.0 == t.0) permits)

-- for each track and type whether a permit names both
pub record ArePairs (permits : List Permit) (pairs : List Bool) : Type 0 where
  pub size : length pairs ≡ 2400
  pub each : (t : TrackId) (k : TypeId) → t.0 < 60 → k.0 < 40 → slice_get pairs (permit_cell t k) ≡ Some (list_any (λ p. p.track.0 == t.0 && p.kind.0 == k.0) permits)

-- for each train how many units the trains before it have
pub record AreFirsts (trains : List Train) (firsts : List ℕ) : Type 0 where
  pub size : length firsts ≡ length trains
  pub each : (k : ℕ) → k < length trains → slice_index firsts k ≡ unit_count (take k trains)

-- the numbered units and positions of a night, with their minutes
pub record AreEntries (night : Night) (units : List TrainUnit) (positions : List Position) (ready leaves : List ℕ) : Type 0 where
  pub unit_list : units ≡ units_of night.arrive
  pub position_list : positions ≡ positions_of night.depart
  pub ready_list : ready ≡ map (ready_of night.station night.arrive) units
  pub leave_list : leaves ≡ map (leaves_of night.depart) positions

-- all tables of a night, whose trains are well formed and in their order
pub record AreTables (night : Night) (units : List TrainUnit) (positions : List Position) (ready leaves first_units first_positions : List ℕ) (costs : List (Option ℕ))
    (named pairs : List Bool) : Type 0 where
  pub formed : IsOrderedNight night
  pub entries : AreEntries night units positions ready leaves
  pub units_before : AreFirsts night.arrive first_units
  pub positions_before : AreFirsts night.depart first_positions
  pub route_costs : AreCosts night.station.routes costs
  pub named_tracks : AreNamed night.station.permits named
  pub named_pairs : ArePairs night.station.permits pairs
