-- The records of a station have plain fields.
use Rattle.std.proofs.Common.{ℕ, ◌<◌, Bool, true, false, List, [], length, map, refl, arith}
use Rattle.std.specs.Prelude.{codes}
use Rattle.shunt_base.specs.declared.ids.PlatformId.{PlatformId}
use Rattle.shunt_base.specs.declared.ids.TrackId.{TrackId}
use Rattle.shunt_base.specs.declared.ids.TypeId.{TypeId}
use Rattle.shunt_base.specs.defs.Spelling.{IsName}
use Rattle.shunt_rows.specs.defs.Records.{IsPlainField, IsPlainRow, ArePlain}
use Rattle.shunt_rows.proofs.Named.{name_at}
use Rattle.shunt_rows.proofs.Plain.{plain_name, plain_number, plain_word, plain_side, plain_more, plain_map}
use Rattle.shunt_instance.specs.declared.records.UnitType.{UnitType}
use Rattle.shunt_instance.specs.declared.records.Track.{Track}
use Rattle.shunt_instance.specs.declared.records.Route.{Route}
use Rattle.shunt_instance.specs.declared.records.Permit.{Permit}
use Rattle.shunt_instance.specs.declared.records.Station.{Station}
use Rattle.shunt_instance.specs.defs.Wellformed.{IsUnitType, IsTrack, IsRoute, IsPermit, IsStation}
use Rattle.shunt_station.specs.defs.WrittenRows.{type_name, platform_name, track_name, ends_text, head_row, type_row, platform_row, track_row, route_row, permit_row, cost_row, rows_of}

pub plain_ends : (a b : Bool) → IsPlainField (ends_text a b)
plain_ends true true = plain_word (codes "AB") refl refl
plain_ends true false = plain_word (codes "A") refl refl
plain_ends false b = plain_word (codes "B") refl refl

pub platform_named : (s : Station) (i : PlatformId) → IsStation s → i.0 < length s.platforms → IsName (platform_name s.platforms i)
platform_named s i f lt = f.platforms i.0 [] lt

pub track_named : (s : Station) (i : TrackId) → IsStation s → i.0 < length s.tracks → IsName (track_name s.tracks i)
track_named s i f lt = name_at (λ (t : Track). t.name) s.tracks i.0 (λ k d le. (f.tracks k d le).name) lt

pub type_named : (s : Station) (i : TypeId) → IsStation s → i.0 < length s.types → IsName (type_name s.types i)
type_named s i f lt = name_at (λ (t : UnitType). t.name) s.types i.0 (λ k d le. (f.types k d le).name) lt

pub plain_head : (s : Station) → IsStation s → IsPlainRow (head_row s)
plain_head s f = (omega arith, (plain_word (codes "station") refl refl, (plain_number 2 (omega arith), (plain_name s.name f.name, tt))))

pub plain_type : (t : UnitType) → IsUnitType t → IsPlainRow (type_row t)
plain_type t is =
    let a = is.long in let b = is.turn in
    (omega arith, (plain_word (codes "type") refl refl, (plain_name t.name is.name, (plain_number t.length (omega arith), (plain_number t.turn (omega arith), tt)))))

pub plain_platform : (p : List ℕ) → IsName p → IsPlainRow (platform_row p)
plain_platform p is = (omega arith, (plain_word (codes "platform") refl refl, (plain_name p is, tt)))

pub plain_track : (t : Track) → IsTrack t → IsPlainRow (track_row t)
plain_track t is =
    let a = is.long in
    (omega arith, (plain_word (codes "track") refl refl, (plain_name t.name is.name, (plain_number t.length (omega arith), (plain_ends t.side_a t.side_b, tt)))))

pub plain_route : (s : Station) → IsStation s → (r : Route) → IsRoute s r → IsPlainRow (route_row s r)
plain_route s f r is =
    let a = is.cost in (
      omega arith,
      (
        plain_word (codes "route") refl refl,
        (
          plain_name _ (platform_named s r.platform f is.platform),
          (plain_name _ (track_named s r.track f is.track), (plain_side r.side, (plain_number r.cost (omega arith), tt))),
        ),
      ),
    )

pub plain_permit : (s : Station) → IsStation s → (p : Permit) → IsPermit s p → IsPlainRow (permit_row s p)
plain_permit s f p is = (
  omega arith,
  (
    plain_word (codes "permit") refl refl,
    (
      plain_name _ (track_named s p.track f is.track),
      (plain_name _ (type_named s p.kind f is.kind), tt),
    ),
  ),
)

pub plain_cost : (s : Station) → IsStation s → IsPlainRow (cost_row s)
plain_cost s f =
    let a = f.split in let b = f.couple in let c = f.unparked in
    (omega arith, (plain_word (codes "cost") refl refl, (plain_number s.split (omega arith), (plain_number s.couple (omega arith), (plain_number s.unparked (omega arith), tt)))))

-- the records of a station are plain
pub station_plain : (s : Station) → IsStation s → ArePlain (rows_of s)
station_plain s f = (
  plain_head s f,
  plain_more (map type_row s.types) _ (plain_map IsUnitType type_row s.types plain_type f.types)
      (plain_more (map platform_row s.platforms) _ (plain_map IsName platform_row s.platforms plain_platform f.platforms)
      (plain_more (map track_row s.tracks) _ (plain_map IsTrack track_row s.tracks plain_track f.tracks)
      (plain_more (map (route_row s) s.routes) _ (plain_map (IsRoute s) (route_row s) s.routes (plain_route s f) f.routes)
      (plain_more (map (permit_row s) s.permits) _ (plain_map (IsPermit s) (permit_row s) s.permits (plain_permit s f) f.permits)
      (plain_cost s f, tt))))),
)
