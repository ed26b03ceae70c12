-- The records of zones have plain fields.
use Rattle.std.proofs.Common.{ℕ, List, [], length, map, refl, arith}
use Rattle.std.specs.Prelude.{codes}
use Rattle.shunt_base.specs.defs.Spelling.{IsName}
use Rattle.shunt_rows.specs.defs.Records.{IsPlainRow, ArePlain}
use Rattle.shunt_rows.proofs.Named.{name_at}
use Rattle.shunt_rows.proofs.Plain.{plain_name, plain_number, plain_word, plain_side, plain_more, plain_map}
use Rattle.shunt_instance.specs.declared.records.Track.{Track}
use Rattle.shunt_instance.specs.declared.records.Station.{Station}
use Rattle.shunt_instance.specs.defs.Wellformed.{IsStation}
use Rattle.shunt_plan.specs.defs.PlanRows.{track_name}
use Rattle.shunt_zones.specs.declared.records.Over.{Over}
use Rattle.shunt_zones.specs.declared.records.Zones.{Zones}
use Rattle.shunt_zones.specs.defs.ZonesFormat.{IsOverWay, IsZones}
use Rattle.shunt_zones.specs.defs.ZonesRows.{platform_name, head_row, zone_row, over_row, rows_of}

plain_head : IsPlainRow head_row
plain_head = (omega arith, (plain_word (codes "zones") refl refl, (plain_number 1 (omega arith), tt)))

plain_zone : (name : List ℕ) → IsName name → IsPlainRow (zone_row name)
plain_zone name is = (omega arith, (plain_word (codes "zone") refl refl, (plain_name name is, tt)))

platform_named : (s : Station) → IsStation s → (o : Over) (zones : ℕ) → IsOverWay s zones o → IsName (platform_name s o.platform)
platform_named s f o zones is = f.platforms o.platform.0 [] is.platform

track_named : (s : Station) → IsStation s → (o : Over) (zones : ℕ) → IsOverWay s zones o → IsName (track_name s o.track)
track_named s f o zones is = name_at (λ (t : Track). t.name) s.tracks o.track.0 (λ k d le. (f.tracks k d le).name) is.track

plain_over : (s : Station) (z : Zones) → IsStation s → IsZones s z → (o : Over) → IsOverWay s (length z.names) o → IsPlainRow (over_row s z.names o)
plain_over s z f g o is = (
  omega arith,
  (
    plain_word (codes "over") refl refl,
    (
      plain_name _ (platform_named s f o (length z.names) is),
      (plain_name _ (track_named s f o (length z.names) is), (plain_side o.side, (plain_name _ (g.names o.zone [] is.zone), tt))),
    ),
  ),
)

-- the records of zones are plain
pub zones_plain : (s : Station) (z : Zones) → IsStation s → IsZones s z → ArePlain (rows_of s z)
zones_plain s z f g = (
  plain_head,
  plain_more (map zone_row z.names) (map (over_row s z.names) z.over) (plain_map IsName zone_row z.names plain_zone g.names)
      (plain_map (IsOverWay s (length z.names)) (over_row s z.names) z.over (plain_over s z f g) g.over),
)
