-- The tables of the zones file stand in order.
use Rattle.std.proofs.Common.{ℕ, List, refl}
use Rattle.std.specs.Prelude.{codes}
use Rattle.shunt_rows.specs.defs.Fields.{is_word}
use Rattle.shunt_rows.specs.defs.FirstFault.{HasChecksInOrder, Tells}
use Rattle.shunt_rows.proofs.InOrder.{in_if, no_word_up}
use Rattle.shunt_rows.proofs.Readings.{tells}
use Rattle.shunt_instance.specs.declared.records.Station.{Station}
use Rattle.shunt_zones.specs.declared.records.Zones.{Zones}
use Rattle.shunt_zones.specs.defs.ZonesFormat.{way_in, first_of, zone_of, over_in, over_of, later_of, zones_format}

zone_up : (z : Zones) (row : List (List ℕ)) → HasChecksInOrder (zone_of z row)
unfolding zone_of
zone_up z row = record { up = refl }

over_up : (s : Station) (z : Zones) (row : List (List ℕ)) → HasChecksInOrder (over_of s z row)
unfolding over_of way_in over_in
over_up s z row = record { up = refl }

later_up : (s : Station) (z : Zones) (row : List (List ℕ)) → HasChecksInOrder (later_of s z row)
unfolding later_of
later_up s z row = in_if (is_word row (codes "zone")) (zone_up z row) (in_if (is_word row (codes "over")) (over_up s z row) (no_word_up z))

pub zones_tell : (s : Station) (rows : List (List (List ℕ))) → Tells (zones_format s) rows
unfolding first_of
zones_tell s rows = tells (zones_format s) (record { first = λ row. record { up = refl }; later = later_up s }) rows
