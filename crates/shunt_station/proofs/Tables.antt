-- The tables of the station file stand in order.
use Rattle.std.proofs.Common.{ℕ, List, refl}
use Rattle.std.specs.Prelude.{codes, ◌&&◌, ◌==◌}
use Rattle.shunt_rows.specs.defs.Fields.{is_word}
use Rattle.shunt_rows.specs.defs.FirstFault.{HasChecksInOrder, Tells}
use Rattle.shunt_rows.proofs.InOrder.{in_if, no_word_up}
use Rattle.shunt_rows.proofs.Readings.{tells}
use Rattle.shunt_station.specs.defs.StatedStations.{StationDraft, first_of, type_of, platform_of, track_of, route_of, permit_of, cost_of, later_of, station_format}

type_up : (d : StationDraft) (row : List (List ℕ)) → HasChecksInOrder (type_of d row)
unfolding type_of
type_up d row = record { up = refl }

platform_up : (d : StationDraft) (row : List (List ℕ)) → HasChecksInOrder (platform_of d row)
unfolding platform_of
platform_up d row = record { up = refl }

track_up : (d : StationDraft) (row : List (List ℕ)) → HasChecksInOrder (track_of d row)
unfolding track_of
track_up d row = record { up = refl }

route_up : (d : StationDraft) (row : List (List ℕ)) → HasChecksInOrder (route_of d row)
unfolding route_of
route_up d row = record { up = refl }

permit_up : (d : StationDraft) (row : List (List ℕ)) → HasChecksInOrder (permit_of d row)
unfolding permit_of
permit_up d row = record { up = refl }

cost_up : (d : StationDraft) (row : List (List ℕ)) → HasChecksInOrder (cost_of d row)
unfolding cost_of
cost_up d row = record { up = refl }

later_up : (d : StationDraft) (row : List (List ℕ)) → HasChecksInOrder (later_of d row)
unfolding later_of
later_up d row =
    in_if (is_word row (codes "type")) (type_up d row)
    (in_if (is_word row (codes "platform")) (platform_up d row)
    (in_if (is_word row (codes "track")) (track_up d row)
    (in_if (is_word row (codes "route")) (route_up d row)
    (in_if (is_word row (codes "cost")) (cost_up d row)
    (in_if (d.version == 2 && is_word row (codes "permit")) (permit_up d row) (no_word_up d))))))

pub station_tells : (rows : List (List (List ℕ))) → Tells station_format rows
unfolding first_of
station_tells rows = tells station_format (record { first = λ row. record { up = refl }; later = later_up }) rows
