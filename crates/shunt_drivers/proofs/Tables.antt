-- The tables of the crew file and of the roster stand in order.
use Rattle.std.proofs.Common.{ℕ, List, refl}
use Rattle.std.specs.Prelude.{codes}
use Rattle.shunt_rows.specs.defs.Fields.{is_word}
use Rattle.shunt_rows.specs.defs.FirstFault.{HasChecksInOrder, Tells}
use Rattle.shunt_rows.proofs.InOrder.{in_if, no_word_up}
use Rattle.shunt_rows.proofs.Readings.{tells}
use Rattle.shunt_instance.specs.declared.records.Station.{Station}
use Rattle.shunt_tracks.specs.declared.run.Event.{Event}
use Rattle.shunt_zones.specs.defs.ZonesFormat.{way_in}
use Rattle.shunt_drivers.specs.declared.records.Duty.{Duty}
use Rattle.shunt_drivers.specs.defs.CrewFormat.{CrewDraft, first_of, takes_in, takes_of, else_of, later_of, crew_format}
use Rattle.shunt_drivers.specs.defs.RosterFormat.{driver_in, move_in, duty_of, roster_first, duties_of, roster_later, roster_format}

takes_up : (s : Station) (d : CrewDraft) (row : List (List ℕ)) → HasChecksInOrder (takes_of s d row)
unfolding takes_of way_in takes_in
takes_up s d row = record { up = refl }

else_up : (d : CrewDraft) (row : List (List ℕ)) → HasChecksInOrder (else_of d row)
unfolding else_of
else_up d row = record { up = refl }

later_up : (s : Station) (d : CrewDraft) (row : List (List ℕ)) → HasChecksInOrder (later_of s d row)
unfolding later_of
later_up s d row = in_if (is_word row (codes "takes")) (takes_up s d row) (in_if (is_word row (codes "else")) (else_up d row) (no_word_up d))

pub crews_tell : (s : Station) (rows : List (List (List ℕ))) → Tells (crew_format s) rows
unfolding first_of
crews_tell s rows = tells (crew_format s) (record { first = λ row. record { up = refl }; later = later_up s }) rows

duties_up : (moves : List Event) (duties : List Duty) (row : List (List ℕ)) → HasChecksInOrder (duties_of moves duties row)
unfolding duties_of duty_of driver_in move_in
duties_up moves duties row = record { up = refl }

roster_later_up : (moves : List Event) (duties : List Duty) (row : List (List ℕ)) → HasChecksInOrder (roster_later moves duties row)
unfolding roster_later
roster_later_up moves duties row = in_if (is_word row (codes "duty")) (duties_up moves duties row) (no_word_up duties)

pub rosters_tell : (moves : List Event) (rows : List (List (List ℕ))) → Tells (roster_format moves) rows
unfolding roster_first
rosters_tell moves rows = tells (roster_format moves) (record { first = λ row. record { up = refl }; later = roster_later_up moves }) rows
