-- The tables of a timetable stand in order.
use Rattle.std.proofs.Common.{ℕ, zero, suc, ◌+◌, ◌*◌, ◌-◌, ◌≤◌, ◌&&◌, Bool, true, false, List, [], ◌++◌, length, refl, arith}
use Rattle.std.specs.Prelude.{codes, ◌==◌, length, if◌then◌else◌}
use Rattle.shunt_rows.specs.defs.Fields.{is_word, named_in}
use Rattle.shunt_instance.specs.defs.Words.{unit_count, train_at}
use Rattle.shunt_rows.specs.defs.FirstFault.{HasChecksInOrder, Tells}
use Rattle.shunt_instance.specs.declared.records.Station.{Station}
use Rattle.shunt_instance.specs.declared.records.Train.{Train}
use Rattle.shunt_rows.proofs.InOrder.{in_if, no_word_up, Ascends, none_left, one_before, whole_up}
use Rattle.shunt_rows.proofs.Readings.{tells}
use Rattle.shunt_timetable.specs.defs.TimetableFormat.{Listed, first_of, unit_of, units_from, standing_of, moving_of, stand_of, arrive_of, depart_of, units_in, no_end, parked_end, end_in, placed_of, may_stand, later_of, timetable_format}

units_up : (station : Station) (before : ℕ) (t : Train) (row : List (List ℕ)) (k more least : ℕ) → least ≤ 12 * k + 6
    → Ascends least (units_from station before t row k more).checks
unfolding units_from unit_of
units_up station before t row k zero least le = none_left
units_up station before t row k (suc more) least le =
    one_before le (one_before (omega arith) (units_up station before (unit_of station before t row k).value row (k + 1) more (12 * k + 8) (omega arith)))

standing_up : (station : Station) (trains : List Train) (row : List (List ℕ)) → Ascends 13 (standing_of station trains row).checks
unfolding standing_of
standing_up station trains row = record { up = (units_up station (unit_count trains) _ row 4 (length row - 3) 42 (omega arith)).up }

moving_up : (station : Station) (trains : List Train) (row : List (List ℕ)) → Ascends 13 (moving_of station trains row).checks
unfolding moving_of
moving_up station trains row = record { up = (units_up station (unit_count trains) _ row 5 (length row - 4) 54 (omega arith)).up }

stand_up : (station : Station) (s : Listed) (row : List (List ℕ)) → HasChecksInOrder (stand_of station s row)
unfolding stand_of
stand_up station s row = record { up = (whole_up 13 (standing_of station s.arrive row).checks (standing_up station s.arrive row)).up }

arrive_up : (station : Station) (s : Listed) (row : List (List ℕ)) → HasChecksInOrder (arrive_of station s row)
unfolding arrive_of
arrive_up station s row = record { up = (whole_up 13 (moving_of station s.arrive row).checks (moving_up station s.arrive row)).up }

depart_up : (station : Station) (s : Listed) (row : List (List ℕ)) → HasChecksInOrder (depart_of station s row)
unfolding depart_of
depart_up station s row = record { up = (whole_up 13 (moving_of station s.depart row).checks (moving_up station s.depart row)).up }

end_up : (station : Station) (t : Train) (row : List (List ℕ)) → Ascends 56 ((end_in station t row).checks ++ [])
unfolding end_in no_end parked_end
end_up station t row = by (length row == 5)
  where
    by : (b : Bool) → Ascends 56 ((if b then no_end row else parked_end station t row).checks ++ [])
    by true = record { up = refl }
    by false = record { up = refl }

placed_up : (station : Station) (s : Listed) (row : List (List ℕ)) → HasChecksInOrder (placed_of station s row)
unfolding placed_of units_in
placed_up station s row = record { up = (end_up station (train_at s.arrive (named_in (λ t. t.name) s.arrive row 2).value) row).up }

later_up : (station : Station) (s : Listed) (row : List (List ℕ)) → HasChecksInOrder (later_of station s row)
unfolding later_of
later_up station s row = in_if (is_word row (codes "arrive")) (arrive_up station s row)
    (in_if (is_word row (codes "depart")) (depart_up station s row)
    (in_if (may_stand s && is_word row (codes "stand")) (stand_up station s row)
    (in_if (s.version == 3 && is_word row (codes "placed")) (placed_up station s row) (no_word_up s))))

pub timetables_tell : (station : Station) (rows : List (List (List ℕ))) → Tells (timetable_format station) rows
unfolding first_of
timetables_tell station rows = tells (timetable_format station) (record { first = λ row. record { up = refl }; later = later_up station }) rows
