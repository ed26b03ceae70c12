use Rattle.shunt_instance.specs.defs.Matching.{unit_entries, position_entries}
use Rattle.shunt_instance.proofs.Facts.{units_rise, positions_rise}
use Rattle.shunt_matching.proofs.Decided.{fit_exists, one_exists, none_matches, only_one}
use Rattle.shunt_matching.proofs.night.first_shortage.Goals as goal
use Rattle.shunt_instance.proofs.Orders.{opened}

pub returns-clause-none : goal.returns-clause-none
returns-clause-none c = let night = c.args.instance.now in
    one_exists (unit_entries night) (position_entries night) c.args.um.now c.args.vm.now c.judged.result
    (units_rise night (opened night c.station-station.ensures.formed)) (positions_rise night (opened night c.station-station.ensures.formed)) c.judged.ensures.none

pub returns-clause-first_fit : goal.returns-clause-first_fit
returns-clause-first_fit c = let night = c.args.instance.now in
    fit_exists (unit_entries night) (position_entries night) c.args.um.now c.args.vm.now c.judged.result
    (units_rise night (opened night c.station-station.ensures.formed)) (positions_rise night (opened night c.station-station.ensures.formed)) c.judged.ensures.none

pub returns-clause-some : goal.returns-clause-some
returns-clause-some c = let night = c.args.instance.now in
    none_matches (unit_entries night) (position_entries night) c.args.um.now c.args.vm.now c.judged.result c.judged.ensures.some

pub returns-clause-only : goal.returns-clause-only
returns-clause-only c = let night = c.args.instance.now in
    only_one (unit_entries night) (position_entries night) c.args.um.now c.args.vm.now c.judged.result c.judged.ensures.none c.judged.ensures.some
