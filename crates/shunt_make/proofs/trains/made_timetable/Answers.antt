use Rattle.std.proofs.Common.{◌∙◌}
use Rattle.shunt_make.proofs.Built.{few_arriving, timetable_is}
use Rattle.shunt_make.proofs.trains.made_timetable.Goals as goal

pub departing_trains-requires : goal.departing_trains-requires
departing_trains-requires c = few_arriving c.args.draws.now.state c.args.units c.deref.result.now c.requires (c.deref.ensures.value ∙ c.in_ok-arrive.ensures.made)

pub returns : goal.returns
returns c =
    timetable_is c.args.draws.now.state c.args.units c.arriving_trains.new.draws.state c.from_vec.result c.deref.result.now c.from_vec-2.result
    (c.from_vec.ensures ∙ c.in_ok-arrive.ensures.made) (c.deref.ensures.value ∙ c.in_ok-arrive.ensures.made) c.in_ok-arrive.ensures.state
    (c.from_vec-2.ensures ∙ c.in_ok-depart.ensures)
