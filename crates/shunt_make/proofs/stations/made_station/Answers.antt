use Rattle.std.proofs.Common.{◌∙◌}
use Rattle.shunt_make.proofs.Built.{few_tracks, station_is, station_state}
use Rattle.shunt_make.proofs.stations.made_station.Goals as goal

pub made_ways-requires : goal.made_ways-requires
made_ways-requires c = few_tracks c.args.draws.now.state c.args.units c.deref.result.now c.requires (c.deref.ensures.value ∙ c.in_ok-tracks.ensures.made)

pub returns-clause-made : goal.returns-clause-made
returns-clause-made c =
    station_is c.args.draws.now.state c.args.units c.made_tracks.new.draws.state c.in_ok-new.field-0 c.from_vec.result c.from_vec-2.result c.from_vec-3.result c.deref.result.now
    c.deref-2.result.now c.from_vec-4.result c.from_vec-5.result
    c.in_ok-new.ensures (c.from_vec.ensures ∙ c.in_ok-made_types.ensures) (c.from_vec-2.ensures ∙ c.in_ok-made_platforms.ensures)
    (c.from_vec-3.ensures ∙ c.in_ok-tracks.ensures.made)
    (c.deref.ensures.value ∙ c.in_ok-tracks.ensures.made) c.in_ok-tracks.ensures.state (c.deref-2.ensures.value ∙ c.in_ok-ways.ensures)
    (c.from_vec-4.ensures ∙ c.in_ok-routes.ensures.made) (c.from_vec-5.ensures ∙ c.new-2.ensures.items)

pub returns-clause-state : goal.returns-clause-state
returns-clause-state c =
    station_state c.args.draws.now.state c.args.units c.made_tracks.new.draws.state c.made_routes.new.draws.state c.deref.result.now c.deref-2.result.now
    (c.deref.ensures.value ∙ c.in_ok-tracks.ensures.made) c.in_ok-tracks.ensures.state (c.deref-2.ensures.value ∙ c.in_ok-ways.ensures) c.in_ok-routes.ensures.state
