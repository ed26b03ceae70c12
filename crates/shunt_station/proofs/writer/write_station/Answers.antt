use Rattle.std.proofs.Common.{List, ℕ, ◌≤◌, length, sym, subst, ◌∙◌}
use Rattle.shunt_rows.proofs.Texts.{if_ok}
use Rattle.shunt_station.proofs.RoundTrip.{back_from}
use Rattle.shunt_station.proofs.Lengths.{station_short, station_written}
use Rattle.shunt_station.proofs.writer.write_station.Goals as goal

pub returns-clause-text : goal.returns-clause-text
returns-clause-text c =
    let text = station_written c.args.station.now _ _ _ _ _ _ _ _ _ _ _ c.as_slice.ensures c.as_slice-2.ensures c.as_slice-3.ensures c.in_ok-writer.ensures
    c.in_ok-write_head.ensures c.in_ok-write_types.ensures c.in_ok-write_platforms.ensures c.in_ok-write_tracks.ensures c.in_ok-write_routes.ensures
    c.in_ok-write_permits.ensures c.in_ok-write_costs.ensures in
    if_ok c.finish.result _ _ c.finish.ensures.text (λ v p. p ∙ text)

pub returns-clause-again : goal.returns-clause-again
returns-clause-again c =
    let text = station_written c.args.station.now _ _ _ _ _ _ _ _ _ _ _ c.as_slice.ensures c.as_slice-2.ensures c.as_slice-3.ensures c.in_ok-writer.ensures
    c.in_ok-write_head.ensures c.in_ok-write_types.ensures c.in_ok-write_platforms.ensures c.in_ok-write_tracks.ensures c.in_ok-write_routes.ensures
    c.in_ok-write_permits.ensures c.in_ok-write_costs.ensures in
    if_ok c.finish.result _ _ c.finish.ensures.again (λ v p. back_from c.args.station.now c.requires _ v.items text p)

pub returns-clause-short : goal.returns-clause-short
returns-clause-short c =
    let text = station_written c.args.station.now _ _ _ _ _ _ _ _ _ _ _ c.as_slice.ensures c.as_slice-2.ensures c.as_slice-3.ensures c.in_ok-writer.ensures
    c.in_ok-write_head.ensures c.in_ok-write_types.ensures c.in_ok-write_platforms.ensures c.in_ok-write_tracks.ensures c.in_ok-write_routes.ensures
    c.in_ok-write_permits.ensures c.in_ok-write_costs.ensures in
    if_ok c.finish.result _ _ c.finish.ensures.text (λ v p. subst (λ (t : List ℕ). length t ≤ 282436) (sym (p ∙ text)) (station_short c.args.station.now c.requires))
