use Rattle.std.proofs.Common.{◌∙◌, ap, sym}
use Rattle.shunt_stays.specs.defs.Run.{empty_tracks}
use Rattle.shunt_sheet.specs.defs.Tracks.{blocks_of}
use Rattle.shunt_sheet.proofs.RoundTrip.{on_tracks}
use Rattle.shunt_sheet.proofs.Runs.{nothing_on}
use Rattle.shunt_sheet.proofs.Turns.{lengths_for}
use Rattle.shunt_sheet.proofs.follower.follow.Goals as goal
use Rattle.shunt_tracks.proofs.Turns.{fit_empty}

pub follow_on-requires-clause-on : goal.follow_on-requires-clause-on
follow_on-requires-clause-on c = lengths_for c.args.station.now c.deref-2.result.now c.args.orders.now.items c.deref-3.result.now c.deref-3.ensures.value
    (c.deref-2.ensures.value ∙ c.in_ok-lengths.ensures) (on_tracks c.args.station.now c.args.orders.now.items c.requires)

pub follow_on-requires-clause-fit : goal.follow_on-requires-clause-fit
follow_on-requires-clause-fit c = fit_empty (λ v. blocks_of v.items) c.deref-2.result.now c.in_ok-tracks.tracks.items
    (c.in_ok-tracks.ensures ∙ ap empty_tracks (c.deref.ensures.value ∙ sym c.deref-2.ensures.value))

pub follow_on-requires-clause-none : goal.follow_on-requires-clause-none
follow_on-requires-clause-none c = nothing_on c.deref.result.now _ c.in_ok-tracks.ensures
