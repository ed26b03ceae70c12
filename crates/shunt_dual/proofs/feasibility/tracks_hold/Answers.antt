use mir.Syntax.{w64}
use mir.Val.{to_z, of_z}
use Rattle.std.specs.Prelude.{IsTrue, ◌↔◌, false}
use Rattle.std.proofs.Common.{ℕ, ℤ, ◌≡◌, length, get_or, subst, ap, ◌∙◌, refl, arith}
use Rattle.std.proofs.lemmas.Int.{to_z-of_z}
use Rattle.shunt_instance.specs.declared.records.Station.{Station}
use Rattle.shunt_dual.specs.defs.Weighed.{TrackHolds, TracksHold}
use Rattle.shunt_dual.proofs.Holds.{one_track, more_tracks, no_tracks}
use Rattle.shunt_dual.proofs.feasibility.tracks_hold.Goals as goal
use Rattle.shunt_lists.proofs.Tests.{refutes as failed}

pub loop-t-init : goal.loop-t-init
loop-t-init c = no_tracks _ _ _ _ _

pub loop-t-preserved : goal.loop-t-preserved
loop-t-preserved c =
    more_tracks c.args.asked c.args.instance.now c.args.prices.now c.args.shape (to_z w64 (of_z w64 c.args.sum)) c.loop-t.t c.charges-charges.result c.charges-charges.ensures.exact
    (omega (arith, c.loop-t-test.true, c.len-t-end.ensures, c.station.ensures.station.few_tracks)) c.loop-t.invariant (c.track_holds.ensures.0 c.if-not-track_holds.false)

pub returns-then-not-track_holds : goal.returns-then-not-track_holds
returns-then-not-track_holds c =
    let x = to_z w64 (of_z w64 c.args.sum) in
    let tracks = length c.args.instance.now.station.tracks in
    let len : c.len-t-end.result ≡ length c.args.instance.now.station.tracks = c.len-t-end.ensures ∙ ap (λ (s : Station). length s.tracks) c.station.ensures.exact in
    subst (λ (z : ℤ). IsTrue false ↔ TracksHold c.args.asked c.args.instance.now c.args.prices.now c.args.shape z tracks) (to_z-of_z w64 c.args.sum c.ranges.sum)
    (failed (TrackHolds c.args.asked c.args.instance.now c.args.shape x (get_or c.charges-charges.result c.loop-t.t 0) (record { 0 = c.loop-t.t }))
    (TracksHold c.args.asked c.args.instance.now c.args.prices.now c.args.shape x tracks)
    c.track_holds.result c.track_holds.ensures c.if-not-track_holds.true
    (one_track c.args.asked c.args.instance.now c.args.prices.now c.args.shape x c.loop-t.t c.charges-charges.result c.charges-charges.ensures.exact
    (omega (arith, c.loop-t-test.true, c.len-t-end.ensures, c.station.ensures.station.few_tracks)) tracks (omega (arith, c.loop-t-test.true, len))))

pub returns : goal.returns
returns c =
    let tracks = length c.args.instance.now.station.tracks in
    let len : c.len-t-end.result ≡ length c.args.instance.now.station.tracks = c.len-t-end.ensures ∙ ap (λ (s : Station). length s.tracks) c.station.ensures.exact in
    let end : c.loop-t.t ≡ length c.args.instance.now.station.tracks = omega (arith, c.loop-t-test.false, c.loop-t.auto.t-end, len) in (
      λ t. subst (λ (z : ℤ). TracksHold c.args.asked c.args.instance.now c.args.prices.now c.args.shape z tracks) (to_z-of_z w64 c.args.sum c.ranges.sum)
          (subst (λ (n : ℕ). TracksHold c.args.asked c.args.instance.now c.args.prices.now c.args.shape (to_z w64 (of_z w64 c.args.sum)) n) end c.loop-t.invariant),
      λ h. refl,
    )
