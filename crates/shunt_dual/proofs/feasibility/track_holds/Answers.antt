use mir.Syntax.{w64}
use mir.Val.{to_z, of_z}
use Rattle.std.specs.Prelude.{IsTrue, ◌↔◌, false}
use Rattle.std.proofs.Common.{ℤ, ◌≤◌, subst, arith}
use Rattle.std.proofs.lemmas.Int.{to_z-of_z}
use Rattle.shunt_base.specs.declared.ids.Side.TheVariants.{A}
use Rattle.shunt_blocks.specs.defs.Stays.{shape_length}
use Rattle.shunt_prices.specs.defs.Prices.{track_length}
use Rattle.shunt_dual.specs.defs.Weighed.{SideHolds, TrackHolds}
use Rattle.shunt_dual.proofs.Holds.{from_track, track_is}
use Rattle.shunt_dual.proofs.feasibility.track_holds.Goals as goal
use Rattle.shunt_lists.proofs.Tests.{refutes as failed}

pub returns-then-not-side_holds : goal.returns-then-not-side_holds
returns-then-not-side_holds c =
    let x = to_z w64 (of_z w64 c.args.sum) in
    let le : shape_length c.args.instance.now c.args.shape ≤ track_length c.args.instance.now c.args.track.0 = omega (arith, c.requires.long, c.room.ensures.exact) in
    subst (λ (z : ℤ). IsTrue false ↔ TrackHolds c.args.asked c.args.instance.now c.args.shape z c.args.part c.args.track) (to_z-of_z w64 c.args.sum c.ranges.sum)
    (failed (SideHolds c.args.asked c.args.instance.now c.args.shape x c.args.part c.args.track A)
    (TrackHolds c.args.asked c.args.instance.now c.args.shape x c.args.part c.args.track) c.side_holds.result c.side_holds.ensures c.if-not-side_holds.true
    (λ h. from_track c.args.asked c.args.instance.now c.args.shape x c.args.part c.args.track h le A))

pub returns : goal.returns
returns c =
    let le : shape_length c.args.instance.now c.args.shape ≤ track_length c.args.instance.now c.args.track.0 = omega (arith, c.requires.long, c.room.ensures.exact) in
    subst (λ (z : ℤ). IsTrue c.side_holds-2.result ↔ TrackHolds c.args.asked c.args.instance.now c.args.shape z c.args.part c.args.track) (to_z-of_z w64 c.args.sum c.ranges.sum)
    (track_is c.args.asked c.args.instance.now c.args.shape _ c.args.part c.args.track c.side_holds.result c.side_holds-2.result c.side_holds.ensures c.if-not-side_holds.false
    c.side_holds-2.ensures le)
