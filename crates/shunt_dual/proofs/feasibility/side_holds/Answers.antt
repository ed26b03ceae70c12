use mir.Syntax.{w64}
use Rattle.std.specs.Prelude.{IsTrue, ◌↔◌}
use Rattle.std.proofs.Common.{ℤ, subst}
use Rattle.std.proofs.lemmas.Int.{to_z-of_z}
use Rattle.shunt_dual.specs.defs.Weighed.{SideHolds}
use Rattle.shunt_dual.proofs.Holds.{side_is}
use Rattle.shunt_dual.proofs.feasibility.side_holds.Goals as goal

pub returns : goal.returns
returns c =
    subst (λ (z : ℤ). IsTrue c.park_holds-2.result ↔ SideHolds c.args.asked c.args.instance.now c.args.shape z c.args.part c.args.track c.args.side_in)
    (to_z-of_z w64 c.args.sum c.ranges.sum)
    (side_is c.args.asked c.args.instance.now c.args.shape _ c.args.part c.args.track c.args.side_in c.park_holds.result c.park_holds-2.result c.park_holds.ensures
    c.if-not-park_holds.false c.park_holds-2.ensures)
