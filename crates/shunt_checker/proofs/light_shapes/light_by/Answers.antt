use mir.Syntax.{w64}
use mir.Val.{to_z, of_z}
use Rattle.std.specs.Prelude.{None}
use Rattle.std.proofs.Common.{ℤ, subst}
use Rattle.std.proofs.lemmas.Int.{to_z-of_z}
use Rattle.shunt_choices.specs.defs.Choices.{ParkBefore}
use Rattle.shunt_checker.specs.defs.Firsts.{Finds}
use Rattle.shunt_checker.specs.defs.Lights.{IsLightBy}
use Rattle.shunt_checker.proofs.Parks.{neither}
use Rattle.shunt_checker.proofs.light_shapes.light_by.Goals as goal

pub returns : goal.returns
returns c =
    subst (λ (z : ℤ). Finds (IsLightBy c.args.version c.args.instance.now c.args.shape z c.args.part c.args.track c.args.side_in) ParkBefore None)
    (to_z-of_z w64 c.args.sum c.ranges.sum)
    (neither c.args.version c.args.instance.now c.args.shape (to_z w64 (of_z w64 c.args.sum)) c.args.part c.args.track c.args.side_in c.is_light_park.result
    c.is_light_park-2.result
    c.is_light_park.ensures c.if-is_light_park.false c.is_light_park-2.ensures c.if-is_light_park-2.false)
