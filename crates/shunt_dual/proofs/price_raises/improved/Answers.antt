use mir.Syntax.{w64}
use mir.Val.{to_z, of_z}
use Rattle.std.specs.Prelude.{pos}
use Rattle.std.proofs.Common.{subst, arith}
use Rattle.std.proofs.lemmas.Int.{ints}
use Rattle.shunt_dual.specs.defs.Raises.{IsTriedRaise}
use Rattle.shunt_dual.proofs.Swept.{none_where, not_higher, unimproved}
use Rattle.shunt_dual.proofs.price_raises.improved.Goals as goal
use Rattle.shunt_prices.proofs.Signed.{not_below}

pub returns-in_default : goal.returns-in_default
returns-in_default c =
    let never = subst (IsTriedRaise c.args.instance.now c.args.path.now.blocks 1 c.args.track.0 c.args.train.0 c.args.old) c.in_default.is c.in_ok-step.ensures in
    unimproved c.args.instance.now c.args.path.now.blocks c.args.track.0 c.args.train.0 c.args.old c.requires.good
    (none_where c.args.instance.now c.args.path.now.blocks c.args.track.0 c.args.train.0 c.args.old never)

pub returns : goal.returns
returns c =
    let is = subst (IsTriedRaise c.args.instance.now c.args.path.now.blocks 1 c.args.track.0 c.args.train.0 c.args.old) c.in-Some.is c.in_ok-step.ensures in
    let small = is.small in
    let le = not_below (pos 0) (to_z w64 (of_z w64 c.in-Some.step.gain)) c.if-step-gt0.false in
    unimproved c.args.instance.now c.args.path.now.blocks c.args.track.0 c.args.train.0 c.args.old c.requires.good
    (not_higher c.args.instance.now c.args.path.now.blocks c.args.track.0 c.args.train.0 c.args.old c.in-Some.step.duals c.in-Some.step.gain is
    (omega (arith, ints, le, small.low, small.high)))
