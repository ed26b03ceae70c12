use mir.Syntax.{w64}
use mir.Val.{to_z, of_z}
use Rattle.std.proofs.Common.{◌≡◌, sym, subst, arith}
use Rattle.std.proofs.lemmas.Int.{ints}
use Rattle.shunt_stacks.specs.defs.Bounds.{IsStackSum}
use Rattle.shunt_fillings.proofs.sums.stack_sum.Goals as goal

pub returns-clause-exact : goal.returns-clause-exact
returns-clause-exact c =
    let is = c.in_ok-outlook.ensures in
    let sum = c.in_ok-outlook.outlook.sum in
    let small = is.small in
    let own : to_z w64 (of_z w64 sum) ≡ sum = omega (arith, ints, small.low, small.high) in
    subst (IsStackSum c.args.scene.now.instance.now c.args.scene.now.path.now.blocks c.args.cases.now c.args.k) (sym own) is.sum

pub returns-clause-small : goal.returns-clause-small
returns-clause-small c =
    let small = c.in_ok-outlook.ensures.small in
    record { low = omega (arith, ints, small.low, small.high); high = omega (arith, ints, small.low, small.high) }
