use mir.Syntax.{w64}
use mir.Val.{to_z, of_z}
use Rattle.std.proofs.Common.{◌≡◌, ℕ, sym, subst, arith}
use Rattle.std.proofs.lemmas.Int.{ints}
use Rattle.shunt_prices.specs.defs.Sums.{IsWithin}
use Rattle.shunt_stacks.specs.defs.Bounds.{IsStackSum}
use Rattle.shunt_fillings.specs.defs.Prospects.{AreSums}
use Rattle.shunt_fillings.proofs.Summed.{one_sum_more}
use Rattle.shunt_fillings.proofs.sums.stack_sums.Goals as goal

pub loop-k-preserved : goal.loop-k-preserved
loop-k-preserved c =
    let night = c.args.scene.now.instance.now in
    let path = c.args.scene.now.path.now.blocks in
    let cases = c.args.cases.now in
    let is = c.in_ok-sum.ensures in
    let own : to_z w64 (of_z w64 c.in_ok-sum.sum) ≡ c.in_ok-sum.sum = omega (arith, ints, is.small.low, is.small.high) in
    one_sum_more (IsStackSum night path cases) c.loop-k.k c.loop-k.sums.items c.push.new.self.items
    (to_z w64 (of_z w64 c.in_ok-sum.sum)) c.in_ok-push.ensures.items c.loop-k.invariant
    (subst (IsStackSum night path cases c.loop-k.k) (sym own) is.exact) (subst (IsWithin 4100000000000000000) (sym own) is.small)

pub returns : goal.returns
returns c =
    subst (λ (n : ℕ). AreSums (IsStackSum c.args.scene.now.instance.now c.args.scene.now.path.now.blocks c.args.cases.now) n c.loop-k.sums.items)
    (omega (arith, c.loop-k-test.false, c.len-k-end.ensures.value, c.loop-k.auto.k-end)) c.loop-k.invariant
