use mir.Syntax.{w64}
use mir.Val.{to_z, of_z}
use Rattle.std.proofs.Common.{◌≡◌, ℕ, sym, subst, arith}
use Rattle.std.proofs.lemmas.Int.{ints}
use Rattle.shunt_prices.specs.defs.Sums.{IsWithin}
use Rattle.shunt_stacks.specs.defs.Bounds.{IsChoiceSum}
use Rattle.shunt_fillings.specs.defs.Prospects.{IsOutlook, AreSums}
use Rattle.shunt_fillings.proofs.Summed.{one_sum_more}
use Rattle.shunt_fillings.proofs.choices.choice_sums.Goals as goal

pub choice_sum-requires-clause-outlook : goal.choice_sum-requires-clause-outlook
choice_sum-requires-clause-outlook c =
    let s = c.args.scene.now in
    subst (IsOutlook s.instance.now s.path.now.blocks c.args.cases.now c.loop-k.k) (sym c.index-outlooks-k.is)
    (c.requires.outlooks.each c.loop-k.k c.index-outlooks-k.result (omega (arith, c.loop-k-test.true, c.len-k-end.ensures.value)))

pub loop-k-preserved : goal.loop-k-preserved
loop-k-preserved c =
    let s = c.args.scene.now in
    let P = IsChoiceSum s.instance.now s.path.now.blocks c.args.block.now c.args.cases.now in
    let is = c.in_ok-sum.ensures in
    let own : to_z w64 (of_z w64 c.in_ok-sum.sum) ≡ c.in_ok-sum.sum = omega (arith, ints, is.small.low, is.small.high) in
    one_sum_more P c.loop-k.k c.loop-k.sums.items c.push.new.self.items (to_z w64 (of_z w64 c.in_ok-sum.sum)) c.in_ok-push.ensures.items c.loop-k.invariant
    (subst (P c.loop-k.k) (sym own) is.exact) (subst (IsWithin 4100000000000000000) (sym own) is.small)

pub returns : goal.returns
returns c =
    let s = c.args.scene.now in
    subst (λ (n : ℕ). AreSums (IsChoiceSum s.instance.now s.path.now.blocks c.args.block.now c.args.cases.now) n c.loop-k.sums.items)
    (omega (arith, c.loop-k-test.false, c.len-k-end.ensures.value, c.loop-k.auto.k-end)) c.loop-k.invariant
