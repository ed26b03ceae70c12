use Rattle.std.proofs.Common.{ℕ, subst, arith}
use Rattle.shunt_fillings.specs.defs.Prospects.{AreOutlooks}
use Rattle.shunt_fillings.proofs.Summed.{one_outlook_more}
use Rattle.shunt_fillings.proofs.prospects.outlooks.Goals as goal

pub loop-k-preserved : goal.loop-k-preserved
loop-k-preserved c =
    one_outlook_more c.args.scene.now.instance.now c.args.scene.now.path.now.blocks c.args.cases.now c.loop-k.k c.loop-k.all.items c.push.new.self.items c.in_ok-outlook_of.field-0
    c.in_ok-push.ensures.items c.loop-k.invariant c.in_ok-outlook_of.ensures

pub returns : goal.returns
returns c =
    subst (λ (n : ℕ). AreOutlooks c.args.scene.now.instance.now c.args.scene.now.path.now.blocks c.args.cases.now n c.loop-k.all.items)
    (omega (arith, c.loop-k-test.false, c.len-k-end.ensures.value, c.loop-k.auto.k-end)) c.loop-k.invariant
