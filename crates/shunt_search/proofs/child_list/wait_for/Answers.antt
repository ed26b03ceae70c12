use Rattle.std.proofs.Common.{arith}
use Rattle.shunt_search.proofs.WaitingChildren.{adds_first, adds_more, adds_all}
use Rattle.shunt_search.proofs.child_list.wait_for.Goals as goal

pub loop-child-init : goal.loop-child-init
loop-child-init c = adds_first c.args.parent c.args.cases c.args.waiting.now.items

pub loop-child-preserved : goal.loop-child-preserved
loop-child-preserved c = adds_more c.args.children.now c.loop-child.child-index _ c.loop-child-test.true c.args.parent c.args.cases c.args.waiting.now.items
    c.loop-child.waiting.items _ c.pending.result c.in_ok-push.ensures.items c.pending.ensures.child c.pending.ensures.parent c.pending.ensures.cases c.loop-child.invariant

pub returns : goal.returns
returns c = adds_all c.args.children.now c.loop-child.child-index c.args.parent c.args.cases c.args.waiting.now.items c.loop-child.waiting.items
    (omega (arith, c.loop-child-test.false)) c.loop-child.invariant
