use Rattle.std.proofs.Common.{◌∙◌, arith}
use Rattle.std.proofs.lemmas.List.{take_all}
use Rattle.shunt_drivers.proofs.Fewest.{least, turn}
use Rattle.shunt_drivers.proofs.shares.share_spans.Goals as goal

pub loop-span-preserved : goal.loop-span-preserved
loop-span-preserved c =
    let next = turn c.args.spans.now c.loop-span.span-index _ c.loop-span.shares.items c.add_share.new.shares.items c.loop-span.free.items c.add_share.new.free.items
    c.loop-span.busy c.busy_after-busy.result c.in_ok-new.new c.requires.rise c.requires.run
    c.loop-span-test.true c.loop-span.invariant.shared c.loop-span.invariant.greedy c.in_ok-new.ensures c.busy_after-busy.ensures in
    record { shared = next.0; greedy = next.1 }

pub returns : goal.returns
returns c =
    least c.args.spans.now c.loop-span.shares.items c.loop-span.free.items c.len.result c.loop-span.busy _ c.loop-span.invariant.greedy
    (c.loop-span.invariant.shared ∙ take_all c.loop-span.span-index c.args.spans.now (omega (arith, c.loop-span-test.false))) (c.len.ensures ∙ c.loop-span.free.ok.0)
