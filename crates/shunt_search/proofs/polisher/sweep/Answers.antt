use Rattle.std.proofs.Common.{inl, inr}
use Rattle.shunt_search.proofs.Swept.{step}
use Rattle.shunt_search.proofs.polisher.sweep.Goals.{then-improve_free, else-improve_free}
use Rattle.shunt_search.proofs.polisher.sweep.Goals as goal

pub loop-place-preserved : goal.loop-place-preserved
loop-place-preserved c =
    let e = c.improve_free.ensures in
    step c.args.instance.now c.args.pins.now c.loop-place.place c.args.blocks.now c.loop-place.blocks c.improve_free.new.blocks c.loop-place.timelines c.improve_free.new.timelines
    c.loop-place.changed c.loop-place.invariant
    e.feasible e.stand e.room e.shapes e.keeps c.improve_free.result c.if-improve_free.changed e.cheaper e.same e.least
    (elim c.if-improve_free.branch [
      | then-improve_free w ↦ inl (w.if-improve_free.true, w.changed-is)
      | else-improve_free w ↦ inr (w.if-improve_free.false, w.changed-is)
    ])
