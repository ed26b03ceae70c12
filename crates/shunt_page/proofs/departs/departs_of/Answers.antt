use Rattle.shunt_page.specs.defs.Departs.{depart_of}
use Rattle.shunt_picture.proofs.Ranges.{pushed_next}
use Rattle.shunt_page.proofs.departs.departs_of.Goals as goal

pub loop-d-preserved : goal.loop-d-preserved
loop-d-preserved c = pushed_next (depart_of c.args.instance.now c.args.blocks.now) c.loop-d.d c.loop-d.rows.items c.push.new.self.items c.in_ok-row.row c.in_ok-row.ensures
    c.loop-d.invariant c.in_ok-push.ensures.items
