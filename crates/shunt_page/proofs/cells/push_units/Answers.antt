use Rattle.std.proofs.Common.{◌∙◌}
use Rattle.shunt_page.specs.defs.Cells.{unit_item}
use Rattle.shunt_picture.proofs.Drawn.{one_entry}
use Rattle.shunt_page.proofs.cells.push_units.Goals as goal

pub loop-i-preserved : goal.loop-i-preserved
loop-i-preserved c = one_entry unit_item c.args.units.now c.loop-i.i c.index-units-i.result _ c.loop-i.text c.push_unit_item.new.text c.loop-i-test.true c.index-units-i.is
    c.in_ok-push_unit_item.ensures ∙ c.loop-i.invariant
