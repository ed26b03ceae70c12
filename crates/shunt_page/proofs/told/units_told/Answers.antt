use Rattle.std.proofs.Common.{◌+◌, ap, ◌∙◌}
use Rattle.shunt_page.specs.defs.Told.{unit_told}
use Rattle.shunt_picture.proofs.Ranges.{pushed_next}
use Rattle.shunt_page.proofs.told.units_told.Goals as goal

pub loop-k-preserved : goal.loop-k-preserved
loop-k-preserved c = pushed_next (λ k. unit_told c.args.instance.now (c.unit_from-from.result + k)) c.loop-k.k c.loop-k.units.items c.push.new.self.items c.in_ok-unit.unit
    (c.in_ok-unit.ensures ∙ ap (λ n. unit_told c.args.instance.now (c.unit_from-from.result + n)) c.from.ensures) c.loop-k.invariant c.in_ok-push.ensures.items
