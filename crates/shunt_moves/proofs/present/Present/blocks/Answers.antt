use Rattle.std.proofs.Common.{sym, subst}
use Rattle.shunt_blocks.specs.defs.Lists.{AreInRange}
use Rattle.shunt_moves.specs.defs.Kept.{Standing}
use Rattle.shunt_moves.proofs.Ready.{all_in_range}
use Rattle.shunt_moves.proofs.present.Present.blocks.Goals as goal

pub returns-clause-in_range : goal.returns-clause-in_range
returns-clause-in_range c =
    subst (λ (p : Standing). AreInRange p.night c.deref.result.now) c.self.view_is
    (subst (AreInRange c.self.inside.instance.now) (sym c.deref.ensures.value) (all_in_range c.self.inside.instance.now c.self.inside.blocks.items c.self.inside.timelines
    c.self.inside.units c.self.inside.places c.self.inside.faults c.self.invariant.0))
