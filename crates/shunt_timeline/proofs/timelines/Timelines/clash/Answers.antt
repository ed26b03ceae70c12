use Rattle.std.proofs.Common.{◌≡◌, ◌↔◌, subst}
use Rattle.shunt_stays.specs.defs.Run.{GoesThrough}
use Rattle.shunt_timeline.specs.defs.Holdings.{Holding}
use Rattle.shunt_timeline.specs.defs.Sound.{lengths_of}
use Rattle.shunt_timeline.proofs.timelines.Timelines.clash.Goals as goal
use Rattle.shunt_cross.proofs.Through.{counts as through}

pub returns-clause-through : goal.returns-clause-through
returns-clause-through c = subst (λ (h : Holding). (c.self.inside.pairs ≡ 0) × (c.self.inside.over ≡ 0) ↔ GoesThrough h.lengths h.stays) c.self.view_is
    (through (lengths_of c.self.inside.tracks.items) c.self.inside.stays.items c.self.inside.pairs c.self.inside.over c.self.invariant.sound.formed c.self.invariant.sound.placed
    c.self.invariant.pairs_are c.self.invariant.over_are)
