use Rattle.std.proofs.Common.{◌≢◌, ◌⊎◌, ◌↔◌, ◌<◌, List, ◌∷◌, length, map, refl, sym, subst, arith, IsPermutation}
use Rattle.std.specs.Prelude.{All}
use Rattle.std.proofs.lemmas.List.{take_all}
use Rattle.shunt_lists.specs.defs.Members.{In}
use Rattle.shunt_base.specs.declared.keys.Stay.{Stay}
use Rattle.shunt_base.specs.defs.Keys.{IsWellFormed}
use Rattle.shunt_delay.specs.defs.Kept.{later}
use Rattle.shunt_delay.proofs.Moved.{begins, comes_formed, comes_track, comes_new, come_next}
use Rattle.shunt_delay.proofs.moved_stays.put.Goals as goal

pub later-requires-clause-begins : goal.later-requires-clause-begins
later-requires-clause-begins c = begins c.args.own.now c.args.minutes c.loop-stay.stay-index c.args.timelines.now c.loop-stay.timelines _ _ c.requires c.loop-stay.invariant
    c.loop-stay-test.true refl

pub insert-requires-clause-formed : goal.insert-requires-clause-formed
insert-requires-clause-formed c = subst IsWellFormed (sym c.later.ensures) (comes_formed c.args.own.now c.args.minutes c.loop-stay.stay-index c.args.timelines.now
    c.loop-stay.timelines _ _ c.requires c.loop-stay.invariant c.loop-stay-test.true refl)

pub insert-requires-clause-track : goal.insert-requires-clause-track
insert-requires-clause-track c = subst (λ (s : Stay). s.track.0 < length c.loop-stay.timelines.lengths) (sym c.later.ensures)
    (comes_track c.args.own.now c.args.minutes c.loop-stay.stay-index c.args.timelines.now c.loop-stay.timelines _ _ c.requires c.loop-stay.invariant c.loop-stay-test.true refl)

pub insert-requires-clause-new : goal.insert-requires-clause-new
insert-requires-clause-new c = subst (λ (x : Stay). All (λ s. s.id ≢ x.id) c.loop-stay.timelines.stays) (sym c.later.ensures)
    (comes_new c.args.own.now c.args.minutes c.loop-stay.stay-index c.args.timelines.now c.loop-stay.timelines _ _ c.requires c.loop-stay.invariant c.loop-stay-test.true refl)

pub loop-stay-preserved : goal.loop-stay-preserved
loop-stay-preserved c = come_next c.args.own.now c.args.minutes c.loop-stay.stay-index c.args.timelines.now c.loop-stay.timelines _ _ c.requires c.loop-stay.invariant
    c.loop-stay-test.true refl c.insert.new.self
    (subst (λ (s : Stay). IsPermutation (s ∷ c.loop-stay.timelines.stays) c.insert.new.self.stays) c.later.ensures c.insert.ensures.stays) c.insert.ensures.count
    c.insert.ensures.lengths c.insert.ensures.spare

pub returns-clause-members : goal.returns-clause-members
returns-clause-members c = subst (λ (own : List Stay). (s : Stay) → In s c.loop-stay.timelines.stays ↔ In s (map (later c.args.minutes) own) ⊎ In s c.args.timelines.now.stays)
    (take_all c.loop-stay.stay-index c.args.own.now (omega (arith, c.loop-stay-test.false))) c.loop-stay.invariant.members
