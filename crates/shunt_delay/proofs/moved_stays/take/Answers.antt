use Rattle.std.proofs.Common.{◌↔◌, List, refl, subst, arith}
use Rattle.std.proofs.lemmas.List.{take_all}
use Rattle.shunt_lists.specs.defs.Members.{In}
use Rattle.shunt_base.specs.declared.keys.Stay.{Stay}
use Rattle.shunt_delay.specs.defs.Kept.{IsApart}
use Rattle.shunt_delay.proofs.Moved.{removed, gone_next}
use Rattle.shunt_delay.proofs.moved_stays.take.Goals as goal

pub loop-stay-preserved : goal.loop-stay-preserved
loop-stay-preserved c = gone_next c.args.own.now c.loop-stay.stay-index c.args.timelines.now c.loop-stay.timelines c.remove.new.self _ _ c.loop-stay.invariant
    c.loop-stay-test.true refl
    (removed _ c.remove.result c.loop-stay.timelines c.remove.new.self c.remove.ensures.some c.remove.ensures.none c.remove.ensures.gone c.remove.ensures.count
    c.remove.ensures.unchanged) c.remove.ensures.lengths

pub returns-clause-members : goal.returns-clause-members
returns-clause-members c = subst (λ (own : List Stay). (s : Stay) → In s c.loop-stay.timelines.stays ↔ In s c.args.timelines.now.stays × IsApart own s)
    (take_all c.loop-stay.stay-index c.args.own.now (omega (arith, c.loop-stay-test.false))) c.loop-stay.invariant.members
