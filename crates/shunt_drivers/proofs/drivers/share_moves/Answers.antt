use Rattle.std.proofs.Common.{◌∙◌, ◌≤◌, List, length, map, sym, subst}
use Rattle.std.specs.Prelude.{All, AllPairs}
use Rattle.shunt_lists.specs.defs.Members.{AreDistinct}
use Rattle.shunt_rows.proofs.Texts.{if_ok}
use Rattle.shunt_tracks.specs.declared.run.Event.{Event}
use Rattle.shunt_zones.specs.defs.Moves.{IsMoveOf}
use Rattle.shunt_drivers.specs.defs.RosterFormat.{name_of, IsRoster}
use Rattle.shunt_drivers.specs.defs.Shared.{IsFewest}
use Rattle.shunt_drivers.proofs.Apart.{moves_apart}
use Rattle.shunt_drivers.proofs.drivers.share_moves.Goals as goal

pub shared-requires-clause-of_night : goal.shared-requires-clause-of_night
shared-requires-clause-of_night c = subst (All (IsMoveOf c.args.instance.now)) (sym c.deref.ensures.value) c.in_ok-moves.ensures.of_night

pub shared-requires-clause-rise : goal.shared-requires-clause-rise
shared-requires-clause-rise c = subst (AllPairs (λ (e f : Event). e.key.minute ≤ f.key.minute)) (sym (c.deref.ensures.value ∙ c.in_ok-moves.ensures.exact))
    (c.moves_rise.ensures c.args.instance.now c.args.plan.now.blocks)

pub shared-requires-clause-differ : goal.shared-requires-clause-differ
shared-requires-clause-differ c =
    subst (λ (l : List Event). AreDistinct (map name_of l)) (sym (c.deref.ensures.value ∙ c.in_ok-moves.ensures.exact))
    (moves_apart c.args.instance.now c.args.plan.now.blocks (c.stays_of_blocks.ensures.stays c.args.instance.now c.args.plan.now.blocks c.station.ensures.formed
    (c.stays_of_blocks.ensures.in_range c.args.instance.now c.args.plan.now.blocks c.requires.plan.blocks)))

pub shared-requires-clause-few : goal.shared-requires-clause-few
shared-requires-clause-few c = subst (λ (l : List Event). length l ≤ 800) (sym c.deref.ensures.value) c.in_ok-moves.ensures.few

pub returns-clause-fewest : goal.returns-clause-fewest
returns-clause-fewest c = if_ok c.shared.result _ _ c.shared.ensures.fewest (λ s is. subst
    (λ (l : List Event). IsFewest c.args.instance.now c.args.crew.now l s.duties.items s.drivers s.busy) (c.deref.ensures.value ∙ c.in_ok-moves.ensures.exact) is)

pub returns-clause-roster : goal.returns-clause-roster
returns-clause-roster c = if_ok c.shared.result _ _ c.shared.ensures.roster (λ s is. subst (λ (l : List Event). IsRoster l s.duties.items)
    (c.deref.ensures.value ∙ c.in_ok-moves.ensures.exact) is)
