use Rattle.std.proofs.Common.{◌≤◌, ◌∙◌, List, length, sym, subst, arith, ap}
use Rattle.std.specs.Prelude.{All, not}
use Rattle.shunt_rows.proofs.Texts.{if_ok}
use Rattle.shunt_tracks.specs.declared.run.Event.{Event}
use Rattle.shunt_zones.specs.defs.Moves.{has_been, IsMoveOf}
use Rattle.shunt_zones.proofs.Ordered.{moves_from, moves_of_night, filter_few}
use Rattle.shunt_zones.proofs.moves.moves_of.Goals as goal

pub but_past-requires-clause-events : goal.but_past-requires-clause-events
but_past-requires-clause-events c = subst (All (IsMoveOf c.args.instance.now)) (sym c.deref.ensures.value) c.in_ok-events.ensures.of_night

pub returns-clause-exact : goal.returns-clause-exact
returns-clause-exact c = if_ok c.but_past.result _ _ c.but_past.ensures (λ v e. e
    ∙ moves_from c.args.instance.now c.args.plan.now.blocks _ c.in_ok-events.events.items _ c.deref.ensures.value c.in_ok-events.ensures.exact c.as_slice-blocks.ensures)

pub returns-clause-of_night : goal.returns-clause-of_night
returns-clause-of_night c = if_ok c.but_past.result _ _ c.but_past.ensures (λ v e. subst (All (IsMoveOf c.args.instance.now)) (sym e)
    (moves_of_night c.args.instance.now c.as_slice-blocks.result.now c.deref.result.now
    (subst (All (IsMoveOf c.args.instance.now)) (sym c.deref.ensures.value) c.in_ok-events.ensures.of_night)))

pub returns-clause-few : goal.returns-clause-few
returns-clause-few c =
    if_ok c.but_past.result _ _ c.but_past.ensures (λ v e. subst (λ (l : List Event). length l ≤ 800) (sym e)
    (let few = c.in_ok-events.ensures.few in omega (
      arith,
      few,
      ap length c.deref.ensures.value,
      filter_few (λ e. not (has_been c.args.instance.now c.as_slice-blocks.result.now e.key)) c.deref.result.now,
    )))
