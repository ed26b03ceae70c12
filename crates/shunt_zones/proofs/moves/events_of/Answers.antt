use Rattle.std.proofs.Common.{◌≤◌, ◌∙◌, List, length, sym, subst}
use Rattle.std.specs.Prelude.{All}
use Rattle.shunt_rows.proofs.Texts.{if_ok}
use Rattle.shunt_tracks.specs.declared.run.Event.{Event}
use Rattle.shunt_zones.specs.defs.Moves.{IsMoveOf}
use Rattle.shunt_zones.proofs.Ordered.{StayLaws, events_are, events_of_night, few_events}
use Rattle.shunt_zones.proofs.moves.events_of.Goals as goal

pub dues_in-requires-clause-stays : goal.dues_in-requires-clause-stays
dues_in-requires-clause-stays c = c.stays_of_blocks.ensures.stays c.args.instance.now c.args.blocks.now c.station.ensures.formed
    (c.stays_of_blocks.ensures.in_range c.args.instance.now c.args.blocks.now c.requires)

pub returns-clause-exact : goal.returns-clause-exact
returns-clause-exact c = if_ok c.events_from.result _ _ c.events_from.ensures (λ v e. e
    ∙ events_are c.args.instance.now c.args.blocks.now c.in_ok-dues.dues.items _ c.deref.ensures.value c.in_ok-dues.ensures)

pub returns-clause-of_night : goal.returns-clause-of_night
returns-clause-of_night c =
    let laws : StayLaws = record {
      stays = λ night blocks is range. c.stays_of_blocks.ensures.stays night blocks is (c.stays_of_blocks.ensures.in_range night blocks range);
      from = c.stays_of_blocks.ensures.from;
    } in
    if_ok c.events_from.result _ _ c.events_from.ensures (λ v e. subst (All (IsMoveOf c.args.instance.now))
    (sym (e ∙ events_are c.args.instance.now c.args.blocks.now c.in_ok-dues.dues.items _ c.deref.ensures.value c.in_ok-dues.ensures))
    (events_of_night laws c.args.instance.now c.args.blocks.now c.station.ensures.formed c.requires))

pub returns-clause-few : goal.returns-clause-few
returns-clause-few c =
    if_ok c.events_from.result _ _ c.events_from.ensures (λ v e. subst (λ (l : List Event). length l ≤ 800)
    (sym (e ∙ events_are c.args.instance.now c.args.blocks.now c.in_ok-dues.dues.items _ c.deref.ensures.value c.in_ok-dues.ensures))
    (few_events c.args.instance.now c.args.blocks.now c.requires))
