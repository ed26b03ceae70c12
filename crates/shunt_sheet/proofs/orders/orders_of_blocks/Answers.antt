use Rattle.std.proofs.Common.{◌∙◌, sym, subst}
use Rattle.shunt_rows.proofs.Texts.{if_ok}
use Rattle.shunt_sheet.specs.defs.SheetFormat.{AreOrders}
use Rattle.shunt_sheet.proofs.Plans.{BlockLaws, due_in_time, orders_are, orders_formed}
use Rattle.shunt_sheet.proofs.orders.orders_of_blocks.Goals as goal

pub dues_in-requires-clause-stays : goal.dues_in-requires-clause-stays
dues_in-requires-clause-stays c = c.stays_of_blocks.ensures.stays c.args.instance.now c.args.blocks.now c.station.ensures.formed
    (c.stays_of_blocks.ensures.in_range c.args.instance.now c.args.blocks.now c.requires)

pub orders_from-requires : goal.orders_from-requires
orders_from-requires c =
    let laws : BlockLaws = record {
      stays = c.stays_of_blocks.ensures.stays;
      in_range = c.stays_of_blocks.ensures.in_range;
      from = c.stays_of_blocks.ensures.from;
      unit =
          c.places.ensures.unit;
    } in
    due_in_time laws c.args.instance.now c.args.blocks.now c.station.ensures.formed c.requires c.in_ok-dues.dues.items _ c.deref.ensures.value c.in_ok-dues.ensures

pub returns-clause-exact : goal.returns-clause-exact
returns-clause-exact c = if_ok c.orders_from.result _ _ c.orders_from.ensures (λ v e. e
    ∙ orders_are c.args.instance.now c.args.blocks.now c.in_ok-dues.dues.items _ c.deref.ensures.value c.in_ok-dues.ensures)

pub returns-clause-sheet : goal.returns-clause-sheet
returns-clause-sheet c =
    let laws : BlockLaws = record {
      stays = c.stays_of_blocks.ensures.stays;
      in_range = c.stays_of_blocks.ensures.in_range;
      from = c.stays_of_blocks.ensures.from;
      unit =
          c.places.ensures.unit;
    } in
    if_ok c.orders_from.result _ _ c.orders_from.ensures (λ v e. subst (AreOrders c.args.instance.now.station)
    (sym (e ∙ orders_are c.args.instance.now c.args.blocks.now c.in_ok-dues.dues.items _ c.deref.ensures.value c.in_ok-dues.ensures))
    (orders_formed laws c.args.instance.now c.args.blocks.now c.station.ensures.formed c.requires))
