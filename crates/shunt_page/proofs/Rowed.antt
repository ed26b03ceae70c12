-- Orders one after the other.
use Rattle.std.proofs.Common.{◌≡◌, ℕ, ◌+◌, ◌<◌, List, ◌++◌, length, get_or, take, drop, sym, ap, subst, ◌∙◌}
use Rattle.std.proofs.lemmas.List.{append_assoc, drop_more, take-append-drop}
use Rattle.shunt_instance.specs.declared.records.Station.{Station}
use Rattle.shunt_instance.specs.defs.Instance.{Night}
use Rattle.shunt_blocks.specs.declared.records.Block.{Block}
use Rattle.shunt_sheet.specs.declared.records.Order.{Order}
use Rattle.shunt_sheet.specs.defs.SheetFormat.{AreOrders}
use Rattle.shunt_page.specs.declared.occupancy.Stood.{Stood}
use Rattle.shunt_page.specs.declared.records.OrderRow.{OrderRow}
use Rattle.shunt_page.specs.defs.Occupancy.{after}
use Rattle.shunt_page.specs.defs.Orders.{row_at, rows_from}

-- one more order
pub rows_more : (night : Night) (blocks : List Block) (orders : List Order) (i : ℕ) (d : Order) (stood later : List Stood) (rows more : List OrderRow) → i < length orders
    → later ≡ after stood (get_or orders i d) → more ≡ rows ++ row_at night blocks stood (get_or orders i d)
    → more ++ rows_from night blocks later (drop (i + 1) orders) ≡ rows ++ rows_from night blocks stood (drop i orders)
rows_more night blocks orders i d stood later rows more lt is push =
    let rest = drop (i + 1) orders in
    let row = row_at night blocks stood (get_or orders i d) in
    ap (λ (t : List OrderRow). t ++ rows_from night blocks later rest) push
    ∙ append_assoc rows row (rows_from night blocks later rest)
    ∙ ap (λ (t : List OrderRow). rows ++ t) (ap (λ (l : List Stood). row ++ rows_from night blocks l rest) is ∙ sym (ap (rows_from night blocks stood) (drop_more orders i d lt)))

-- the track of an order is the station's
pub ordered : (s : Station) (orders : List Order) (i : ℕ) (o : Order) → AreOrders s orders → i < length orders → o ≡ get_or orders i o → o.track.0 < length s.tracks
ordered s orders i o h lt is = subst (λ (p : Order). p.track.0 < length s.tracks) (sym is)
    (h.each (take i orders) (get_or orders i o) (drop (i + 1) orders) (sym (take-append-drop i orders)
    ∙ ap (λ (l : List Order). take i orders ++ l) (drop_more orders i o lt))).track
