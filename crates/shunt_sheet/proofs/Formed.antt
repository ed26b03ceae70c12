-- What the records of a sheet state is formed.
use Rattle.std.proofs.Common.{◌≡◌, ◌⊎◌, ⊎_elim, ℕ, ◌<◌, Bool, true, false, not, List, [], ◌∷◌, ◌++◌, length, length-append, sym, subst, ap, ◌∙◌, arith}
use Rattle.std.specs.Prelude.{Ok, Some, bytes_eq, ◌==◌, position, codes}
use Rattle.std.specs.Option.{unwrap_or}
use Rattle.std.proofs.lemmas.Bool.{ltb-true, leb-true, not-true, eqb-true}
use Rattle.std.proofs.lemmas.List.{length_push}
use Rattle.std.proofs.lemmas.List.Quantifiers.{position-Some}
use Rattle.shunt_lists.specs.defs.Members.{In}
use Rattle.shunt_base.specs.defs.Spelling.{decimal_of, minute_of}
use Rattle.shunt_rows.specs.defs.Records.{at}
use Rattle.shunt_rows.specs.defs.Checks.{answer}
use Rattle.shunt_rows.specs.defs.Fields.{is_word, side_in, enters_of}
use Rattle.shunt_rows.specs.defs.Formats.{reading}
use Rattle.shunt_rows.proofs.Answered.{says, in_either}
use Rattle.shunt_rows.proofs.KeptStates.{formed}
use Rattle.shunt_rows.proofs.Spelled.{there, within, minute_small}
use Rattle.shunt_instance.specs.declared.records.Station.{Station}
use Rattle.shunt_sheet.specs.declared.records.Order.{Order}
use Rattle.shunt_sheet.specs.declared.reader.Entered.{Entered}
use Rattle.shunt_sheet.specs.declared.reader.StatedMove.{StatedMove}
use Rattle.shunt_sheet.specs.declared.reader.StatedPlace.{StatedPlace}
use Rattle.shunt_sheet.specs.defs.SheetFormat.{stands, has_entered, keeps_length, keeps_track, entry_in, is_of, last_minute, start_in, move_in, place_in, order_by, order_in, sheet_first, more_of, sheet_later, sheet_format, MayFollow, AreOrders}
use Rattle.shunt_sheet.proofs.Tests.{tells_of, none_first, any_to, keeps_is, last_or_earlier}
use Rattle.shunt_lists.proofs.Tests.{never_both}

-- behind formed orders one that may follow them
grown : (s : Station) (orders : List Order) (o : Order) → AreOrders s orders → length orders < 800 → MayFollow s orders o → AreOrders s (orders ++ o ∷ [])
grown s orders o f few may = record { few = omega (arith, few, length_push orders o); each = each }
  where
    each : (before : List Order) (p : Order) (after : List Order) → orders ++ o ∷ [] ≡ before ++ p ∷ after → MayFollow s before p
    each before p after e =
        ⊎_elim (λ last. subst (λ (l : List Order). MayFollow s l p) (sym last.0) (subst (MayFollow s orders) (sym last.1) may))
        (λ earlier. f.each before p earlier.0 earlier.1) (last_or_earlier orders before after o p e)

-- no order of the same block and word stands before
once_from : (orders : List Order) (enters : Bool) (id : ℕ) → not (stands orders enters id) ≡ true → (p : Order) → In p orders → p.enters ≡ enters → p.id ≡ id → ⊥
unfolding stands
once_from orders enters id e p i alike same = never_both (stands orders enters id) (any_to (is_of enters id) orders p i (tells_of enters id p alike same))
    (not-true (stands orders enters id) e)

no_block : Entered
no_block = record { length = 0; track = record { 0 = 0 } }

-- what the tests of a leave tell of its entry
entered_from : (orders : List Order) (m : StatedMove) (long track : ℕ) → has_entered orders m.enters m.id ≡ true → keeps_length orders m long ≡ true
    → keeps_track orders m track ≡ true
    → m.enters ≡ false
    → entry_in m.id orders ≡ Some (record { length = long; track = record { 0 = track } })
unfolding has_entered keeps_length keeps_track
entered_from orders m long track known same_length same_track leaves =
    let entry = entry_in m.id orders in
    let e : Entered = unwrap_or entry no_block in
    let is : entry ≡ Some e = there no_block entry (none_first m.enters _ leaves known) in
    let l : e.length ≡ long = eqb-true e.length long (keeps_is (λ x. x.length == long) entry e is (none_first m.enters _ leaves same_length)) in
    let t : e.track.0 ≡ track = eqb-true e.track.0 track (keeps_is (λ x. x.track.0 == track) entry e is (none_first m.enters _ leaves same_track)) in
    is ∙ ap (λ (k : ℕ). let x : Entered = record { length = k; track = e.track } in Some x) l
    ∙ ap (λ (k : ℕ). let x : Entered = record { length = long; track = record { 0 = k } } in Some x) t

order_formed : (s : Station) (n : ℕ) (orders more : List Order) (row : List (List ℕ)) → AreOrders s orders → answer n (more_of s orders row) ≡ Ok more → AreOrders s more
unfolding more_of order_in start_in move_in place_in
order_formed s n orders more row f e =
    let all = says n (more_of s orders row) more e in
    let room = all.0.1 in
    let minute = room.1 in
    let later = minute.1 in
    let word = later.1 in
    let number = word.1 in
    let known = number.1 in
    let new = known.1 in
    let range = new.1 in
    let long = range.1 in
    let size = long.1 in
    let same_length = size.1 in
    let track = same_length.1 in
    let same_track = track.1 in
    let time = unwrap_or (minute_of (at row 2)) 0 in
    let m : StatedMove = record { enters = unwrap_or (enters_of (at row 3)) true; id = unwrap_or (decimal_of (at row 4)) 0 } in
    let place = position (λ x. bytes_eq x.name (at row 6)) s.tracks in
    let p : StatedPlace = record { length = unwrap_or (decimal_of (at row 5)) 0; track = record { 0 = unwrap_or place 0 }; side = (side_in row 7).value } in
    let o : Order = order_by time m p in
    let may : MayFollow s orders o = record {
      minute = minute_small (at row 2) time (there 0 (minute_of (at row 2)) minute.0);
      later = leb-true (last_minute orders) time later.0;
      first_id = (within 1 1000000 m.id range.0).0;
      last_id = (within 1 1000000 m.id range.0).1;
      some = (within 1 40000 p.length size.0).0;
      long = (within 1 40000 p.length size.0).1;
      track = (position-Some (λ x. bytes_eq x.name (at row 6)) s.tracks (unwrap_or place 0) (record { name = []; length = 0; side_a = true; side_b = true })
          (there 0 place track.0)).0;
      once = once_from orders m.enters m.id new.0;
      entered = entered_from orders m p.length p.track.0 known.0 same_length.0 same_track.0;
    } in
    subst (AreOrders s) all.1 (grown s orders o f (ltb-true (length orders) 800 room.0) may)

later_formed : (s : Station) (n : ℕ) (orders more : List Order) (row : List (List ℕ)) → AreOrders s orders → answer n (sheet_later s orders row) ≡ Ok more → AreOrders s more
unfolding sheet_later
later_formed s n orders more row f = in_either n (is_word row (codes "order")) _ _ more (AreOrders s more) (λ w. order_formed s n orders more row f) (λ e. absurd cc)

no_orders : (s : Station) → AreOrders s []
no_orders s = record { few = omega arith; each = none }
  where
    none : (before : List Order) (o : Order) (after : List Order) → [] ≡ before ++ o ∷ after → MayFollow s before o
    none before o after e = absurd (omega (arith, ap length e, length-append before (o ∷ after)))

first_formed : (s : Station) (orders : List Order) (row : List (List ℕ)) → answer 1 (sheet_first row) ≡ Ok orders → AreOrders s orders
unfolding sheet_first
first_formed s orders row e = subst (AreOrders s) (says 1 (sheet_first row) orders e).1 (no_orders s)

pub sheet_formed : (s : Station) (rows : List (List (List ℕ))) (orders : List Order) → reading (sheet_format s) rows ≡ Ok orders → AreOrders s orders
sheet_formed s = formed (sheet_format s) (AreOrders s) (AreOrders s) (first_formed s) (λ n orders more row f e. later_formed s n orders more row f e) (λ orders is. is)
