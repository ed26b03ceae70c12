-- Each order is that of a block, so each has its row.
use Rattle.std.specs.Prelude.{Option, Some, None, cond, find, map, All}
use Rattle.std.proofs.Common.{inl, inr, ◌≡◌, ◌⊎◌, ⊎_elim, ℕ, ◌==◌, Bool, true, false, List, [], ◌∷◌, ◌++◌, if◌then◌else◌, refl, sym, ap, subst, ◌∙◌, arith}
use Rattle.std.proofs.lemmas.Option.{none-some}
use Rattle.std.proofs.lemmas.Bool.Decides.{nat_tests}
use Rattle.std.proofs.lemmas.List.{map-append}
use Rattle.shunt_lists.specs.defs.Members.{In}
use Rattle.shunt_lists.proofs.Members.{all_in, of_map}
use Rattle.shunt_lists.proofs.Lists.{by_places}
use Rattle.shunt_base.specs.declared.keys.Stay.{Stay}
use Rattle.shunt_stays.specs.defs.Events.{Move, entry_of, leave_of, insert_by_key, in_order}
use Rattle.shunt_instance.specs.defs.Instance.{Night}
use Rattle.shunt_blocks.specs.declared.records.Block.{Block}
use Rattle.shunt_blocks.specs.declared.records.Park.{Park}
use Rattle.shunt_blocks.specs.defs.Shapes.{shape_of, IsInRange, IsWithinTrains}
use Rattle.shunt_blocks.specs.defs.Stays.{is_too_soon, parked_stay, stay_with, stay_of}
use Rattle.shunt_blocks.specs.defs.Lists.{stays_of}
use Rattle.shunt_sheet.specs.declared.records.Order.{Order}
use Rattle.shunt_sheet.specs.defs.Orders.{order_of, orders_in}
use Rattle.shunt_page.specs.declared.occupancy.Stood.{Stood}
use Rattle.shunt_page.specs.declared.records.OrderRow.{OrderRow}
use Rattle.shunt_page.specs.defs.Occupancy.{after}
use Rattle.shunt_page.specs.defs.Orders.{row_with, row_at, rows_from, rows_of}
use Rattle.shunt_blocks.proofs.StaysOf.{cons_stay}
use Rattle.shunt_stays.proofs.SortedEvents.{inserted}

-- an event of some stays is the entry or the leave of one of them
abbrev IsEventOf : Move → Stay → Type 0
IsEventOf m s = (m ≡ entry_of s) ⊎ (m ≡ leave_of s)

evented : (stays : List Stay) (m : Move) → In m (in_order stays) → (s : Stay) × In s stays × IsEventOf m s
evented [] m h = absurd h
evented (s ∷ stays) m h = ⊎_elim
    (λ e. (s, inl refl, inl e))
    (λ i. ⊎_elim (λ e. (s, inl refl, inr e)) (λ j. let r = evented stays m j in (r.0, inr r.1, r.2)) (inserted (leave_of s) m (in_order stays) i))
    (inserted (entry_of s) m (insert_by_key (leave_of s) (in_order stays)) h)

-- the events of a block's stay have its id
abbrev HasId : ℕ → Stay → Type 0
HasId id s = (s.enter.id ≡ id) × (s.leave.id ≡ id)

parked_id : (night : Night) (b : Block) (k : Park) (soon : Bool) (s : Stay) → (if soon then None else Some (parked_stay night b k)) ≡ Some s → HasId b.id s
parked_id night b k true s e = absurd (none-some _ e)
parked_id night b k false s e = subst (HasId b.id) (some_same e) (refl, refl)
  where
    some_same : Some (parked_stay night b k) ≡ Some s → parked_stay night b k ≡ s
    some_same h = cc

stay_id : (night : Night) (b : Block) (o : Option Park) (s : Stay) → stay_with night b o ≡ Some s → HasId b.id s
stay_id night b None s e = absurd (none-some _ e)
stay_id night b (Some k) s e = parked_id night b k (is_too_soon night (shape_of b)) s e

stood : (night : Night) (blocks : List Block) (s : Stay) → In s (stays_of night blocks) → (b : Block) × In b blocks × HasId b.id s
stood night [] s there = absurd there
stood night (b ∷ blocks) s there = cons_stay (λ stays. In s stays → (c : Block) × In c (b ∷ blocks) × HasId c.id s) (stay_of night b) (stays_of night blocks)
    (λ e here. let more = stood night blocks s here in (more.0, inr more.1, more.2))
    (λ t e here. ⊎_elim (λ same. (b, inl refl, stay_id night b b.park s (e ∙ ap Some (sym same))))
    (λ later. let more = stood night blocks s later in (more.0, inr more.1, more.2)) here)
    there

event_id : (m : Move) (s : Stay) (id : ℕ) → IsEventOf m s → HasId id s → m.key.id ≡ id
event_id m s id (inl e) h = ap (λ (n : Move). n.key.id) e ∙ h.0
event_id m s id (inr e) h = ap (λ (n : Move). n.key.id) e ∙ h.1

-- an order of some blocks has the id of one of them
ordered_by : (night : Night) (blocks : List Block) (o : Order) → In o (orders_in night blocks) → (b : Block) × In b blocks × (o.id ≡ b.id)
unfolding orders_in
ordered_by night blocks o there =
    let move = of_map order_of (in_order (stays_of night blocks)) o there in
    let stay = evented (stays_of night blocks) move.0 move.1 in
    let block = stood night blocks stay.0 stay.1 in
    (block.0, block.1, ap (λ (p : Order). p.id) move.2 ∙ event_id move.0 stay.0 block.0.id stay.2 block.2)

-- a block that has an id is found by it, or another one before it
abbrev by_id : ℕ → Block → Bool
by_id id b = b.id == id

same_id : (i j : ℕ) → i ≡ j → (j == i) ≡ true
same_id i j e = grind (arith, nat_tests)

found : (id : ℕ) (blocks : List Block) (b : Block) → In b blocks → id ≡ b.id → (c : Block) × (find (by_id id) blocks ≡ Some c)
found id [] b there e = absurd there
found id (c ∷ blocks) b there e = at (by_id id c) refl (λ later. found id blocks b later e)
  where
    at : (t : Bool) → by_id id c ≡ t → (In b blocks → (d : Block) × (find (by_id id) blocks ≡ Some d)) → (d : Block) × (cond t (Some c) (find (by_id id) blocks) ≡ Some d)
    at true is more = (c, refl)
    at false is more = ⊎_elim (λ same. absurd (let own : by_id id c ≡ true = subst (λ (d : Block). by_id id d ≡ true) same (same_id id b.id e) in cc)) (λ later. more later) there

-- what is found is in the list
pub in_found : {X : Type 0} (test : X → Bool) (xs : List X) (x : X) → find test xs ≡ Some x → In x xs
in_found test [] x e = absurd (none-some _ e)
in_found {X} test (y ∷ xs) x e = at (test y) (in_found test xs x) e
  where
    some_same : Some y ≡ Some x → y ≡ x
    some_same h = cc

    at : (t : Bool) → (find test xs ≡ Some x → In x xs) → cond t (Some y) (find test xs) ≡ Some x → In x (y ∷ xs)
    at true later h = inl (sym (some_same h))
    at false later h = inr (later h)

-- so it is within its trains
pub found_within : (night : Night) (blocks : List Block) (id : ℕ) (b : Block) → All (IsInRange night) blocks → find (by_id id) blocks ≡ Some b → IsWithinTrains night b
found_within night blocks id b each e = all_in (IsWithinTrains night) blocks b (by_places (IsInRange night) (IsWithinTrains night) blocks (λ c r. r.within) each)
    (in_found (by_id id) blocks b e)

-- the row of an order whose block is found
one_row : (night : Night) (stood : List Stood) (o : Order) (f : Option Block) (b : Block) → f ≡ Some b → map (λ (r : OrderRow). r.order) (row_with night stood o f) ≡ o ∷ []
one_row night stood o None b e = absurd (none-some _ e)
one_row night stood o (Some c) b e = refl

each_row : (night : Night) (blocks : List Block) (stood : List Stood) (orders : List Order) → ((o : Order) → In o orders → (b : Block) × (find (by_id o.id) blocks ≡ Some b))
    → map (λ (r : OrderRow). r.order) (rows_from night blocks stood orders) ≡ orders
each_row night blocks stood [] some = refl
each_row night blocks stood (o ∷ orders) some =
    let b = some o (inl refl) in
    map-append (λ (r : OrderRow). r.order) (row_at night blocks stood o) (rows_from night blocks (after stood o) orders)
    ∙ ap (λ (os : List Order). os ++ map (λ (r : OrderRow). r.order) (rows_from night blocks (after stood o) orders)) (one_row night stood o (find (by_id o.id) blocks) b.0 b.1)
    ∙ ap (λ (os : List Order). o ∷ os) (each_row night blocks (after stood o) orders (λ p i. some p (inr i)))

-- one row for each order of some blocks, in their order
pub rows_are : (night : Night) (blocks : List Block) → map (λ (r : OrderRow). r.order) (rows_of night blocks) ≡ orders_in night blocks
rows_are night blocks = each_row night blocks [] (orders_in night blocks) (λ o i. let b = ordered_by night blocks o i in found o.id blocks b.0 b.1 b.2)
