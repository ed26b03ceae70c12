-- The entries and leaves of stays in key order are orders that a file can state.
use Rattle.std.proofs.Common.{◌≡◌, inl, inr, ⊎_elim, ℕ, ◌-◌, ◌<◌, ◌≤◌, Bool, true, false, List, [], ◌∷◌, ◌++◌, length, get_or, map, refl, sym, subst, ap, ◌∙◌, arith}
use Rattle.std.specs.Prelude.{All, Some}
use Rattle.std.proofs.lemmas.List.{length-map}
use Rattle.shunt_lists.specs.defs.Members.{In, Ascends}
use Rattle.shunt_lists.proofs.Members.{all_in, in_left, in_right, in_cases, in_map, of_map, in_place}
use Rattle.shunt_base.specs.declared.keys.EventKey.{EventKey}
use Rattle.shunt_base.specs.declared.keys.Stay.{Stay}
use Rattle.shunt_base.specs.defs.Keys.{rank, IsKey, IsWellFormed, AreStays}
use Rattle.shunt_stays.specs.defs.Events.{Move, in_order}
use Rattle.shunt_stays.proofs.Halves.{Half, at, move_of as half_move, halves_of, of_stay, entry_in as entry_half, formed, same_id, later_rank, ordered, in_order_is}
use Rattle.shunt_instance.specs.declared.records.Station.{Station}
use Rattle.shunt_sheet.specs.declared.records.Order.{Order}
use Rattle.shunt_tracks.specs.declared.dues.Due.{Due}
use Rattle.shunt_sheet.specs.defs.Orders.{order_of}
use Rattle.shunt_tracks.specs.defs.Dues.{move_of as due_move}
use Rattle.shunt_sheet.specs.defs.SheetFormat.{entered_by, entry_in, last_minute, MayFollow, AreOrders}
use Rattle.shunt_sheet.proofs.Tests.{of_tells, tells_of, first_entry, split_map}
use Rattle.shunt_lists.proofs.Tests.{flag_small, never_both}
use Rattle.shunt_stays.proofs.SortedEvents.{events_long}

-- the numbers of a stay are those of orders, and its track is the station's
pub record IsFit (s : Station) (t : Stay) : Type 0 where
  pub first_id : 1 ≤ t.id
  pub last_id : t.id ≤ 1000000
  pub some : 1 ≤ t.length
  pub long : t.length ≤ 40000
  pub track : t.track.0 < length s.tracks
  pub enter : t.enter.minute < 2880
  pub leave : t.leave.minute < 2880

abbrev pub half_order : Half → Order
half_order h = order_of (half_move h)

-- ---- keys

minutes_rise : (k l : EventKey) → IsKey k → IsKey l → rank k < rank l → k.minute ≤ l.minute
unfolding rank
minutes_rise k l p q lt =
    let train = p.train in
    let place = p.place in
    let id = p.id in
    let other_train = q.train in
    let other_place = q.place in
    let other_id = q.id in
    omega (arith, lt, train, place, id, other_train, other_place, other_id, flag_small k.enters, flag_small l.enters)

halves_rise : (g h : Half) → IsWellFormed g.0 → IsWellFormed h.0 → at g < at h → (half_order g).minute ≤ (half_order h).minute
halves_rise (t, true) (u, true) w v lt = minutes_rise t.enter u.enter w.enter_in v.enter_in lt
halves_rise (t, true) (u, false) w v lt = minutes_rise t.enter u.leave w.enter_in v.leave_in lt
halves_rise (t, false) (u, true) w v lt = minutes_rise t.leave u.enter w.leave_in v.enter_in lt
halves_rise (t, false) (u, false) w v lt = minutes_rise t.leave u.leave w.leave_in v.leave_in lt

enters_is : (h : Half) → IsWellFormed h.0 → (half_order h).enters ≡ h.1
enters_is (t, true) w = w.enters
enters_is (t, false) w = w.leaves

id_is : (h : Half) → IsWellFormed h.0 → (half_order h).id ≡ h.0.id
id_is (t, true) w = w.enter_id
id_is (t, false) w = w.leave_id

same_half : (g h : Half) → g.0 ≡ h.0 → g.1 ≡ h.1 → g ≡ h
same_half g h e f = ap (λ (t : Stay). let p : Half = (t, g.1) in p) e ∙ ap (λ (b : Bool). let p : Half = (h.0, b) in p) f

-- ---- those before and after one that stand in order

below : (front back : List Half) (h g : Half) → Ascends at (front ++ h ∷ back) → In g front → at g < at h
below [] back h g asc i = absurd i
below (x ∷ front) back h g asc (inl e) = let lt : at x < at h = all_in (λ y. at x < at y) (front ++ h ∷ back) h asc.0 (in_right front (h ∷ back) h (inl refl)) in omega
    (arith, lt, ap at e)
below (x ∷ front) back h g asc (inr i) = below front back h g asc.1 i

above : (front back : List Half) (h g : Half) → Ascends at (front ++ h ∷ back) → In g back → at h < at g
above [] back h g asc i = all_in (λ y. at h < at y) back g asc.0 i
above (x ∷ front) back h g asc i = above front back h g asc.1 i

last_low : (xs : List Order) (t : ℕ) → ((p : Order) → In p xs → p.minute ≤ t) → last_minute xs ≤ t
unfolding last_minute
last_low [] t low = omega arith
last_low (x ∷ xs) t low =
    let minutes = map (λ (o : Order). o.minute) (x ∷ xs) in
    let k = length (x ∷ xs) - 1 in
    let r = of_map (λ (o : Order). o.minute) (x ∷ xs) (get_or minutes k 0) (in_place minutes k 0 (omega (arith, length-map (x ∷ xs) (λ (o : Order). o.minute)))) in
    subst (λ m. m ≤ t) (sym r.2) (low r.0 r.1)

module _ (s : Station) (stays : List Stay) (a : AreStays stays) (fit : (t : Stay) → In t stays → IsFit s t) where
  -- one of the halves
  well : (h : Half) → In h (halves_of stays) → IsWellFormed h.0
  well h i = formed stays h.0 a (of_stay stays h i)

  -- those of one id that both enter or both leave are one
  one_half : (g h : Half) → In g (halves_of stays) → In h (halves_of stays) → (half_order g).enters ≡ h.1 → (half_order g).id ≡ h.0.id → g ≡ h
  one_half g h i j e f =
      same_half g h (same_id stays g.0 h.0 a (of_stay stays g i) (of_stay stays h j) (sym (id_is g (well g i)) ∙ f)) (sym (enters_is g (well g i)) ∙ e)

  numbers : (h : Half) → In h.0 stays → ((half_order h).minute < 2880) × ((half_order h).length ≡ h.0.length) × ((half_order h).track.0 < length s.tracks)
  numbers (t, true) i = ((fit t i).enter, refl, (fit t i).track)
  numbers (t, false) i = ((fit t i).leave, refl, (fit t i).track)

  -- the entry of one that leaves stands before it
  entered : (front back : List Half) (h : Half) → halves_of stays ≡ front ++ h ∷ back → (half_order h).enters ≡ false
      → entry_in (half_order h).id (map half_order front) ≡ Some (entered_by (half_order h))
  entered front back (t, true) e leaves = absurd (never_both t.enter.enters (well (t, true)
      (subst (In (t, true)) (sym e) (in_right front ((t, true) ∷ back) (t, true) (inl refl)))).enters leaves)
  entered front back (t, false) e leaves =
      let all : (g : Half) → In g (front ++ (t, false) ∷ back) → In g (halves_of stays) = λ g i. subst (In g) (sym e) i in
      let here : In (t, false) (halves_of stays) = all (t, false) (in_right front ((t, false) ∷ back) (t, false) (inl refl)) in
      let w = well (t, false) here in
      let asc : Ascends at (front ++ (t, false) ∷ back) = subst (Ascends at) e (ordered stays a).ascends in
      let entry : In (t, true) (halves_of stays) = entry_half stays t (of_stay stays (t, false) here) in
      let first : In (t, true) front =
      ⊎_elim (λ i. i)
      (λ i. absurd (not_behind front back t w asc i))
      (in_cases front ((t, false) ∷ back) (t, true) (subst (In (t, true)) e entry)) in
      first_entry half_order t.leave.id (t, true) front first (tells_of true t.leave.id (half_order (t, true)) w.enters (w.enter_id ∙ sym w.leave_id))
      (λ g i u. let q = of_tells true t.leave.id (half_order g) u in one_half g (t, true) (all g (in_left front ((t, false) ∷ back) g i)) entry q.0 (q.1 ∙ w.leave_id))
    where
      not_behind : (front back : List Half) (t : Stay) → IsWellFormed t → Ascends at (front ++ (t, false) ∷ back) → In (t, true) ((t, false) ∷ back) → ⊥
      not_behind front back t w asc (inl e) = never_both true refl (ap (λ (h : Half). h.1) e)
      not_behind front back t w asc (inr i) = let lt = above front back (t, false) (t, true) asc i in let less = later_rank t w in absurd (omega (arith, lt, less))

  half_follows : (front back : List Half) (h : Half) → halves_of stays ≡ front ++ h ∷ back → MayFollow s (map half_order front) (half_order h)
  half_follows front back h e =
      let all : (g : Half) → In g (front ++ h ∷ back) → In g (halves_of stays) = λ g i. subst (In g) (sym e) i in
      let before : (g : Half) → In g front → In g (halves_of stays) = λ g i. all g (in_left front (h ∷ back) g i) in
      let here : In h (halves_of stays) = all h (in_right front (h ∷ back) h (inl refl)) in
      let w = well h here in
      let stay : In h.0 stays = of_stay stays h here in
      let f = fit h.0 stay in
      let n = numbers h stay in
      let asc : Ascends at (front ++ h ∷ back) = subst (Ascends at) e (ordered stays a).ascends in
      record {
        minute = n.0;
        later = last_low (map half_order front) (half_order h).minute (λ p i.
            let r = of_map half_order front p i in
            subst (λ (o : Order). o.minute ≤ (half_order h).minute) (sym r.2) (halves_rise r.0 h (well r.0 (before r.0 r.1)) w (below front back h r.0 asc r.1)));
        first_id = subst (λ k. 1 ≤ k) (sym (id_is h w)) f.first_id;
        last_id = subst (λ k. k ≤ 1000000) (sym (id_is h w)) f.last_id;
        some = subst (λ k. 1 ≤ k) (sym n.1) f.some;
        long = subst (λ k. k ≤ 40000) (sym n.1) f.long;
        track = n.2;
        once = λ p i alike same.
            let r = of_map half_order front p i in
            let one : r.0 ≡ h = one_half r.0 h (before r.0 r.1) here (ap (λ (o : Order). o.enters) (sym r.2) ∙ alike ∙ enters_is h w)
            (ap (λ (o : Order). o.id) (sym r.2) ∙ same ∙ id_is h w) in
            let lt = below front back h r.0 asc r.1 in
            absurd (omega (arith, lt, ap at one));
        entered = entered front back h e;
      }

  pub halves_follow : (before : List Order) (o : Order) (after : List Order) → map half_order (halves_of stays) ≡ before ++ o ∷ after → MayFollow s before o
  halves_follow before o after e =
      let p = split_map half_order (halves_of stays) before o after e in
      subst (λ (l : List Order). MayFollow s l o) (sym p.before_is) (subst (MayFollow s (map half_order p.front)) (sym p.one_is) (half_follows p.front p.back p.one p.place))

  -- what is due is due in the two days
  pub dues_in_time : (dues : List Due) → map due_move dues ≡ in_order stays → All (λ d. d.key.minute < 2880) dues
  dues_in_time dues e = λ k d lt.
      let due = get_or dues k d in
      let r = of_map half_move (halves_of stays) (due_move due) (subst (In (due_move due)) (e ∙ in_order_is stays a) (in_map due_move dues due (in_place dues k d lt))) in
      subst (λ (m : Move). m.key.minute < 2880) (sym r.2) (numbers r.0 (of_stay stays r.0 r.1)).0

-- ---- how many there are

maps_join : (halves : List Half) → map order_of (map half_move halves) ≡ map half_order halves
maps_join [] = refl
maps_join (h ∷ halves) = ap (λ (l : List Order). half_order h ∷ l) (maps_join halves)

pub stays_ordered : (s : Station) (stays : List Stay) → AreStays stays → ((t : Stay) → In t stays → IsFit s t) → length stays ≤ 400 → AreOrders s (map order_of (in_order stays))
stays_ordered s stays a fit few = record {
  few = omega (arith, few, events_long stays, length-map (in_order stays) order_of);
  each = λ before o after e. halves_follow s stays a fit before o after (sym (ap (map order_of) (in_order_is stays a) ∙ maps_join (halves_of stays)) ∙ e);
}
