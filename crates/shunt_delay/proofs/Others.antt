-- The stays of a train, and those of all others, while the train is late.
use Rattle.std.specs.Prelude.{◌↔◌, Some, map, not, slice_index}
use Rattle.std.specs.List.{filter}
use Rattle.std.proofs.Common.{◌≡◌, ◌≢◌, ◌⊎◌, inl, inr, ⊎_elim, ℕ, ◌+◌, ◌<◌, ◌≤◌, Bool, true, false, List, [], ◌∷◌, length, refl, sym, subst, ap, ◌∙◌, arith}
use Rattle.std.proofs.lemmas.Bool.{cases_Bool, false_from_ne_true, false≢true, eq-eqb, eqb-true, ne_eqb}
use Rattle.shunt_lists.proofs.Members.{all_in, all_from, filter_yes, filter_no, filter_from, filter_to, in_map, of_map}
use Rattle.shunt_lists.specs.defs.Members.{In}
use Rattle.shunt_base.specs.declared.keys.Stay.{Stay}
use Rattle.shunt_base.specs.defs.Keys.{IsWellFormed, AreStays}
use Rattle.shunt_stays.specs.defs.Run.{GoesThrough}
use Rattle.shunt_stays.specs.defs.Crossings.{crosses, load_after}
use Rattle.shunt_stays.proofs.Crossings.{crosses_is, through_clear}
use Rattle.shunt_stays.proofs.Fewer.{stays_filter, on_tracks}
use Rattle.shunt_instance.specs.defs.Instance.{Night, IsInstance}
use Rattle.shunt_blocks.specs.declared.records.Block.{Block}
use Rattle.shunt_blocks.specs.defs.Shapes.{shape_of}
use Rattle.shunt_blocks.specs.defs.Stays.{is_too_soon, stay_of}
use Rattle.shunt_blocks.specs.defs.Lists.{AreInRange, track_lengths, stays_of}
use Rattle.shunt_timeline.specs.defs.Holdings.{Holding}
use Rattle.shunt_audit.proofs.BlockStays.{in_range, few_stays}
use Rattle.shunt_delay.specs.defs.Late.{late}
use Rattle.shunt_delay.specs.defs.Delays.{StaysFeasible}
use Rattle.shunt_delay.specs.defs.Kept.{late_by, is_too_soon_by, later, IsApart, CanCome, Hold, of_train, AreAll, AreOthers, AreOthersApart, AreOthersWithin}
use Rattle.shunt_delay.proofs.Lately.{stay_late, soon_late, which, never_late}
use Rattle.shunt_delay.proofs.Formed.{Laws, times_of, of_late, to_late, arrives, stays_late}
use Rattle.shunt_delay.proofs.Loads.{loads_less}
use Rattle.shunt_delay.proofs.Moved.{as_many}
use Rattle.shunt_lists.proofs.Options.{of_some, to_some}
use Rattle.shunt_stays.proofs.Halves.{formed as member_formed, same_id as one_id}

abbrev own_of : Night → List Block → ℕ → List Stay
own_of night blocks i = filter (of_train i) (stays_of night blocks)

-- no minutes late
on_time : (t : Stay) → later 0 t ≡ t
on_time t = ap (λ (m : ℕ). record t { enter = record t.enter { minute = m } }) (omega arith)

-- a stay is of train i where its block is
is_of : (i : ℕ) (night : Night) (b : Block) (t : Stay) → stay_of night b ≡ Some t → b.arr.0 ≡ i → of_train i t ≡ true
is_of i night b t e same = eq-eqb t.enter.train i ((times_of night b t e).train ∙ same)

isnt_of : (i : ℕ) (night : Night) (b : Block) (t : Stay) → stay_of night b ≡ Some t → b.arr.0 ≢ i → of_train i t ≡ false
isnt_of i night b t e apart = ne_eqb t.enter.train i (λ same. apart (sym (times_of night b t e).train ∙ same))

of_is : (i : ℕ) (night : Night) (b : Block) (t : Stay) → stay_of night b ≡ Some t → of_train i t ≡ true → b.arr.0 ≡ i
of_is i night b t e same = sym (times_of night b t e).train ∙ eqb-true t.enter.train i same

of_isnt : (i : ℕ) (night : Night) (b : Block) (t : Stay) → stay_of night b ≡ Some t → of_train i t ≡ false → b.arr.0 ≢ i
of_isnt i night b t e apart same = false≢true (sym apart ∙ is_of i night b t e same)

module _ (laws : Laws) (night : Night) (blocks : List Block) (n : IsInstance night) (h : AreInRange night blocks) where
  formed : AreStays (stays_of night blocks)
  formed = subst (λ (w : Night). AreStays (stays_of w blocks)) (never_late 0 night) (stays_late laws 0 0 night blocks n h (omega arith))

  -- ---- the stays of a late night

  module _ (i d : ℕ) (in_time : (b : Block) → In b blocks → is_too_soon (late i d night) (shape_of b) ≡ false) where
    soon_by : (b : Block) → In b blocks → is_too_soon_by night (late_by i d b) (shape_of b) ≡ false
    soon_by b there = sym (soon_late laws.units i d night b (in_range night blocks b h there).within.runs) ∙ in_time b there

    late_is : (b : Block) (t : Stay) → In b blocks → stay_of night b ≡ Some t → stay_of (late i d night) b ≡ Some (later (late_by i d b) t)
    late_is b t there e = stay_late laws.units i d night b (in_range night blocks b h there).within.runs ∙ to_late night (late_by i d b) b t e (soon_by b there)

    late_to : (s : Stay) → In s (stays_of (late i d night) blocks) → In s (map (later d) (own_of night blocks i)) ⊎ (In s (stays_of night blocks) × (of_train i s ≡ false))
    late_to s j =
        let r = of_some (stay_of (late i d night)) blocks s j in
        let l = of_late night (late_by i d r.0) r.0 s (sym (stay_late laws.units i d night r.0 (in_range night blocks r.0 h r.1).within.runs) ∙ r.2) in
        let there : In l.stay (stays_of night blocks) = to_some (stay_of night) blocks r.0 l.stay r.1 l.of in
        ⊎_elim
        (λ own. let is : s ≡ later d l.stay = l.is ∙ ap (λ (k : ℕ). later k l.stay) own.1 in
        inl (subst (λ (u : Stay). In u (map (later d) (own_of night blocks i))) (sym is)
        (in_map (later d) (own_of night blocks i) l.stay (filter_to (of_train i) (stays_of night blocks) l.stay there (is_of i night r.0 l.stay l.of own.0)))))
        (λ other. let is : s ≡ l.stay = l.is ∙ ap (λ (k : ℕ). later k l.stay) other.1 ∙ on_time l.stay in
        inr (subst (λ (u : Stay). In u (stays_of night blocks) × (of_train i u ≡ false)) (sym is) (there, isnt_of i night r.0 l.stay l.of other.0)))
        (which i d r.0)

    late_own : (t : Stay) → In t (own_of night blocks i) → In (later d t) (stays_of (late i d night) blocks)
    late_own t j =
        let m = filter_from (of_train i) (stays_of night blocks) t j in
        let r = of_some (stay_of night) blocks t m.0 in
        let same : late_by i d r.0 ≡ d = ⊎_elim (λ own. own.1) (λ other. absurd (other.0 (of_is i night r.0 t r.2 m.1))) (which i d r.0) in
        to_some (stay_of (late i d night)) blocks r.0 (later d t) r.1 (late_is r.0 t r.1 r.2 ∙ ap (λ (k : ℕ). Some (later k t)) same)

    late_other : (t : Stay) → In t (stays_of night blocks) → of_train i t ≡ false → In t (stays_of (late i d night) blocks)
    late_other t j apart =
        let r = of_some (stay_of night) blocks t j in
        let none : late_by i d r.0 ≡ 0 = ⊎_elim (λ own. absurd (of_isnt i night r.0 t r.2 apart own.0)) (λ other. other.1) (which i d r.0) in
        to_some (stay_of (late i d night)) blocks r.0 t r.1 (late_is r.0 t r.1 r.2 ∙ ap (λ (k : ℕ). Some (later k t)) none ∙ ap (λ (u : Stay). Some u) (on_time t))

    late_from : (s : Stay) → In s (map (later d) (own_of night blocks i)) ⊎ (In s (stays_of night blocks) × (of_train i s ≡ false)) → In s (stays_of (late i d night) blocks)
    late_from s (inl j) = let r = of_map (later d) (own_of night blocks i) s j in subst (λ (u : Stay). In u (stays_of (late i d night) blocks)) (sym r.2) (late_own r.0 r.1)
    late_from s (inr j) = late_other s j.0 j.1

    -- what stands where the train is late, of timelines that hold the others
    pub late_members : (own : List Stay) (held : Holding) → AreOthers night blocks i own held → (s : Stay)
        → In s (stays_of (late i d night) blocks) ↔ In s (map (later d) own) ⊎ In s held.stays
    late_members own held o s = (
      λ j. ⊎_elim (λ m. inl (subst (λ (l : List Stay). In s (map (later d) l)) (sym o.own_are) m)) (λ m. inr ((o.members s).1 m)) (late_to s j),
      λ m. late_from s (⊎_elim (λ x. inl (subst (λ (l : List Stay). In s (map (later d) l)) o.own_are x)) (λ x. inr ((o.members s).0 x)) m),
    )

  -- ---- no two stays of other trains cross

  other_same : (i d : ℕ) (s : Stay) → In s (stays_of (late i d night) blocks) → of_train i s ≡ false → In s (stays_of night blocks)
  other_same i d s j apart =
      let r = of_some (stay_of (late i d night)) blocks s j in
      let l = of_late night (late_by i d r.0) r.0 s (sym (stay_late laws.units i d night r.0 (in_range night blocks r.0 h r.1).within.runs) ∙ r.2) in
      let none : late_by i d r.0 ≡ 0 = ⊎_elim (λ own. absurd (of_isnt i (late i d night) r.0 s r.2 apart own.0)) (λ other. other.1) (which i d r.0) in
      let is : s ≡ l.stay = l.is ∙ ap (λ (k : ℕ). later k l.stay) none ∙ on_time l.stay in
      subst (λ (u : Stay). In u (stays_of night blocks)) (sym is) (to_some (stay_of night) blocks r.0 l.stay r.1 l.of)

  pub others_apart : (i d : ℕ) → StaysFeasible night blocks → AreOthersApart i (stays_of (late i d night) blocks)
  others_apart i d feasible b c j k p q = false_from_ne_true (crosses b c) (λ t.
      (through_clear (track_lengths night.station) (stays_of night blocks) formed (laws.tracks night blocks (laws.can_stand night blocks h)) feasible.through).0 b c
      (other_same i d b j p) (other_same i d c k q) ((crosses_is b c).0 t))

  pub others_within : (i d : ℕ) → StaysFeasible night blocks → AreOthersWithin i (track_lengths night.station) (stays_of (late i d night) blocks)
  others_within i d feasible b j p =
      let within : load_after (stays_of night blocks) b ≤ slice_index (track_lengths night.station) b.track.0 = (through_clear (track_lengths night.station)
      (stays_of night blocks) formed (laws.tracks night blocks (laws.can_stand night blocks h)) feasible.through).1 b (other_same i d b j p) in
      omega (arith, within, loads_less laws.units i d night blocks b.track.0 b.enter (λ c k. (in_range night blocks c h k).within.runs))

  -- ---- counts

  count_parts : {X : Type 0} (p : X → Bool) (xs : List X) → length (filter p xs) + length (filter (λ x. not (p x)) xs) ≡ length xs
  count_parts p [] = omega arith
  count_parts {X} p (x ∷ xs) = elim (cases_Bool (p x)) [
    | inl held ↦
        let a : length (filter p (x ∷ xs)) ≡ length (x ∷ filter p xs) = ap (λ (l : List X). length l) (filter_yes p x xs held) in
        let b : length (filter (λ x. not (p x)) (x ∷ xs)) ≡ length (filter (λ x. not (p x)) xs) = ap (λ (l : List X). length l)
        (filter_no (λ x. not (p x)) x xs (ap (λ (t : Bool). not t) held)) in
        omega (arith, a, b, count_parts p xs)
    | inr no_more ↦
        let a : length (filter p (x ∷ xs)) ≡ length (filter p xs) = ap (λ (l : List X). length l) (filter_no p x xs no_more) in
        let b : length (filter (λ x. not (p x)) (x ∷ xs)) ≡ length (x ∷ filter (λ x. not (p x)) xs) = ap (λ (l : List X). length l)
        (filter_yes (λ x. not (p x)) x xs (ap (λ (t : Bool). not t) no_more)) in
        omega (arith, a, b, count_parts p xs)
  ]

  not_from : (t : Bool) → not t ≡ true → t ≡ false
  not_from true e = absurd (false≢true e)
  not_from false e = refl

  others_count : (i : ℕ) (own : List Stay) (held : Holding) → AreOthers night blocks i own held → AreStays held.stays → length held.stays + length own ≤ 400
  others_count i own held o a =
      let rest = filter (λ s. not (of_train i s)) (stays_of night blocks) in
      let same : length held.stays ≡ length rest = as_many held.stays rest a (stays_filter (λ s. not (of_train i s)) (stays_of night blocks) formed) (λ s. (
        λ j. let m = (o.members s).0 j in filter_to (λ s. not (of_train i s)) (stays_of night blocks) s m.0 (ap (λ (t : Bool). not t) m.1),
        λ j. let m = filter_from (λ s. not (of_train i s)) (stays_of night blocks) s j in (o.members s).1 (m.0, not_from (of_train i s) m.1),
      )) in
      let own_count : length own ≡ length (own_of night blocks i) = ap (λ (l : List Stay). length l) o.own_are in
      omega (arith, same, own_count, count_parts (of_train i) (stays_of night blocks), few_stays night blocks h)

  -- ---- the train's stays can come

  own_in : (i : ℕ) (own : List Stay) (held : Holding) → AreOthers night blocks i own held → (s : Stay) → In s own → In s (stays_of night blocks) × (of_train i s ≡ true)
  own_in i own held o s j = filter_from (of_train i) (stays_of night blocks) s (subst (λ (l : List Stay). In s l) o.own_are j)

  own_begins : (s : Stay) → In s (stays_of night blocks) → s.enter.minute < 2880
  own_begins s j =
      let r = of_some (stay_of night) blocks s j in
      let e = (times_of night r.0 s r.2).enters in
      omega (arith, e, arrives night r.0 n (in_range night blocks r.0 h r.1).within.runs)

  own_tracks : (s : Stay) → In s (stays_of night blocks) → s.track.0 < length (track_lengths night.station)
  own_tracks s j = on_tracks (track_lengths night.station) (stays_of night blocks) s (laws.tracks night blocks (laws.can_stand night blocks h)) j

  map_formed : (d : ℕ) (own : List Stay) → AreStays own → ((s : Stay) → In s own → IsWellFormed (later d s)) → AreStays (map (later d) own)
  map_formed d [] a each = tt
  map_formed d (s ∷ own) a each = (
    each s (inl refl),
    all_from (λ t. s.id ≢ t.id) (map (later d) own) (λ t j same. let r = of_map (later d) own t j in all_in (λ u. s.id ≢ u.id) own r.0 a.1 r.1
        (same ∙ ap (λ (u : Stay). u.id) r.2)),
    map_formed d own a.2 (λ t j. each t (inr j)),
  )

  pub can_come : (i d : ℕ) (own : List Stay) (held : Holding) → d ≤ 120 → AreOthers night blocks i own held → AreStays held.stays
      → ((b : Block) → In b blocks → is_too_soon (late i d night) (shape_of b) ≡ false) → CanCome own d held
  can_come i d own held few o a in_time = record {
    few = few;
    begin = λ s j. own_begins s (own_in i own held o s j).0;
    formed = map_formed d own (subst AreStays (sym o.own_are) (stays_filter (of_train i) (stays_of night blocks) formed))
        (λ s j. member_formed (stays_of (late i d night) blocks) (later d s) (stays_late laws i d night blocks n h few)
        (late_own i d in_time s (subst (λ (l : List Stay). In s l) o.own_are j)));
    tracks = λ s j. subst (λ (ls : List ℕ). s.track.0 < length ls) (sym o.lengths) (own_tracks s (own_in i own held o s j).0);
    new = λ s j t k same.
        let m = (o.members s).0 j in
        let w = own_in i own held o t k in
        let e : s ≡ t = one_id (stays_of night blocks) s t formed m.0 w.0 same in
        false≢true (sym m.1 ∙ ap (of_train i) e ∙ w.1);
    most = others_count i own held o a;
    room = let c = others_count i own held o a in let r = o.room in omega arith;
  }

  pub stays_feasible : (i d : ℕ) (own : List Stay) (held : Holding) → d ≤ 120 → AreOthers night blocks i own held
      → ((b : Block) → In b blocks → is_too_soon (late i d night) (shape_of b) ≡ false)
      → ((stays : List Stay) → AreStays stays → ((s : Stay) → In s stays ↔ In s (map (later d) own) ⊎ In s held.stays) → GoesThrough held.lengths stays)
      → StaysFeasible (late i d night) blocks
  stays_feasible i d own held few o in_time go = record {
    in_time = in_time;
    through = subst (λ (ls : List ℕ). GoesThrough ls (stays_of (late i d night) blocks)) o.lengths
        (go (stays_of (late i d night) blocks) (stays_late laws i d night blocks n h few) (late_members i d in_time own held o));
  }

  -- ---- a train is taken out and put back

  pub taken_out : (i : ℕ) (own : List Stay) (before after : Holding) → own ≡ own_of night blocks i → AreAll night blocks before
      → ((s : Stay) → In s after.stays ↔ In s before.stays × IsApart own s) → after.lengths ≡ before.lengths
      → after.spare + length after.stays ≡ before.spare + length before.stays → AreOthers night blocks i own after
  taken_out i own before after is all go lengths room = record {
    own_are = is;
    members = λ s. (
      λ j. let m = (go s).0 j in let there = (all.members s).0 m.0 in
          (there, false_from_ne_true (of_train i s) (λ t. m.1 s (subst (λ (l : List Stay). In s l) (sym is) (filter_to (of_train i) (stays_of night blocks) s there t)) refl)),
      λ m. (go s).1 (
        (all.members s).1 m.0,
        λ t k same.
            let w = filter_from (of_train i) (stays_of night blocks) t (subst (λ (l : List Stay). In t l) is k) in
            let e : s ≡ t = one_id (stays_of night blocks) s t formed m.0 w.0 same in
            false≢true (sym m.1 ∙ ap (of_train i) e ∙ w.1),
      ),
    );
    lengths = lengths ∙ all.lengths;
    room = let r = all.room in omega arith;
  }

  pub in_time_now : (i : ℕ) → StaysFeasible night blocks → (b : Block) → In b blocks → is_too_soon (late i 0 night) (shape_of b) ≡ false
  in_time_now i feasible b j = subst (λ (w : Night). is_too_soon w (shape_of b) ≡ false) (sym (never_late i night)) (feasible.in_time b j)

  pub put_back : (i : ℕ) (own : List Stay) (before after : Holding) → AreOthers night blocks i own before → StaysFeasible night blocks
      → ((s : Stay) → In s after.stays ↔ In s (map (later 0) own) ⊎ In s before.stays) → after.lengths ≡ before.lengths
      → after.spare + length after.stays ≡ before.spare + length before.stays → AreAll night blocks after
  put_back i own before after o feasible come lengths room =
      let same : (s : Stay) → In s (stays_of night blocks) ↔ In s (map (later 0) own)
      ⊎ In s before.stays = subst (λ (w : Night). (s : Stay) → In s (stays_of w blocks) ↔ In s (map (later 0) own) ⊎ In s before.stays) (never_late i night)
      (late_members i 0 (in_time_now i feasible) own before o) in
      record {
        members = λ s. (λ j. (same s).1 ((come s).0 j), λ j. (come s).1 ((same s).0 j));
        lengths = lengths ∙ o.lengths;
        room = let r = o.room in omega arith;
      }

  -- ---- all come to empty timelines

  same_map : (own : List Stay) → map (later 0) own ≡ own
  same_map [] = refl
  same_map (s ∷ own) = ap (λ (t : Stay). t ∷ map (later 0) own) (on_time s) ∙ ap (λ (l : List Stay). s ∷ l) (same_map own)

  pub first_come : (stays : List Stay) (held : Holding) → stays ≡ stays_of night blocks → held.stays ≡ [] → held.lengths ≡ track_lengths night.station → 400 ≤ held.spare
      → CanCome stays 0 held
  first_come stays held is none lengths room =
      let count : length stays ≤ 400 = subst (λ (l : List Stay). length l ≤ 400) (sym is) (few_stays night blocks h) in
      let empty : length held.stays ≡ 0 = ap (λ (l : List Stay). length l) none in
      record {
        few = omega arith;
        begin = λ s j. own_begins s (subst (λ (l : List Stay). In s l) is j);
        formed = subst AreStays (sym (same_map stays ∙ is)) formed;
        tracks = λ s j. subst (λ (ls : List ℕ). s.track.0 < length ls) (sym lengths) (own_tracks s (subst (λ (l : List Stay). In s l) is j));
        new = λ s j. absurd (subst (λ (l : List Stay). In s l) none j);
        most = omega arith;
        room = omega arith;
      }

  pub all_come : (stays : List Stay) (before after : Holding) → stays ≡ stays_of night blocks → before.stays ≡ [] → before.lengths ≡ track_lengths night.station
      → 400 ≤ before.spare
      → ((s : Stay) → In s after.stays ↔ In s (map (later 0) stays) ⊎ In s before.stays) → after.lengths ≡ before.lengths
      → after.spare + length after.stays ≡ before.spare + length before.stays → AreAll night blocks after
  all_come stays before after is none lengths room come same total = record {
    members = λ s. (
      λ j. ⊎_elim (λ m. subst (λ (l : List Stay). In s l) (same_map stays ∙ is) m) (λ m. absurd (subst (λ (l : List Stay). In s l) none m)) ((come s).0 j),
      λ j. (come s).1 (inl (subst (λ (l : List Stay). In s l) (sym (same_map stays ∙ is)) j)),
    );
    lengths = same ∙ lengths;
    room = omega arith;
  }

pub still_others : (night : Night) (blocks : List Block) (i : ℕ) (own : List Stay) (before after : Holding) → AreOthers night blocks i own before → Hold before after
    → AreOthers night blocks i own after
still_others night blocks i own before after o h = record {
  own_are = o.own_are;
  members = λ s. (λ j. (o.members s).0 ((h.members s).0 j), λ m. (h.members s).1 ((o.members s).1 m));
  lengths = h.lengths ∙ o.lengths;
  room = let r = o.room in let q = h.room in omega arith;
}

pub held_still : (h : Holding) → Hold h h
held_still h = record { members = λ s. (λ j. j, λ j. j); lengths = refl; room = refl }

pub held_on : (a b c : Holding) → Hold a b → Hold b c → Hold a c
held_on a b c p q = record {
  members = λ s. (λ j. (p.members s).0 ((q.members s).0 j), λ j. (q.members s).1 ((p.members s).1 j));
  lengths = q.lengths ∙ p.lengths;
  room = q.room ∙ p.room;
}
