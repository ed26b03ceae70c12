-- The tests of events and stays, by the numbers of their keys.
use Rattle.std.proofs.Common.{◌≡◌, ℕ, ◌<◌, ◌≤◌, ltb, true, false, cond, List, length, get_or, take, drop, sym, subst, ◌∙◌, arith}
use Rattle.std.proofs.lemmas.Bool.{ltb-true, ltb-false, lt-ltb}
use Rattle.std.specs.List.Sorted.{IsPartitionedBy, IsPartitionPoint}
use Rattle.shunt_lists.proofs.Members.{in_place, in_take, in_drop}
use Rattle.shunt_lists.specs.defs.Members.{In, Ascends}
use Rattle.shunt_base.specs.declared.keys.EventKey.{EventKey}
use Rattle.shunt_base.specs.defs.Keys.{rank, IsKey, IsWellFormed}
use Rattle.shunt_stays.specs.defs.Events.{key_before}
use Rattle.shunt_stays.proofs.Halves.{before_is}
use Rattle.shunt_timeline.specs.declared.events.StayEvent.{StayEvent}
use Rattle.shunt_timeline.specs.defs.Levels.{key_of, at}
use Rattle.shunt_timeline.proofs.Lists.{ascends_at}

pub key_in : (e : StayEvent) → IsWellFormed e.stay → IsKey (key_of e)
key_in e w = elim e.enters as (λ b. IsKey (cond b e.stay.enter e.stay.leave)) [ true ↦ w.enter_in | false ↦ w.leave_in ]

-- the place of a key among events
module _ (xs : List StayEvent) (k : EventKey) (a : Ascends at xs) (w : (e : StayEvent) → In e xs → IsWellFormed e.stay) (q : IsKey k) where
  is_at : (i : ℕ) (d : StayEvent) → i < length xs → key_before (key_of (get_or xs i d)) k ≡ ltb (at (get_or xs i d)) (rank k)
  is_at i d lt = before_is (key_of (get_or xs i d)) k (key_in (get_or xs i d) (w (get_or xs i d) (in_place xs i d lt))) q

  pub parted : IsPartitionedBy (λ y. key_before (key_of y) k) xs
  parted i j d le lt t =
      let later : at (get_or xs j d) < rank k = ltb-true (at (get_or xs j d)) (rank k) (sym (is_at j d lt) ∙ t) in
      let up : at (get_or xs i d) ≤ at (get_or xs j d) = ascends_at at xs i j d a le lt in
      is_at i d (omega arith) ∙ lt-ltb (at (get_or xs i d)) (rank k) (omega arith)

  module _ (n : ℕ) (point : IsPartitionPoint (λ y. key_before (key_of y) k ≡ true) (λ y. key_before (key_of y) k ≡ false) xs n) where
    pub placed_before : (e : StayEvent) → In e (take n xs) → at e < rank k
    placed_before e h =
        let p = in_take n xs e h in
        subst (λ (z : StayEvent). at z < rank k) p.3 (ltb-true (at (get_or xs p.0 e)) (rank k) (sym (is_at p.0 e p.2) ∙ point.0 p.0 e (omega arith) p.1))

    pub placed_after : (e : StayEvent) → In e (drop n xs) → rank k ≤ at e
    placed_after e h =
        let p = in_drop n xs e h in
        subst (λ (z : StayEvent). rank k ≤ at z) p.3 (ltb-false (at (get_or xs p.0 e)) (rank k) (sym (is_at p.0 e p.2) ∙ point.1 p.0 e p.1 p.2))
