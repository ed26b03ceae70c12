-- Events that are sorted by their keys, and stays in another order.
use Rattle.std.proofs.Common.{◌≡◌, ◌≢◌, inl, inr, ⊎_elim, ℕ, suc, ◌+◌, ◌<◌, ◌≤◌, eqb, Bool, true, false, List, [], ◌∷◌, length, get_or, map, refl, sym, subst, ap, ◌∙◌, arith, Ordering, IsPermutation, ◌++◌, ◌⊎◌, if◌then◌else◌, ◌*◌}
use Rattle.std.specs.List.{AllByRecursion, IsDistinct}
use Rattle.std.specs.List.Sorted.{IsSorted}
use Rattle.std.specs.Ordering.{is_lt}
use Rattle.std.proofs.lemmas.Bool.{cases_lt, eqb-false, ne_eqb}
use Rattle.std.proofs.lemmas.Bool.Decides.{nat_tests}
use Rattle.std.proofs.lemmas.List.Concat.{flat_map-cons}
use Rattle.std.proofs.lemmas.List.Sorted.{Contains-permutation, IsPermutation-sym, IsPermutation-refl, IsPermutation-cons, IsPermutation-trans, IsPermutation-middle}
use Rattle.std.proofs.lemmas.Map.Keys.{IsDistinct-IsPermutation, ge_from_not_lt}
use Rattle.shunt_lists.proofs.Members.{all_in, all_from, in_cases, in_from, in_to, in_map, of_map, in_place}
use Rattle.shunt_lists.specs.defs.Members.{In, Ascends}
use Rattle.shunt_base.specs.declared.keys.Stay.{Stay}
use Rattle.shunt_base.specs.defs.Keys.{key_cmp, rank, IsKey, IsWellFormed, AreStays}
use Rattle.shunt_base.proofs.Ranks.{key_cmp_is}
use Rattle.shunt_stays.specs.defs.Events.{Move, entry_of, leave_of, moves_of, in_order, key_before, insert_by_key}
use Rattle.shunt_stays.specs.defs.Run.{AreOnTracks}
use Rattle.shunt_stays.proofs.AscendingLists.{unique}
use Rattle.shunt_stays.proofs.Halves.{Half, at, move_of, halves_of, ordered, formed, later_rank, ids_apart, of_stay, half_in, in_order_is}
use Rattle.shunt_stays.proofs.Fewer.{order_same, on_tracks}
use Rattle.std.specs.Prelude.{◌↔◌}
use Rattle.shunt_lists.proofs.Lists.{either_long}

-- members of a list in another order
pub in_permuted : {X : Type 0} (xs ys : List X) (x : X) → IsPermutation xs ys → In x xs → In x ys
in_permuted xs ys x p h = in_from ys x (Contains-permutation xs ys x p (in_to xs x h))

pub of_permuted : {X : Type 0} (xs ys : List X) (x : X) → IsPermutation xs ys → In x ys → In x xs
of_permuted xs ys x p h = in_permuted ys xs x (IsPermutation-sym xs ys p) h

abbrev same_ids : Stay → Stay → Bool
same_ids s t = eqb s.id t.id

ids_flip : (s t : Stay) → same_ids s t ≡ same_ids t s
ids_flip s t = grind (arith, nat_tests)

ids_distinct : (stays : List Stay) → AreStays stays → IsDistinct same_ids stays
unfolding IsDistinct
ids_distinct [] a = tt
ids_distinct (s ∷ stays) a = (all_from (λ t. same_ids s t ≡ false) stays (λ t h. ne_eqb s.id t.id (all_in (λ u. s.id ≢ u.id) stays t a.1 h)), ids_distinct stays a.2)

from_distinct : (stays : List Stay) → IsDistinct same_ids stays → ((s : Stay) → In s stays → IsWellFormed s) → AreStays stays
unfolding IsDistinct
from_distinct [] d w = tt
from_distinct (s ∷ stays) d w = (
  w s (inl refl),
  all_from (λ t. s.id ≢ t.id) stays (λ t h. eqb-false s.id t.id (all_in (λ u. same_ids s u ≡ false) stays t d.0 h)),
  from_distinct stays d.1 (λ t h. w t (inr h)),
)

pub stays_permuted : (stays others : List Stay) → AreStays stays → IsPermutation stays others → AreStays others
stays_permuted stays others a p = from_distinct others (IsDistinct-IsPermutation same_ids ids_flip stays others p (ids_distinct stays a))
    (λ s h. formed stays s a (of_permuted stays others s p h))

pub order_permuted : (stays others : List Stay) → AreStays stays → IsPermutation stays others → in_order stays ≡ in_order others
order_permuted stays others a p = order_same stays others a (stays_permuted stays others a p) (λ s. (in_permuted stays others s p, of_permuted stays others s p))

-- tracks of members
pub tracks_from : (lengths : List ℕ) (stays : List Stay) → ((s : Stay) → In s stays → s.track.0 < length lengths) → AreOnTracks lengths stays
tracks_from lengths stays h = λ k d lt. h (get_or stays k d) (in_place stays k d lt)

pub tracks_within : (lengths : List ℕ) (stays part : List Stay) → AreOnTracks lengths stays → ((s : Stay) → In s part → In s stays) → AreOnTracks lengths part
tracks_within lengths stays part on within = tracks_from lengths part (λ s h. on_tracks lengths stays s on (within s h))

-- an event of one of these stays, as the half that it is
of_moves : (stays : List Stay) (m : Move) → In m (moves_of stays) → (h : Half) × In h.0 stays × (m ≡ move_of h)
of_moves [] m h = absurd h
of_moves (s ∷ stays) m h =
    ⊎_elim (λ i. first i) (λ i. let r = of_moves stays m i in (r.0, inr r.1, r.2))
    (in_cases (entry_of s ∷ leave_of s ∷ []) (moves_of stays) m (subst (In m) (flat_map-cons (λ (z : Stay). entry_of z ∷ leave_of z ∷ []) s stays) h))
  where
    first : In m (entry_of s ∷ leave_of s ∷ []) → (h : Half) × In h.0 (s ∷ stays) × (m ≡ move_of h)
    first (inl e) = ((s, true), inl refl, e)
    first (inr (inl e)) = ((s, false), inl refl, e)
    first (inr (inr n)) = absurd n

own_moves : (s : Stay) (stays : List Stay) (h : Half) → h.0 ≡ s → In (move_of h) (moves_of (s ∷ stays))
own_moves s stays (t, true) e = subst (In (entry_of t)) (sym (flat_map-cons (λ (z : Stay). entry_of z ∷ leave_of z ∷ []) s stays)) (inl (ap entry_of e))
own_moves s stays (t, false) e = subst (In (leave_of t)) (sym (flat_map-cons (λ (z : Stay). entry_of z ∷ leave_of z ∷ []) s stays)) (inr (inl (ap leave_of e)))

to_moves : (stays : List Stay) (h : Half) → In h.0 stays → In (move_of h) (moves_of stays)
to_moves [] h i = absurd i
to_moves (s ∷ stays) h (inl e) = own_moves s stays h e
to_moves (s ∷ stays) h (inr i) = subst (In (move_of h)) (sym (flat_map-cons (λ (z : Stay). entry_of z ∷ leave_of z ∷ []) s stays)) (inr (inr (to_moves stays h i)))

abbrev when : Move → ℕ
when m = rank m.key

when_is : (h : Half) → when (move_of h) ≡ at h
when_is (s, true) = refl
when_is (s, false) = refl

key_in : (h : Half) → IsWellFormed h.0 → IsKey (move_of h).key × ((move_of h).key.id ≡ h.0.id)
key_in (s, true) w = (w.enter_in, w.enter_id)
key_in (s, false) w = (w.leave_in, w.leave_id)

-- the events in key order ascend by the numbers of their keys
ascends_map : (halves : List Half) → Ascends at halves → Ascends when (map move_of halves)
ascends_map [] a = tt
ascends_map (h ∷ halves) a = (
  all_from (λ m. when (move_of h) < when m) (map move_of halves) (λ m i. let r = of_map move_of halves m i in
      let lt : at h < at r.0 = all_in (λ n. at h < at n) halves r.0 a.0 r.1 in
      omega (arith, when_is h, when_is r.0, ap when r.2)),
  ascends_map halves a.1,
)

abbrev same_rank : Move → Move → Bool
same_rank m n = eqb (when m) (when n)

ranks_flip : (m n : Move) → same_rank m n ≡ same_rank n m
ranks_flip m n = grind (arith, nat_tests)

-- an event of a stay, and one of a stay with another id
ranks_apart : (s : Stay) (stays : List Stay) (h : Half) (n : Move) → IsWellFormed s → AreStays stays → AllByRecursion (λ t. s.id ≢ t.id) stays → h.0 ≡ s → In n (moves_of stays)
    → same_rank (move_of h) n ≡ false
ranks_apart s stays h n w a d e i =
    let r = of_moves stays n i in
    let k = key_in h (subst IsWellFormed (sym e) w) in
    let l = key_in r.0 (formed stays r.0.0 a r.1) in
    ne_eqb (when (move_of h)) (when n) (λ f. all_in (λ t. s.id ≢ t.id) stays r.0.0 d r.1 (
    ap (λ (z : Stay). z.id) (sym e) ∙ sym k.1 ∙ ids_apart (move_of h).key (move_of r.0).key k.0.id l.0.id (f ∙ ap when r.2) ∙ l.1))

distinct_moves : (stays : List Stay) → AreStays stays → IsDistinct same_rank (moves_of stays)
unfolding IsDistinct
distinct_moves [] a = tt
distinct_moves (s ∷ stays) a =
    subst (IsDistinct same_rank) (sym (flat_map-cons (λ (z : Stay). entry_of z ∷ leave_of z ∷ []) s stays)) (
      (
        ne_eqb (rank s.enter) (rank s.leave) (λ f. absurd (let lt = later_rank s a.0 in omega arith)),
        all_from (λ n. same_rank (entry_of s) n ≡ false) (moves_of stays) (λ n h. ranks_apart s stays (s, true) n a.0 a.2 a.1 refl h),
      ),
      (all_from (λ n. same_rank (leave_of s) n ≡ false) (moves_of stays) (λ n h. ranks_apart s stays (s, false) n a.0 a.2 a.1 refl h), distinct_moves stays a.2),
    )

abbrev by_key : Move → Move → Ordering
by_key m n = key_cmp m.key n.key

sorted_tail : (m : Move) (moves : List Move) → IsSorted by_key (m ∷ moves) → IsSorted by_key moves
sorted_tail m moves s = λ k e low high. subst (λ i. is_lt (by_key (get_or (m ∷ moves) i e) (get_or moves k e)) ≡ false) (let f : suc k + 1 ≡ suc (k + 1) = omega arith in f)
    (s (suc k) e (omega arith) (omega arith))

ascends_sorted : (moves : List Move) → IsSorted by_key moves → IsDistinct same_rank moves → ((m : Move) → In m moves → IsKey m.key) → Ascends when moves
unfolding IsDistinct
ascends_sorted [] s d q = tt
ascends_sorted (m ∷ []) s d q = (tt, tt)
ascends_sorted (m ∷ n ∷ moves) s d q =
    let le : when m ≤ when n = ge_from_not_lt (when n) (when m) (ap is_lt (sym (key_cmp_is n.key m.key (q n (inr (inl refl))) (q m (inl refl))))
    ∙ s 0 m (omega arith) (omega arith)) in
    let ne = eqb-false (when m) (when n) d.0.0 in
    let lt : when m < when n = ⊎_elim (λ x. x) (λ x. absurd (ne (omega arith))) (cases_lt (when m) (when n)) in
    let rest = ascends_sorted (n ∷ moves) (sorted_tail m (n ∷ moves) s) d.1 (λ x h. q x (inr h)) in (
      all_from (λ x. when m < when x) (n ∷ moves) (λ x h. ⊎_elim (λ f. omega (arith, ap when f))
          (λ i. let gt : when n < when x = all_in (λ y. when n < when y) moves x rest.0 i in omega arith) h),
      rest,
    )

-- any sort of the entries and leaves gives the events in key order
pub sorted_is : (stays : List Stay) (moves : List Move) → AreStays stays → IsPermutation (moves_of stays) moves → IsSorted by_key moves → moves ≡ in_order stays
sorted_is stays moves a p s =
    unique when moves (map move_of (halves_of stays)) (ascends_sorted moves s (IsDistinct-IsPermutation same_rank ranks_flip (moves_of stays) moves p (distinct_moves stays a))
    (λ m h. keyed m h)) (ascends_map (halves_of stays) (ordered stays a).ascends) (λ m. (λ h. to m h, λ h. from m h)) ∙ sym (in_order_is stays a)
  where
    was : (m : Move) → In m moves → (h : Half) × In h.0 stays × (m ≡ move_of h)
    was m h = of_moves stays m (of_permuted (moves_of stays) moves m p h)

    keyed : (m : Move) → In m moves → IsKey m.key
    keyed m h = let r = was m h in subst (λ (z : Move). IsKey z.key) (sym r.2) (key_in r.0 (formed stays r.0.0 a r.1)).0

    to : (m : Move) → In m moves → In m (map move_of (halves_of stays))
    to m h = let r = was m h in subst (λ (z : Move). In z (map move_of (halves_of stays))) (sym r.2) (in_map move_of (halves_of stays) r.0 (half_in stays r.0 r.1))

    from : (m : Move) → In m (map move_of (halves_of stays)) → In m moves
    from m h = let r = of_map move_of (halves_of stays) m h in subst (λ (z : Move). In z moves) (sym r.2)
        (in_permuted (moves_of stays) moves (move_of r.0) p (to_moves stays r.0 (of_stay stays r.0 r.1)))

pub record Split (x : Stay) (xs : List Stay) : Type 0 where
  pub front : List Stay
  pub back : List Stay
  pub is : xs ≡ front ++ x ∷ back

pub split : (x : Stay) (xs : List Stay) → In x xs → Split x xs
split x [] i = absurd i
split x (y ∷ xs) (inl e) = record { front = []; back = xs; is = ap (λ (z : Stay). z ∷ xs) (sym e) }
split x (y ∷ xs) (inr i) = let r = split x xs i in record { front = y ∷ r.front; back = r.back; is = ap (λ (l : List Stay). y ∷ l) r.is }

pub same_members : (xs ys : List Stay) → AreStays xs → AreStays ys → ((s : Stay) → In s xs ↔ In s ys) → IsPermutation xs ys
same_members [] [] a b same = IsPermutation-refl []
same_members [] (y ∷ ys) a b same = absurd ((same y).1 (inl refl))
same_members (x ∷ xs) ys a b same =
    let r = split x ys ((same x).0 (inl refl)) in
    let moved : IsPermutation ys (x ∷ (r.front ++ r.back)) = subst (λ (l : List Stay). IsPermutation l (x ∷ (r.front ++ r.back))) (sym r.is)
    (IsPermutation-middle r.front x r.back) in
    let others : AreStays (x ∷ (r.front ++ r.back)) = stays_permuted ys (x ∷ (r.front ++ r.back)) b moved in
    let rest : IsPermutation xs (r.front ++ r.back) = same_members xs (r.front ++ r.back) a.2 others.2 (λ s. (
      λ i. ⊎_elim (λ e. absurd (all_in (λ t. x.id ≢ t.id) xs s a.1 i (ap (λ (t : Stay). t.id) (sym e)))) (λ j. j)
          (in_permuted ys (x ∷ (r.front ++ r.back)) s moved ((same s).0 (inr i))),
      λ i. ⊎_elim (λ e. absurd (all_in (λ t. x.id ≢ t.id) (r.front ++ r.back) s others.1 i (ap (λ (t : Stay). t.id) (sym e)))) (λ j. j)
          ((same s).1 (of_permuted ys (x ∷ (r.front ++ r.back)) s moved (inr i))),
    )) in
    IsPermutation-trans (x ∷ xs) (x ∷ (r.front ++ r.back)) ys (IsPermutation-cons x xs (r.front ++ r.back) rest) (IsPermutation-sym ys (x ∷ (r.front ++ r.back)) moved)

-- an event that is put among others is in the list with them
pub inserted : (m n : Move) (moves : List Move) → In n (insert_by_key m moves) → (n ≡ m) ⊎ In n moves
inserted m n [] (inl e) = inl e
inserted m n [] (inr h) = absurd h
inserted m n (o ∷ moves) h = at (key_before m.key o.key) (inserted m n moves) h
  where
    at : (t : Bool) → (In n (insert_by_key m moves) → (n ≡ m) ⊎ In n moves) → In n (if t then m ∷ o ∷ moves else o ∷ insert_by_key m moves) → (n ≡ m) ⊎ In n (o ∷ moves)
    at true later (inl e) = inl e
    at true later (inr i) = inr i
    at false later (inl e) = inr (inl e)
    at false later (inr i) = ⊎_elim (λ e. inl e) (λ j. inr (inr j)) (later i)

inserted_long : (m : Move) (moves : List Move) → length (insert_by_key m moves) ≡ length moves + 1
inserted_long m [] = refl
inserted_long m (n ∷ moves) = either_long (key_before m.key n.key) (m ∷ n ∷ moves) (n ∷ insert_by_key m moves) (length (n ∷ moves) + 1) (omega arith)
    (omega (arith, inserted_long m moves))

pub events_long : (stays : List Stay) → length (in_order stays) ≡ 2 * length stays
events_long [] = refl
events_long (s ∷ stays) = omega (arith, inserted_long (entry_of s) (insert_by_key (leave_of s) (in_order stays)), inserted_long (leave_of s) (in_order stays), events_long stays)
