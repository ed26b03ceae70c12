-- A stay's entry and its leave, in the order of their keys as numbers.
use Rattle.std.proofs.Common.{◌≡◌, ◌≢◌, ◌⊎◌, inl, inr, ⊎_elim, ◌↔◌, ℕ, ◌^◌, ◌<◌, Bool, true, false, cond, ltb, List, [], ◌∷◌, map, refl, sym, subst, ap, ◌∙◌, arith}
use Rattle.std.specs.Ordering.{nat_cmp, is_lt}
use Rattle.std.proofs.lemmas.Bool.{cases_Bool, ltb-true, ltb-false}
use Rattle.std.proofs.lemmas.Bool.Decides.{nat_tests}
use Rattle.shunt_lists.proofs.Members.{all_in, all_from, Distinct}
use Rattle.shunt_lists.specs.defs.Members.{In, Ascends}
use Rattle.shunt_base.specs.declared.keys.EventKey.{EventKey}
use Rattle.shunt_base.specs.declared.keys.Stay.{Stay}
use Rattle.shunt_base.specs.defs.Keys.{rank, IsKey, IsWellFormed, AreStays}
use Rattle.shunt_base.proofs.Ranks.{key_cmp_is, is_before}
use Rattle.shunt_stays.specs.defs.Events.{Move, entry_of, leave_of, key_before, insert_by_key, in_order}

-- a stay's entry (true) or its leave
abbrev pub Half : Type 0
Half = Stay × Bool

abbrev pub key_of : Half → EventKey
key_of (s, true) = s.enter
key_of (s, false) = s.leave

abbrev pub at : Half → ℕ
at (s, true) = rank s.enter
at (s, false) = rank s.leave

abbrev pub move_of : Half → Move
move_of (s, true) = entry_of s
move_of (s, false) = leave_of s

-- halves that are equal are of one stay
pub same_stay : (s t : Stay) (x y : Bool) → ◌≡◌ {A = Half} (s, x) (t, y) → s ≡ t
same_stay s t x y e = ap (λ (m : Half). m.0) e

abbrev pub insert_half : Half → List Half → List Half
insert_half m [] = m ∷ []
insert_half m (n ∷ halves) = cond (ltb (at m) (at n)) (m ∷ n ∷ halves) (n ∷ insert_half m halves)

abbrev pub halves_of : List Stay → List Half
halves_of [] = []
halves_of (s ∷ stays) = insert_half (s, true) (insert_half (s, false) (halves_of stays))

-- the entries and leaves of these stays, in the order of their keys
pub record InKeyOrder (stays : List Stay) (halves : List Half) : Type 0 where
  pub ascends : Ascends at halves
  pub enters : (s : Stay) → In (s, true) halves ↔ In s stays
  pub leaves : (s : Stay) → In (s, false) halves ↔ In s stays
  pub later : (s : Stay) → In s stays → rank s.enter < rank s.leave
  pub distinct : Distinct stays

pub formed : (stays : List Stay) (s : Stay) → AreStays stays → In s stays → IsWellFormed s
formed [] s a h = absurd h
formed (t ∷ stays) s a (inl e) = subst IsWellFormed (sym e) a.0
formed (t ∷ stays) s a (inr h) = formed stays s a.2 h

pub later_rank : (s : Stay) → IsWellFormed s → rank s.enter < rank s.leave
later_rank s w = (is_before s.enter s.leave w.enter_in w.leave_in).0 w.later

-- keys with two ids differ
pub ids_apart : (k l : EventKey) → k.id < 2 ^ 32 → l.id < 2 ^ 32 → rank k ≡ rank l → k.id ≡ l.id
unfolding rank
ids_apart k l a b e = omega arith

-- one stay of one id
pub same_id : (stays : List Stay) (s t : Stay) → AreStays stays → In s stays → In t stays → s.id ≡ t.id → s ≡ t
same_id [] s t a h i e = absurd h
same_id (x ∷ stays) s t a (inl f) (inl g) e = f ∙ sym g
same_id (x ∷ stays) s t a (inl f) (inr i) e = absurd (all_in (λ u. x.id ≢ u.id) stays t a.1 i (ap (λ (z : Stay). z.id) (sym f) ∙ e))
same_id (x ∷ stays) s t a (inr h) (inl g) e = absurd (all_in (λ u. x.id ≢ u.id) stays s a.1 h (ap (λ (z : Stay). z.id) (sym g) ∙ sym e))
same_id (x ∷ stays) s t a (inr h) (inr i) e = same_id stays s t a.2 h i e

module _ (m : Half) where
  pub insert_by : (n : Half) (halves : List Half) (b : Bool) → ltb (at m) (at n) ≡ b → insert_half m (n ∷ halves) ≡ cond b (m ∷ n ∷ halves) (n ∷ insert_half m halves)
  insert_by n halves b e = ap (λ x. cond x (m ∷ n ∷ halves) (n ∷ insert_half m halves)) e

  pub in_insert : (halves : List Half) (x : Half) → In x (insert_half m halves) → (x ≡ m) ⊎ In x halves
  in_insert [] x h = h
  in_insert (n ∷ halves) x h = ⊎_elim (λ t. subst (In x) (insert_by n halves true t) h)
      (λ t. ⊎_elim (λ e. inr (inl e)) (λ i. ⊎_elim (λ e. inl e) (λ j. inr (inr j)) (in_insert halves x i)) (subst (In x) (insert_by n halves false t) h))
      (cases_Bool (ltb (at m) (at n)))

  insert_here : (halves : List Half) → In m (insert_half m halves)
  insert_here [] = inl refl
  insert_here (n ∷ halves) = ⊎_elim (λ t. subst (In m) (sym (insert_by n halves true t)) (inl refl))
      (λ t. subst (In m) (sym (insert_by n halves false t)) (inr (insert_here halves))) (cases_Bool (ltb (at m) (at n)))

  insert_there : (halves : List Half) (x : Half) → In x halves → In x (insert_half m halves)
  insert_there [] x h = absurd h
  insert_there (n ∷ halves) x h = ⊎_elim (λ t. subst (In x) (sym (insert_by n halves true t)) (inr h))
      (λ t. subst (In x) (sym (insert_by n halves false t)) (⊎_elim (λ e. inl e) (λ i. inr (insert_there halves x i)) h)) (cases_Bool (ltb (at m) (at n)))

  insert_ascends : (halves : List Half) → Ascends at halves → ((n : Half) → In n halves → at m ≢ at n) → Ascends at (insert_half m halves)
  insert_ascends [] a ne = (tt, tt)
  insert_ascends (n ∷ halves) a ne =
      ⊎_elim (λ t. let lt = ltb-true _ _ t in subst (Ascends at) (sym (insert_by n halves true t))
      ((lt, all_from (λ x. at m < at x) halves (λ x i. let gt : at n < at x = all_in (λ y. at n < at y) halves x a.0 i in omega arith)), a))
      (λ t. let le = ltb-false _ _ t in let differ = ne n (inl refl) in subst (Ascends at) (sym (insert_by n halves false t)) (
        all_from (λ x. at n < at x) (insert_half m halves) (λ x i. ⊎_elim (λ e. omega (arith, ap at e)) (λ j. all_in (λ y. at n < at y) halves x a.0 j) (in_insert halves x i)),
        insert_ascends halves a.1 (λ x i. ne x (inr i)),
      ))
      (cases_Bool (ltb (at m) (at n)))

-- a half in order is one of a stay
pub of_stay : (stays : List Stay) (m : Half) → In m (halves_of stays) → In m.0 stays
of_stay [] m h = absurd h
of_stay (t ∷ stays) m h =
    ⊎_elim (λ e. inl (ap (λ (x : Half). x.0) e)) (λ i. ⊎_elim (λ e. inl (ap (λ (x : Half). x.0) e)) (λ j. inr (of_stay stays m j)) (in_insert (t, false) (halves_of stays) m i))
    (in_insert (t, true) (insert_half (t, false) (halves_of stays)) m h)

pub entry_in : (stays : List Stay) (s : Stay) → In s stays → In (s, true) (halves_of stays)
entry_in [] s h = absurd h
entry_in (t ∷ stays) s (inl e) = subst (λ (z : Stay). In (z, true) (halves_of (t ∷ stays))) (sym e) (insert_here (t, true) (insert_half (t, false) (halves_of stays)))
entry_in (t ∷ stays) s (inr h) = insert_there (t, true) (insert_half (t, false) (halves_of stays)) (s, true)
    (insert_there (t, false) (halves_of stays) (s, true) (entry_in stays s h))

pub leave_in : (stays : List Stay) (s : Stay) → In s stays → In (s, false) (halves_of stays)
leave_in [] s h = absurd h
leave_in (t ∷ stays) s (inl e) = subst (λ (z : Stay). In (z, false) (halves_of (t ∷ stays))) (sym e)
    (insert_there (t, true) (insert_half (t, false) (halves_of stays)) (t, false) (insert_here (t, false) (halves_of stays)))
leave_in (t ∷ stays) s (inr h) = insert_there (t, true) (insert_half (t, false) (halves_of stays)) (s, false)
    (insert_there (t, false) (halves_of stays) (s, false) (leave_in stays s h))

pub half_in : (stays : List Stay) (m : Half) → In m.0 stays → In m (halves_of stays)
half_in stays (s, true) h = entry_in stays s h
half_in stays (s, false) h = leave_in stays s h

-- the id that a half's key carries
id_at : (m : Half) → IsWellFormed m.0 → (k : EventKey) × (at m ≡ rank k) × (k.id < 2 ^ 32) × (k.id ≡ m.0.id)
id_at (s, true) w = (s.enter, refl, w.enter_in.id, w.enter_id)
id_at (s, false) w = (s.leave, refl, w.leave_in.id, w.leave_id)

pub halves_differ : (m n : Half) → IsWellFormed m.0 → IsWellFormed n.0 → m.0.id ≢ n.0.id → at m ≢ at n
halves_differ m n w v ne e =
    let k = id_at m w in
    let l = id_at n v in
    ne (sym k.3 ∙ ids_apart k.0 l.0 k.2 l.2 (sym k.1 ∙ e ∙ l.1) ∙ l.3)

ascending : (stays : List Stay) → AreStays stays → Ascends at (halves_of stays)
ascending [] a = tt
ascending (t ∷ stays) a =
    let others : (b : Bool) (n : Half) → In n (halves_of stays) → at (t, b) ≢ at n = λ b n h.
    let i = of_stay stays n h in halves_differ (t, b) n a.0 (formed stays n.0 a.2 i) (all_in (λ u. t.id ≢ u.id) stays n.0 a.1 i) in
    insert_ascends (t, true) (insert_half (t, false) (halves_of stays)) (insert_ascends (t, false) (halves_of stays) (ascending stays a.2) (others false))
    (λ n h. ⊎_elim (λ e f. let lt = later_rank t a.0 in let is : rank t.enter ≡ rank t.leave = f ∙ ap at e in absurd (omega arith)) (λ i. others true n i)
    (in_insert (t, false) (halves_of stays) n h))

distinct_stays : (stays : List Stay) → AreStays stays → Distinct stays
distinct_stays [] a = tt
distinct_stays (t ∷ stays) a = (λ h. all_in (λ u. t.id ≢ u.id) stays t a.1 h refl, distinct_stays stays a.2)

pub ordered : (stays : List Stay) → AreStays stays → InKeyOrder stays (halves_of stays)
ordered stays a = record {
  ascends = ascending stays a;
  enters = λ s. (λ h. of_stay stays (s, true) h, λ h. entry_in stays s h);
  leaves = λ s. (λ h. of_stay stays (s, false) h, λ h. leave_in stays s h);
  later = λ s h. later_rank s (formed stays s a h);
  distinct = distinct_stays stays a;
}

-- the test of two keys is that of their ranks
lt_is : (a b : ℕ) → is_lt (nat_cmp a b) ≡ ltb a b
lt_is a b = grind (arith, nat_tests)

pub before_is : (k l : EventKey) → IsKey k → IsKey l → key_before k l ≡ ltb (rank k) (rank l)
before_is k l p q = ap is_lt (key_cmp_is k l p q) ∙ lt_is (rank k) (rank l)

half_before : (m n : Half) → IsWellFormed m.0 → IsWellFormed n.0 → key_before (move_of m).key (move_of n).key ≡ ltb (at m) (at n)
half_before (s, true) (t, true) w v = before_is s.enter t.enter w.enter_in v.enter_in
half_before (s, true) (t, false) w v = before_is s.enter t.leave w.enter_in v.leave_in
half_before (s, false) (t, true) w v = before_is s.leave t.enter w.leave_in v.enter_in
half_before (s, false) (t, false) w v = before_is s.leave t.leave w.leave_in v.leave_in

insert_is : (m : Half) (halves : List Half) → IsWellFormed m.0 → ((n : Half) → In n halves → IsWellFormed n.0)
    → insert_by_key (move_of m) (map move_of halves) ≡ map move_of (insert_half m halves)
insert_is m [] w all = refl
insert_is m (n ∷ halves) w all =
    let t = half_before m n w (all n (inl refl)) in
    let rest = insert_is m halves w (λ x i. all x (inr i)) in
    ⊎_elim (λ u. ap (λ b. cond b (move_of m ∷ move_of n ∷ map move_of halves) (move_of n ∷ insert_by_key (move_of m) (map move_of halves))) (t ∙ u)
    ∙ ap (map move_of) (sym (insert_by m n halves true u)))
    (λ u. ap (λ b. cond b (move_of m ∷ move_of n ∷ map move_of halves) (move_of n ∷ insert_by_key (move_of m) (map move_of halves))) (t ∙ u)
    ∙ ap (λ (l : List Move). move_of n ∷ l) rest ∙ ap (map move_of) (sym (insert_by m n halves false u)))
    (cases_Bool (ltb (at m) (at n)))

-- the events in key order are the halves in the order of ranks
pub in_order_is : (stays : List Stay) → AreStays stays → in_order stays ≡ map move_of (halves_of stays)
in_order_is [] a = refl
in_order_is (s ∷ stays) a =
    let all : (n : Half) → In n (halves_of stays) → IsWellFormed n.0 = λ n i. formed stays n.0 a.2 (of_stay stays n i) in
    ap (λ (l : List Move). insert_by_key (entry_of s) (insert_by_key (leave_of s) l)) (in_order_is stays a.2)
    ∙ ap (insert_by_key (entry_of s)) (insert_is (s, false) (halves_of stays) a.0 all)
    ∙ insert_is (s, true) (insert_half (s, false) (halves_of stays)) a.0 (λ n i. ⊎_elim (λ e. subst (λ (z : Half). IsWellFormed z.0) (sym e) a.0) (λ j. all n j)
    (in_insert (s, false) (halves_of stays) n i))
