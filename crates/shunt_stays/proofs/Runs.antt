-- The run of one track goes through exactly when no two stays meet and no entry is over, from any state on.
use Rattle.std.proofs.Common.{◌≡◌, ◌≢◌, ◌⊎◌, inl, inr, ⊎_elim, ℕ, ◌<◌, ◌≤◌, leb, ltb, Bool, true, false, List, [], ◌∷◌, refl, sym, subst, ap, arith}
use Rattle.std.proofs.lemmas.Bool.{true≢false, false≢true, and_parts, leb-true, ltb-true}
use Rattle.std.proofs.lemmas.Bool.Decides.{nat_tests}
use Rattle.shunt_lists.proofs.Sums.{sum_same}
use Rattle.shunt_lists.proofs.Members.{all_in, Distinct}
use Rattle.shunt_lists.specs.defs.Members.{In, Ascends}
use Rattle.shunt_base.specs.declared.keys.Stay.{Stay}
use Rattle.shunt_base.specs.defs.Keys.{rank}
use Rattle.shunt_stays.specs.defs.Run.{put}
use Rattle.shunt_stays.proofs.Members.{put_here, put_there, put_cases, distinct_put, distinct_taken}
use Rattle.shunt_stays.proofs.Halves.{Half, at, InKeyOrder, same_stay}
use Rattle.shunt_stays.proofs.Track.{length_of, total, GoesOn, Meets, stands_by, total_at}
use Rattle.shunt_stays.proofs.Sides.{Arranged, arranged_put, arranged_taken, arranged_none, clear_from, fits_from, leaves_first, at_end}

-- what is left to do fits what stands on the track
record Stands (stays : List Stay) (halves : List Half) (st : List Stay) : Type 0 where
  ascends : Ascends at halves
  begun : (s : Stay) → In s st → (m : Half) → In m halves → rank s.enter < at m
  leaving : (s : Stay) → In s st → In (s, false) halves
  distinct : Distinct st
  complete : (s : Stay) → In (s, true) halves → In (s, false) halves
  from : (s : Stay) → In (s, false) halves → In s st ⊎ In (s, true) halves
  later : (s : Stay) → In (s, false) halves → rank s.enter < rank s.leave
  known : (s : Stay) (b : Bool) → In (s, b) halves → In s stays
  present : (s : Stay) → In s st → In s stays
  settled : (s : Stay) → In s stays → In (s, false) halves ⊎ ((m : Half) → In m halves → rank s.leave < at m)
  apart : Distinct stays

-- nothing that stands there or comes is in the way of what stands there or comes
record Clear (room : ℕ) (stays : List Stay) (halves : List Half) (st : List Stay) : Type 0 where
  arranged : Arranged st
  standing : (s c : Stay) → In s st → In (c, true) halves → Meets s c → ⊥
  coming : (b c : Stay) → In (b, true) halves → In (c, true) halves → Meets b c → ⊥
  loads : (b : Stay) → In (b, true) halves → total_at stays (rank b.enter) ≤ room

leave_in : (s c : Stay) (halves : List Half) → In (s, false) ((c, true) ∷ halves) → In (s, false) halves
leave_in s c halves (inl e) = absurd (false≢true (ap (λ (m : Half). m.1) e))
leave_in s c halves (inr h) = h

enter_in : (s c : Stay) (halves : List Half) → In (s, true) ((c, false) ∷ halves) → In (s, true) halves
enter_in s c halves (inl e) = absurd (true≢false (ap (λ (m : Half). m.1) e))
enter_in s c halves (inr h) = h

module _ (room : ℕ) (stays : List Stay) (c : Stay) (halves : List Half) (st : List Stay) (w : Stands stays ((c, true) ∷ halves) st) where
  after : (m : Half) → In m halves → rank c.enter < at m
  after m h = all_in (λ n. rank c.enter < at n) halves m w.ascends.0 h

  new : In c st → ⊥
  new h = absurd (let lt : rank c.enter < rank c.enter = w.begun c h (c, true) (inl refl) in omega arith)

  enter_step : Stands stays halves (put c.side_in c st)
  enter_step = record {
    ascends = w.ascends.1;
    begun = λ s h m k. ⊎_elim (λ e. subst (λ (z : Stay). rank z.enter < at m) (sym e) (after m k)) (λ i. w.begun s i m (inr k)) (put_cases c.side_in c s st h);
    leaving = λ s h. ⊎_elim (λ e. subst (λ (z : Stay). In (z, false) halves) (sym e) (leave_in c c halves (w.complete c (inl refl)))) (λ i. leave_in s c halves (w.leaving s i))
        (put_cases c.side_in c s st h);
    distinct = distinct_put c.side_in c st new w.distinct;
    complete = λ s h. leave_in s c halves (w.complete s (inr h));
    from = λ s h. ⊎_elim (λ i. inl (put_there c.side_in c s st i)) (λ k. ⊎_elim (λ e. inl
        (subst (λ (z : Stay). In z (put c.side_in c st)) (sym (same_stay s c true true e)) (put_here c.side_in c st))) (λ i. inr i) k) (w.from s (inr h));
    later = λ s h. w.later s (inr h);
    known = λ s b h. w.known s b (inr h);
    present = λ s h. ⊎_elim (λ e. subst (λ (z : Stay). In z stays) (sym e) (w.known c true (inl refl))) (λ i. w.present s i) (put_cases c.side_in c s st h);
    settled = λ s h. ⊎_elim (λ i. inl (leave_in s c halves i)) (λ k. inr (λ m j. k m (inr j))) (w.settled s h);
    apart = w.apart;
  }

  -- the load just after the entry
  load_is : total (put c.side_in c st) ≡ total_at stays (rank c.enter)
  load_is = sum_same length_of (stands_by (rank c.enter)) stays (put c.side_in c st) w.apart enter_step.distinct
      (λ s. (λ h. (enter_step.present s h, here s h), λ h. back s h.0 h.1))
    where
      here : (s : Stay) → In s (put c.side_in c st) → stands_by (rank c.enter) s ≡ true
      here s h =
          let gone : rank c.enter < rank s.leave = after (s, false) (enter_step.leaving s h) in
          let come : rank s.enter ≤ rank c.enter = ⊎_elim (λ e. omega (arith, ap (λ (z : Stay). rank z.enter) e))
          (λ i. let lt : rank s.enter < rank c.enter = w.begun s i (c, true) (inl refl) in omega arith) (put_cases c.side_in c s st h) in
          grind (arith, nat_tests)

      back : (s : Stay) → In s stays → stands_by (rank c.enter) s ≡ true → In s (put c.side_in c st)
      back s h t =
          let b = and_parts (leb (rank s.enter) (rank c.enter)) (ltb (rank c.enter) (rank s.leave)) t in
          let come : rank s.enter ≤ rank c.enter = leb-true _ _ b.0 in
          let gone : rank c.enter < rank s.leave = ltb-true _ _ b.1 in
          ⊎_elim (λ i. ⊎_elim (λ j. put_there c.side_in c s st j) (λ k. ⊎_elim (λ e. subst (λ (z : Stay). In z (put c.side_in c st)) (sym (same_stay s c true true e))
          (put_here c.side_in c st)) (λ j. absurd (let gt : rank c.enter < rank s.enter = after (s, true) j in omega arith)) k) (w.from s i))
          (λ k. absurd (let lt : rank s.leave < rank c.enter = k (c, true) (inl refl) in omega arith)) (w.settled s h)

  enter_clear : total (put c.side_in c st) ≤ room → Clear room stays halves (put c.side_in c st) → Clear room stays ((c, true) ∷ halves) st
  enter_clear fits k =
      let a = arranged_taken c.side_in c st k.arranged in record {
        arranged = a.0;
        standing = λ s d h i x. ⊎_elim (λ e. clear_from s c (a.1 s h) (subst (λ (z : Stay). Meets s z) (same_stay d c true true e) x))
            (λ j. k.standing s d (put_there c.side_in c s st h) j x) i;
        coming = λ b d h i x. both b d h i x;
        loads = λ b h. ⊎_elim (λ e. omega (arith, load_is, ap (λ (z : Stay). total_at stays (rank z.enter)) (same_stay b c true true e))) (λ i. k.loads b i) h;
      }
    where
      both : (b d : Stay) → In (b, true) ((c, true) ∷ halves) → In (d, true) ((c, true) ∷ halves) → Meets b d → ⊥
      both b d (inl e) (inl f) x = let lt = x.after in absurd (omega (
        arith,
        ap (λ (z : Stay). rank z.enter) (same_stay b c true true e),
        ap (λ (z : Stay). rank z.enter) (same_stay d c true true f),
      ))
      both b d (inl e) (inr j) x = k.standing c d (put_here c.side_in c st) j (subst (λ (z : Stay). Meets z d) (same_stay b c true true e) x)
      both b d (inr i) (inl f) x = let lt = x.after in let gt : rank c.enter < rank b.enter = after (b, true) i in absurd
          (omega (arith, ap (λ (z : Stay). rank z.enter) (same_stay d c true true f)))
      both b d (inr i) (inr j) x = k.coming b d i j x

  clear_enter : Clear room stays ((c, true) ∷ halves) st → Clear room stays halves (put c.side_in c st)
  clear_enter k = record {
    arranged = arranged_put c.side_in c st k.arranged (λ s h. fits_from s c (w.begun s h (c, true) (inl refl)) (after (s, false) (leave_in s c halves (w.leaving s h)))
        (k.standing s c h (inl refl)));
    standing = λ s d h i x. ⊎_elim (λ e. k.coming c d (inl refl) (inr i) (subst (λ (z : Stay). Meets z d) e x)) (λ j. k.standing s d j (inr i) x) (put_cases c.side_in c s st h);
    coming = λ b d h i x. k.coming b d (inr h) (inr i) x;
    loads = λ b h. k.loads b (inr h);
  }

module _ (room : ℕ) (stays : List Stay) (s : Stay) (halves : List Half) (rest : List Stay) (w : Stands stays ((s, false) ∷ halves) (put s.side_out s rest)) where
  before : (m : Half) → In m halves → rank s.leave < at m
  before m h = all_in (λ n. rank s.leave < at n) halves m w.ascends.0 h

  alone : (In s rest → ⊥) × Distinct rest
  alone = distinct_taken s.side_out s rest w.distinct

  gone : (t : Stay) → In (t, false) halves → t ≡ s → ⊥
  gone t h e = absurd (let lt : rank s.leave < rank t.leave = before (t, false) h in omega (arith, ap (λ (z : Stay). rank z.leave) e))

  still : (t : Stay) → In t rest → In (t, false) halves
  still t h = ⊎_elim (λ e. absurd (alone.0 (subst (λ (z : Stay). In z rest) (same_stay t s false false e) h))) (λ i. i) (w.leaving t (put_there s.side_out s t rest h))

  leave_step : Stands stays halves rest
  leave_step = record {
    ascends = w.ascends.1;
    begun = λ t h m k. w.begun t (put_there s.side_out s t rest h) m (inr k);
    leaving = still;
    distinct = alone.1;
    complete = λ t h. ⊎_elim (λ e. absurd (over t h (same_stay t s false false e))) (λ i. i) (w.complete t (inr h));
    from = λ t h. ⊎_elim (λ i. ⊎_elim (λ e. absurd (gone t h e)) (λ j. inl j) (put_cases s.side_out s t rest i)) (λ k. inr (enter_in t s halves k)) (w.from t (inr h));
    later = λ t h. w.later t (inr h);
    known = λ t b h. w.known t b (inr h);
    present = λ t h. w.present t (put_there s.side_out s t rest h);
    settled = λ t h. ⊎_elim (λ i. ⊎_elim (λ e. inr (λ m j. subst (λ (z : Stay). rank z.leave < at m) (sym (same_stay t s false false e)) (before m j))) (λ j. inl j) i)
        (λ k. inr (λ m j. k m (inr j))) (w.settled t h);
    apart = w.apart;
  }
    where
      over : (t : Stay) → In (t, true) halves → t ≡ s → ⊥
      over t h e = absurd (let gt : rank s.leave < rank t.enter = before (t, true) h in let lt : rank s.enter < rank s.leave = w.later s (inl refl) in omega
          (arith, ap (λ (z : Stay). rank z.enter) e))

  leave_clear : Clear room stays halves rest → Clear room stays ((s, false) ∷ halves) (put s.side_out s rest)
  leave_clear k = record {
    arranged = arranged_put s.side_out s rest k.arranged (λ t h. leaves_first s t (before (t, false) (still t h)));
    standing = λ t d h i x. ⊎_elim (λ e. past d (enter_in d s halves i) (subst (λ (z : Stay). Meets z d) e x)) (λ j. k.standing t d j (enter_in d s halves i) x)
        (put_cases s.side_out s t rest h);
    coming = λ b d h i x. k.coming b d (enter_in b s halves h) (enter_in d s halves i) x;
    loads = λ b h. k.loads b (enter_in b s halves h);
  }
    where
      past : (d : Stay) → In (d, true) halves → Meets s d → ⊥
      past d h x = absurd (let gt : rank s.leave < rank d.enter = before (d, true) h in let lt = x.during in omega arith)

  clear_leave : Clear room stays ((s, false) ∷ halves) (put s.side_out s rest) → Clear room stays halves rest
  clear_leave k = record {
    arranged = (arranged_taken s.side_out s rest k.arranged).0;
    standing = λ t d h i x. k.standing t d (put_there s.side_out s t rest h) (inr i) x;
    coming = λ b d h i x. k.coming b d (inr h) (inr i) x;
    loads = λ b h. k.loads b (inr h);
  }

-- who leaves is at the end
ready : (stays : List Stay) (s : Stay) (halves : List Half) (st : List Stay) → Stands stays ((s, false) ∷ halves) st → Arranged st
    → (rest : List Stay) × (st ≡ put s.side_out s rest)
ready stays s halves st w a = at_end s st a w.distinct there first
  where
    there : In s st
    there = ⊎_elim (λ i. i) (λ k. absurd (let gt : rank s.leave < rank s.enter = all_in (λ n. rank s.leave < at n) halves (s, true) w.ascends.0
        (enter_in s s halves k) in let lt : rank s.enter < rank s.leave = w.later s (inl refl) in omega arith)) (w.from s (inl refl))

    first : (t : Stay) → In t st → t ≢ s → rank s.leave < rank t.leave
    first t h ne = ⊎_elim (λ e. absurd (ne (same_stay t s false false e))) (λ i. all_in (λ n. rank s.leave < at n) halves (t, false) w.ascends.0 i) (w.leaving t h)

forward : (room : ℕ) (stays : List Stay) (halves : List Half) (st : List Stay) → Stands stays halves st → GoesOn room halves st → Clear room stays halves st
forward room stays [] st w go = record { arranged = arranged_none st (λ s h. w.leaving s h); standing = λ s c h i x. i; coming = λ b c h i x. h; loads = λ b h. absurd h }
forward room stays ((c, true) ∷ halves) st w go = enter_clear room stays c halves st w go.0
    (forward room stays halves (put c.side_in c st) (enter_step room stays c halves st w) go.1)
forward room stays ((s, false) ∷ halves) st w go =
    let v = subst (Stands stays ((s, false) ∷ halves)) go.1 w in
    subst (Clear room stays ((s, false) ∷ halves)) (sym go.1) (leave_clear room stays s halves go.0 v (forward room stays halves go.0 (leave_step room stays s halves go.0 v) go.2))

backward : (room : ℕ) (stays : List Stay) (halves : List Half) (st : List Stay) → Stands stays halves st → Clear room stays halves st → GoesOn room halves st
backward room stays [] st w k = tt
backward room stays ((c, true) ∷ halves) st w k = (
  omega (arith, load_is room stays c halves st w, k.loads c (inl refl)),
  backward room stays halves (put c.side_in c st) (enter_step room stays c halves st w)
      (clear_enter room stays c halves st w k),
)
backward room stays ((s, false) ∷ halves) st w k =
    let r = ready stays s halves st w k.arranged in
    let v = subst (Stands stays ((s, false) ∷ halves)) r.1 w in
    (r.0, r.1, backward room stays halves r.0 (leave_step room stays s halves r.0 v) (clear_leave room stays s halves r.0 v (subst (Clear room stays ((s, false) ∷ halves)) r.1 k)))

start : (stays : List Stay) (halves : List Half) → InKeyOrder stays halves → Stands stays halves []
start stays halves o = record {
  ascends = o.ascends;
  begun = λ s h m k. absurd h;
  leaving = λ s h. absurd h;
  distinct = tt;
  complete = λ s h. (o.leaves s).1 ((o.enters s).0 h);
  from = λ s h. inr ((o.enters s).1 ((o.leaves s).0 h));
  later = λ s h. o.later s ((o.leaves s).0 h);
  known = λ s b h. at_either s b h;
  present = λ s h. absurd h;
  settled = λ s h. inl ((o.leaves s).1 h);
  apart = o.distinct;
}
  where
    at_either : (s : Stay) (b : Bool) → In (s, b) halves → In s stays
    at_either s true h = (o.enters s).0 h
    at_either s false h = (o.leaves s).0 h

pub goes_clear : (room : ℕ) (stays : List Stay) (halves : List Half) → InKeyOrder stays halves → GoesOn room halves []
    → ((b c : Stay) → In b stays → In c stays → Meets b c → ⊥) × ((b : Stay) → In b stays → total_at stays (rank b.enter) ≤ room)
goes_clear room stays halves o go =
    let k = forward room stays halves [] (start stays halves o) go in
    (λ b c h i x. k.coming b c ((o.enters b).1 h) ((o.enters c).1 i) x, λ b h. k.loads b ((o.enters b).1 h))

pub clear_goes : (room : ℕ) (stays : List Stay) (halves : List Half) → InKeyOrder stays halves → ((b c : Stay) → In b stays → In c stays → Meets b c → ⊥)
    → ((b : Stay) → In b stays → total_at stays (rank b.enter) ≤ room) → GoesOn room halves []
clear_goes room stays halves o none over =
    backward room stays halves [] (start stays halves o) (record {
      arranged = tt;
      standing = λ s c h i x. h;
      coming = λ b c h i x. none b c ((o.enters b).0 h) ((o.enters c).0 i) x;
      loads = λ b h. over b ((o.enters b).0 h);
    })
