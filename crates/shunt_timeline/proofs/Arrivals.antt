-- What the code of an insertion finds is what a fresh count gives.
use Rattle.std.proofs.Common.{◌≡◌, ◌≢◌, inl, inr, ⊎_elim, ℕ, zero, suc, ◌+◌, ◌-◌, ◌<◌, ◌≤◌, eqb, ltb, leb, true, false, cond, ◌&&◌, List, [], ◌∷◌, ◌++◌, length, get_or, take, drop, refl, sym, subst, ap, ◌∙◌, arith}
use Rattle.std.specs.List.{count_by}
use Rattle.std.proofs.lemmas.Bool.{cases_lt, cases_eq, true≢false}
use Rattle.std.proofs.lemmas.Bool.Decides.{nat_tests}
use Rattle.std.proofs.lemmas.List.{take-append-drop, take_more, take_at, drop_at}
use Rattle.std.proofs.lemmas.Slice.{between_is}
use Rattle.shunt_lists.proofs.Members.{all_in, in_place}
use Rattle.shunt_lists.specs.defs.Members.{In}
use Rattle.shunt_base.specs.declared.keys.EventKey.{EventKey}
use Rattle.shunt_base.specs.declared.keys.Stay.{Stay}
use Rattle.shunt_base.specs.defs.Keys.{rank, IsKey, IsWellFormed, AreStays}
use Rattle.shunt_stays.specs.defs.Crossings.{crosses, stands_at, load_at}
use Rattle.shunt_stays.proofs.Halves.{later_rank, formed}
use Rattle.shunt_timeline.specs.declared.events.StayEvent.{StayEvent}
use Rattle.shunt_timeline.specs.defs.Levels.{IsPlace, key_of, at}
use Rattle.shunt_timeline.specs.defs.Kept.{IsKeptAt, IsKeptTrack}
use Rattle.shunt_timeline.proofs.Steps.{flag}
use Rattle.shunt_timeline.proofs.Changes.{apart, entry_at, leave_at, count_one, load_one, no_more, stands_is}
use Rattle.shunt_timeline.proofs.ThreeParts.{Cut, not_itself}
use Rattle.shunt_timeline.proofs.Before.{level_first, level_later}
use Rattle.shunt_timeline.proofs.Insertion.{IsOf, five}
use Rattle.shunt_timeline.proofs.Places.{in_front, in_rest, in_middle, dropped_twice, three}

in_take_at : {X : Type 0} (n i : ℕ) (xs : List X) (d : X) → i < n → i < length xs → In (get_or xs i d) (take n xs)
in_take_at zero i xs d lt le = absurd (omega arith)
in_take_at (suc n) i [] d lt le = absurd (omega arith)
in_take_at (suc n) zero (x ∷ xs) d lt le = inl refl
in_take_at (suc n) (suc i) (x ∷ xs) d lt le = inr (in_take_at n i xs d (omega arith) (omega arith))

in_drop_at : {X : Type 0} (n i : ℕ) (xs : List X) (d : X) → n ≤ i → i < length xs → In (get_or xs i d) (drop n xs)
in_drop_at zero i xs d le lt = in_place xs i d lt
in_drop_at (suc n) i [] d le lt = absurd (omega arith)
in_drop_at (suc n) zero (x ∷ xs) d le lt = absurd (omega arith)
in_drop_at (suc n) (suc i) (x ∷ xs) d le lt = in_drop_at n i xs d (omega arith) (omega arith)

-- the later key has the later place
pub places_in_order : (es : List StayEvent) (k l : EventKey) (m n : ℕ) → IsPlace es k m → IsPlace es l n → rank k < rank l → m ≤ n
places_in_order [] k l m n p q lt = let b = p.bound in omega arith
places_in_order (d ∷ ds) k l m n p q lt = ⊎_elim
    (λ gt. let b = p.bound in
    let x : at (get_or (d ∷ ds) n d) < rank k = p.before (get_or (d ∷ ds) n d) (in_take_at m n (d ∷ ds) d gt (omega arith)) in
    let y : rank l ≤ at (get_or (d ∷ ds) n d) = q.after (get_or (d ∷ ds) n d) (in_drop_at n n (d ∷ ds) d (omega arith) (omega arith)) in
    absurd (omega arith))
    (λ le. le) (cases_lt n m)

module _ (stays : List Stay) (x : Stay) (es : List StayEvent) (a : AreStays (x ∷ stays)) (k : IsKeptTrack stays x.track.0 es) where
  pub wf : (e : StayEvent) → In e es → IsWellFormed e.stay
  wf e h = formed stays e.stay a.2 (k.each e h).stay

  id_apart : (e : StayEvent) → In e es → e.stay.id ≢ x.id
  id_apart e h s = all_in (λ u. x.id ≢ u.id) stays e.stay a.1 (k.each e h).stay (sym s)

  -- no event has a key of x
  pub new_enter : (e : StayEvent) → In e es → at e ≢ rank x.enter
  new_enter e h = apart e x.enter (wf e h) a.0.enter_in (λ s. id_apart e h (s ∙ a.0.enter_id))

  pub new_leave : (e : StayEvent) → In e es → at e ≢ rank x.leave
  new_leave e h = apart e x.leave (wf e h) a.0.leave_in (λ s. id_apart e h (s ∙ a.0.leave_id))

  module _ (from to : ℕ) (p : IsPlace es x.enter from) (q : IsPlace es x.leave to) where
    pub order : from ≤ to
    order = places_in_order es x.enter x.leave from to p q (later_rank x a.0)

    abbrev pub middle : List StayEvent
    middle = take (to - from) (drop from es)

    pub arriving : Cut stays x (take from es) middle (drop to es)
    arriving = record {
      formed = a;
      kept = subst (λ (l : List StayEvent). IsKeptTrack stays x.track.0 l) (three from to es order) k;
      before = p.before;
      since = λ e h. let le = p.after e (in_front (to - from) (drop from es) e h) in let ne = new_enter e (in_middle from to es e h) in omega arith;
      until = λ e h. q.before e (in_rest from (take to es) e (subst (λ (l : List StayEvent). In e l) (between_is es from to) h));
      after = λ e h. let le = q.after e h in let ne = new_leave e (in_rest to es e h) in omega arith;
    }

-- what stands before a place
pub level_is : (stays : List Stay) (t : ℕ) (es : List StayEvent) (a : AreStays stays) (k : IsKeptTrack stays t es) (m : EventKey) (q : IsKey m) (n : ℕ) (p : IsPlace es m n)
    → ((e : StayEvent) → In e es → at e ≢ rank m)
    → (s l : ℕ) → (n ≡ 0 → (s ≡ 0) × (l ≡ 0)) → ((d : StayEvent) → 0 < n → (s ≡ (get_or es (n - 1) d).standing) × (l ≡ (get_or es (n - 1) d).load))
    → (s ≡ count_by (stands_at t m) stays) × (l ≡ load_at stays t m)
level_is stays t [] a k m q n p ne s l first later =
    let b = p.bound in
    let none : n ≡ 0 = omega arith in
    let f = first none in
    let r = level_first stays t [] [] a k m q (λ e h. absurd h) (λ e h. absurd h) refl in
    (f.0 ∙ sym r.0, f.1 ∙ sym r.1)
level_is stays t (d ∷ ds) a k m q n p ne s l first later = ⊎_elim
    (λ e. let f = first e in
    let r = level_first stays t (take n (d ∷ ds)) (drop n (d ∷ ds)) a joined m q p.before strict (ap (λ j. take j (d ∷ ds)) e) in
    (f.0 ∙ sym r.0, f.1 ∙ sym r.1))
    (λ e. let f = later d (omega arith) in
    let back : (n - 1) + 1 ≡ n = omega arith in
    let b = p.bound in
    let r = level_later stays t (take n (d ∷ ds)) (drop n (d ∷ ds)) a joined m q p.before strict (take (n - 1) (d ∷ ds)) (get_or (d ∷ ds) (n - 1) d)
    (ap (λ j. take j (d ∷ ds)) (sym back) ∙ take_more (d ∷ ds) (n - 1) d (omega arith)) in
    (f.0 ∙ sym r.0, f.1 ∙ sym r.1))
    (cases_eq n 0)
  where
    joined : IsKeptTrack stays t (take n (d ∷ ds) ++ drop n (d ∷ ds))
    joined = subst (λ (z : List StayEvent). IsKeptTrack stays t z) (sym (take-append-drop n (d ∷ ds))) k

    strict : (e : StayEvent) → In e (drop n (d ∷ ds)) → rank m < at e
    strict e h = let le = p.after e h in let apart = ne e (in_rest n (d ∷ ds) e h) in omega arith

-- the list between two puts
pub put_back : (from to : ℕ) (A M C es new : List StayEvent) (en le : StayEvent) → from ≤ to → length A ≡ from → length M ≡ to - from → es ≡ A ++ (M ++ C)
    → new ≡ take from es ++ (en ∷ (take (to - from) (drop from es) ++ (le ∷ drop to es))) → new ≡ five A en M le C
put_back from to A M C es new en le order la lm is made =
    let front : take from es ≡ A = ap (take from) is ∙ take_at A (M ++ C) from la in
    let rest : drop from es ≡ M ++ C = ap (drop from) is ∙ drop_at A (M ++ C) from la in
    let mid : take (to - from) (drop from es) ≡ M = ap (take (to - from)) rest ∙ take_at M C (to - from) lm in
    let back : drop to es ≡ C = sym (dropped_twice from to es order) ∙ ap (drop (to - from)) rest ∙ drop_at M C (to - from) lm in
    made ∙ ap (λ l. l ++ (en ∷ (take (to - from) (drop from es) ++ (le ∷ drop to es)))) front ∙ ap (λ l. A ++ (en ∷ (l ++ (le ∷ drop to es)))) mid
    ∙ ap (λ l. A ++ (en ∷ (M ++ (le ∷ l)))) back

-- an entry and a leave of x with these numbers
pub record IsEntry (x : Stay) (s l own : ℕ) (e : StayEvent) : Type 0 where
  pub is : IsOf x true e
  pub crossings : e.crossings ≡ own
  pub standing : e.standing ≡ s + 1
  pub load : e.load ≡ l + x.length

pub record IsLeave (x : Stay) (s l : ℕ) (e : StayEvent) : Type 0 where
  pub is : IsOf x false e
  pub crossings : e.crossings ≡ 0
  pub standing : e.standing ≡ s
  pub load : e.load ≡ l

begins : (t a b : ℕ) → a < b → (eqb t t && (leb a a && ltb a b)) ≡ true
begins t a b lt = grind (arith, nat_tests)

module _ (stays : List Stay) (x : Stay) (a : AreStays (x ∷ stays)) where
  w : IsWellFormed x
  w = a.0

  enters_now : stands_at x.track.0 x.enter x ≡ true
  enters_now = stands_is x.track.0 x.enter x w.enter_in w ∙ begins x.track.0 (rank x.enter) (rank x.leave) (later_rank x w)

  has_gone : stands_at x.track.0 x.leave x ≡ false
  has_gone = no_more x w x.track.0 refl x.leave w.leave_in (omega arith)

  pub entry_kept : (s l own : ℕ) (e : StayEvent) → IsEntry x s l own e → s ≡ count_by (stands_at x.track.0 x.enter) stays → l ≡ load_at stays x.track.0 x.enter
      → own ≡ count_by (λ b. crosses b x) stays → IsKeptAt (x ∷ stays) x.track.0 e
  entry_kept s l own e i es el eo =
      let key : key_of e ≡ x.enter = entry_at e i.is.kind ∙ ap (λ (z : Stay). z.enter) i.is.stay in record {
        stay = inl i.is.stay;
        track = ap (λ (z : Stay). z.track.0) i.is.stay;
        crossings = λ u.
            let none : flag (crosses x x) ≡ 0 = ap flag (not_itself x w) in
            let all : count_by (λ b. crosses b x) (x ∷ stays) ≡ count_by (λ b. crosses b x) stays = count_one (λ b. crosses b x) x stays ∙ omega arith in
            i.crossings ∙ eo ∙ sym all ∙ ap (λ (z : Stay). count_by (λ b. crosses b z) (x ∷ stays)) (sym i.is.stay);
        none = λ u. absurd (true≢false (sym i.is.kind ∙ u));
        standing =
            let one : flag (stands_at x.track.0 x.enter x) ≡ 1 = ap flag enters_now in
            let all : count_by (stands_at x.track.0 x.enter) (x ∷ stays) ≡ s + 1 = count_one (stands_at x.track.0 x.enter) x stays ∙ omega arith in
            i.standing ∙ sym all ∙ ap (λ z. count_by (stands_at x.track.0 z) (x ∷ stays)) (sym key);
        load =
            let one : cond (stands_at x.track.0 x.enter x) x.length 0 ≡ x.length = ap (λ b. cond b x.length 0) enters_now in
            let all : load_at (x ∷ stays) x.track.0 x.enter ≡ l + x.length = load_one x.track.0 x.enter x stays ∙ omega arith in
            i.load ∙ sym all ∙ ap (λ z. load_at (x ∷ stays) x.track.0 z) (sym key);
      }

  pub leave_kept : (s l : ℕ) (e : StayEvent) → IsLeave x s l e → s ≡ count_by (stands_at x.track.0 x.leave) stays → l ≡ load_at stays x.track.0 x.leave
      → IsKeptAt (x ∷ stays) x.track.0 e
  leave_kept s l e i es el =
      let key : key_of e ≡ x.leave = leave_at e i.is.kind ∙ ap (λ (z : Stay). z.leave) i.is.stay in record {
        stay = inl i.is.stay;
        track = ap (λ (z : Stay). z.track.0) i.is.stay;
        crossings = λ u. absurd (true≢false (sym u ∙ i.is.kind));
        none = λ u. i.crossings;
        standing =
            let one : flag (stands_at x.track.0 x.leave x) ≡ 0 = ap flag has_gone in
            let all : count_by (stands_at x.track.0 x.leave) (x ∷ stays) ≡ s = count_one (stands_at x.track.0 x.leave) x stays ∙ omega arith in
            i.standing ∙ sym all ∙ ap (λ z. count_by (stands_at x.track.0 z) (x ∷ stays)) (sym key);
        load =
            let one : cond (stands_at x.track.0 x.leave x) x.length 0 ≡ 0 = ap (λ b. cond b x.length 0) has_gone in
            let all : load_at (x ∷ stays) x.track.0 x.leave ≡ l = load_one x.track.0 x.leave x stays ∙ omega arith in
            i.load ∙ sym all ∙ ap (λ z. load_at (x ∷ stays) x.track.0 z) (sym key);
      }
