-- What one stay more changes at one event.
use Rattle.std.proofs.Common.{◌≡◌, ◌≢◌, inr, ⊎_elim, ℕ, ◌+◌, ◌<◌, ◌≤◌, ltb, leb, eqb, Bool, true, false, cond, not, ◌&&◌, ◌||◌, List, ◌∷◌, refl, sym, ap, ◌∙◌, arith}
use Rattle.std.specs.List.{count_by}
use Rattle.std.specs.Ordering.{is_le}
use Rattle.std.proofs.lemmas.Bool.{eqb-true, eq-eqb, cases_Bool, and_parts, false_from_ne_true}
use Rattle.std.proofs.lemmas.Bool.Decides.{nat_tests}
use Rattle.std.proofs.lemmas.List.Sums.{sum_by-cons}
use Rattle.shunt_base.specs.defs.Sides.{same_side}
use Rattle.shunt_lists.specs.defs.Members.{In}
use Rattle.shunt_base.specs.declared.keys.EventKey.{EventKey}
use Rattle.shunt_base.specs.declared.keys.Stay.{Stay}
use Rattle.shunt_base.specs.defs.Keys.{rank, IsKey, IsWellFormed}
use Rattle.shunt_base.proofs.Ranks.{key_cmp_is}
use Rattle.shunt_stays.specs.defs.Events.{key_before}
use Rattle.shunt_stays.specs.defs.Crossings.{crosses, in_the_way, stands_at, load_at}
use Rattle.shunt_stays.proofs.Halves.{before_is, ids_apart}
use Rattle.shunt_timeline.specs.declared.events.StayEvent.{StayEvent}
use Rattle.shunt_timeline.specs.defs.Levels.{key_of, at, is_crossed, raised, lowered}
use Rattle.shunt_timeline.specs.defs.Kept.{IsKeptAt}
use Rattle.shunt_timeline.proofs.Steps.{flag}
use Rattle.shunt_timeline.proofs.Numbers.{met}
use Rattle.shunt_timeline.proofs.Ranks.{key_in}
use Rattle.shunt_lists.proofs.Tests.{off_right as and_false, no_span as out_before}
use Rattle.shunt_lists.proofs.Orders.{le_is}

-- stands at a moment
abbrev pub inside : ℕ → Stay → Bool
inside m s = leb (rank s.enter) m && ltb m (rank s.leave)

pub stands_is : (t : ℕ) (k : EventKey) (s : Stay) → IsKey k → IsWellFormed s → stands_at t k s ≡ (eqb s.track.0 t && inside (rank k) s)
stands_is t k s q w =
    ap (λ x. eqb s.track.0 t && (x && key_before k s.leave)) (ap is_le (key_cmp_is s.enter k w.enter_in q) ∙ le_is (rank s.enter) (rank k))
    ∙ ap (λ x. eqb s.track.0 t && (leb (rank s.enter) (rank k) && x)) (before_is k s.leave q w.leave_in)

pub crosses_ranks : (b c : Stay) → IsWellFormed b → IsWellFormed c → crosses b c ≡
    (eqb b.track.0 c.track.0 && met (rank b.enter) (rank b.leave) (rank c.enter) (rank c.leave) (same_side c.side_out c.side_in) (same_side b.side_out c.side_in))
crosses_ranks b c w v =
    let o = same_side c.side_out c.side_in in
    let p = same_side b.side_out c.side_in in
    ap (λ x. eqb b.track.0 c.track.0 && (x && (key_before c.enter b.leave && in_the_way b c))) (before_is b.enter c.enter w.enter_in v.enter_in)
    ∙ ap (λ x. eqb b.track.0 c.track.0 && (ltb (rank b.enter) (rank c.enter) && (x && in_the_way b c))) (before_is c.enter b.leave v.enter_in w.leave_in)
    ∙ ap (λ x. eqb b.track.0 c.track.0 && (ltb (rank b.enter) (rank c.enter) && (ltb (rank c.enter) (rank b.leave) && ((x && not o) || (key_before b.leave c.leave && p)))))
    (before_is c.leave b.leave v.leave_in w.leave_in)
    ∙ ap (λ x. eqb b.track.0 c.track.0 && (ltb (rank b.enter) (rank c.enter) && (ltb (rank c.enter) (rank b.leave) && ((ltb (rank c.leave) (rank b.leave) && not o) || (x && p)))))
    (before_is b.leave c.leave w.leave_in v.leave_in)

-- the key of an entry and of a leave
pub entry_at : (e : StayEvent) → e.enters ≡ true → key_of e ≡ e.stay.enter
entry_at e t = ap (λ b. cond b e.stay.enter e.stay.leave) t

pub leave_at : (e : StayEvent) → e.enters ≡ false → key_of e ≡ e.stay.leave
leave_at e t = ap (λ b. cond b e.stay.enter e.stay.leave) t

pub key_id : (e : StayEvent) → IsWellFormed e.stay → (key_of e).id ≡ e.stay.id
key_id e w = ⊎_elim (λ t. ap (λ (k : EventKey). k.id) (entry_at e t) ∙ w.enter_id) (λ t. ap (λ (k : EventKey). k.id) (leave_at e t) ∙ w.leave_id) (cases_Bool e.enters)

-- keys of two ids are at two places
pub apart : (e : StayEvent) (k : EventKey) → IsWellFormed e.stay → IsKey k → e.stay.id ≢ k.id → at e ≢ rank k
apart e k w q ne same = ne (sym (key_id e w) ∙ ids_apart (key_of e) k (key_in e w).id q.id same)

-- what isn't of the same track
pub off_track : (t : ℕ) (k : EventKey) (s : Stay) → s.track.0 ≢ t → stands_at t k s ≡ false
off_track t k s ne = false_from_ne_true (stands_at t k s) (λ u. ne (eqb-true s.track.0 t (and_parts (eqb s.track.0 t) _ u).0))

pub off_crossing : (b c : Stay) → b.track.0 ≢ c.track.0 → crosses b c ≡ false
off_crossing b c ne = false_from_ne_true (crosses b c) (λ u. ne (eqb-true b.track.0 c.track.0 (and_parts (eqb b.track.0 c.track.0) _ u).0))

on : (m n : ℕ) (b : Bool) → m ≡ n → (eqb m n && b) ≡ b
on m n b e = ap (λ x. x && b) (eq-eqb m n e)

out_after : (a b m : ℕ) → b ≤ m → (leb a m && ltb m b) ≡ false
out_after a b m le = grind (arith, nat_tests)

in_between : (a b m : ℕ) → a < m → m < b → (leb a m && ltb m b) ≡ true
in_between a b m p q = grind (arith, nat_tests)

module _ (x : Stay) (w : IsWellFormed x) (t : ℕ) (here : x.track.0 ≡ t) (k : EventKey) (q : IsKey k) where
  stood : stands_at t k x ≡ inside (rank k) x
  stood = stands_is t k x q w ∙ on x.track.0 t (inside (rank k) x) here

  pub not_yet : rank k < rank x.enter → stands_at t k x ≡ false
  not_yet lt = stood ∙ out_before (rank x.enter) (rank x.leave) (rank k) lt

  pub no_more : rank x.leave ≤ rank k → stands_at t k x ≡ false
  no_more le = stood ∙ out_after (rank x.enter) (rank x.leave) (rank k) le

  pub stands_now : rank x.enter < rank k → rank k < rank x.leave → stands_at t k x ≡ true
  stands_now a b = stood ∙ in_between (rank x.enter) (rank x.leave) (rank k) a b

early : (be bl xe xl : ℕ) (o p : Bool) → xe ≤ be → met be bl xe xl o p ≡ false
early be bl xe xl o p le = ap (λ y. y && (ltb xe bl && ((ltb xl bl && not o) || (ltb bl xl && p)))) (let f : ltb be xe ≡ false = grind (arith, nat_tests) in f)

late : (be bl xe xl : ℕ) (o p : Bool) → bl ≤ xe → met be bl xe xl o p ≡ false
late be bl xe xl o p le = ap (λ y. ltb be xe && (y && ((ltb xl bl && not o) || (ltb bl xl && p)))) (let f : ltb xe bl ≡ false = grind (arith, nat_tests) in f)
    ∙ and_false (ltb be xe)
  where
    and_false : (b : Bool) → (b && false) ≡ false
    and_false true = refl
    and_false false = refl

-- who comes before x isn't crossed by it, nor is who comes once x has left
pub crossed_not_yet : (x s : Stay) → IsWellFormed x → IsWellFormed s → rank s.enter ≤ rank x.enter → crosses x s ≡ false
crossed_not_yet x s w v le = crosses_ranks x s w v ∙ ap (λ y. eqb x.track.0 s.track.0 && y) (early (rank x.enter) (rank x.leave) (rank s.enter) (rank s.leave) _ _ le)
    ∙ and_false (eqb x.track.0 s.track.0)

pub crossed_no_more : (x s : Stay) → IsWellFormed x → IsWellFormed s → rank x.leave ≤ rank s.enter → crosses x s ≡ false
crossed_no_more x s w v le = crosses_ranks x s w v ∙ ap (λ y. eqb x.track.0 s.track.0 && y) (late (rank x.enter) (rank x.leave) (rank s.enter) (rank s.leave) _ _ le)
    ∙ and_false (eqb x.track.0 s.track.0)

-- counts and loads with one stay more
pub count_one : (p : Stay → Bool) (x : Stay) (stays : List Stay) → count_by p (x ∷ stays) ≡ flag (p x) + count_by p stays
count_one p x stays = sum_by-cons (λ s. flag (p s)) x stays

pub load_one : (t : ℕ) (k : EventKey) (x : Stay) (stays : List Stay) → load_at (x ∷ stays) t k ≡ cond (stands_at t k x) x.length 0 + load_at stays t k
load_one t k x stays = sum_by-cons (λ s. cond (stands_at t k s) s.length 0) x stays

flag_is : (b c : Bool) → b ≡ c → flag b ≡ flag c
flag_is b c e = ap flag e

module _ (stays : List Stay) (x : Stay) (t : ℕ) (e : StayEvent) where
  abbrev Crossings : List Stay → ℕ
  Crossings l = count_by (λ b. crosses b e.stay) l

  abbrev Stands : List Stay → ℕ
  Stands l = count_by (stands_at t (key_of e)) l

  abbrev Load : List Stay → ℕ
  Load l = load_at l t (key_of e)

  more_crossings : Crossings (x ∷ stays) ≡ flag (crosses x e.stay) + Crossings stays
  more_crossings = count_one (λ b. crosses b e.stay) x stays

  more_stands : Stands (x ∷ stays) ≡ flag (stands_at t (key_of e) x) + Stands stays
  more_stands = count_one (stands_at t (key_of e)) x stays

  more_load : Load (x ∷ stays) ≡ cond (stands_at t (key_of e) x) x.length 0 + Load stays
  more_load = load_one t (key_of e) x stays

  -- where x doesn't stand, nothing changes
  pub kept_aside : stands_at t (key_of e) x ≡ false → (e.enters ≡ true → crosses x e.stay ≡ false) → IsKeptAt stays t e → IsKeptAt (x ∷ stays) t e
  kept_aside f g k = record {
    stay = inr k.stay;
    track = k.track;
    crossings = λ u. let c = k.crossings u in let z : flag (crosses x e.stay) ≡ 0 = ap flag (g u) in omega (arith, more_crossings);
    none = k.none;
    standing = let s = k.standing in let z : flag (stands_at t (key_of e) x) ≡ 0 = ap flag f in omega (arith, more_stands);
    load = let l = k.load in let z : cond (stands_at t (key_of e) x) x.length 0 ≡ 0 = ap (λ b. cond b x.length 0) f in omega (arith, more_load);
  }

  pub aside_kept : stands_at t (key_of e) x ≡ false → (e.enters ≡ true → crosses x e.stay ≡ false) → In e.stay stays → IsKeptAt (x ∷ stays) t e → IsKeptAt stays t e
  aside_kept f g h k = record {
    stay = h;
    track = k.track;
    crossings = λ u. let c = k.crossings u in let z : flag (crosses x e.stay) ≡ 0 = ap flag (g u) in omega (arith, more_crossings);
    none = k.none;
    standing = let s = k.standing in let z : flag (stands_at t (key_of e) x) ≡ 0 = ap flag f in omega (arith, more_stands);
    load = let l = k.load in let z : cond (stands_at t (key_of e) x) x.length 0 ≡ 0 = ap (λ b. cond b x.length 0) f in omega (arith, more_load);
  }

  entering : e.enters ≡ true → flag (is_crossed x e) ≡ flag (crosses x e.stay)
  entering u = ap (λ b. flag (b && crosses x e.stay)) u

  leaving : e.enters ≡ false → flag (is_crossed x e) ≡ 0
  leaving u = ap (λ b. flag (b && crosses x e.stay)) u

  -- where it stands, the event is raised or lowered by it
  pub kept_raised : stands_at t (key_of e) x ≡ true → IsKeptAt stays t e → IsKeptAt (x ∷ stays) t (raised x e)
  kept_raised f k = record {
    stay = inr k.stay;
    track = k.track;
    crossings = λ u. let c = k.crossings u in omega (arith, more_crossings, entering u);
    none = λ u. let z = k.none u in omega (arith, leaving u);
    standing = let s = k.standing in let z : flag (stands_at t (key_of e) x) ≡ 1 = ap flag f in omega (arith, more_stands);
    load = let l = k.load in let z : cond (stands_at t (key_of e) x) x.length 0 ≡ x.length = ap (λ b. cond b x.length 0) f in omega (arith, more_load);
  }

  pub kept_lowered : stands_at t (key_of e) x ≡ true → In e.stay stays → IsKeptAt (x ∷ stays) t e → IsKeptAt stays t (lowered x e)
  kept_lowered f h k = record {
    stay = h;
    track = k.track;
    crossings = λ u. let c = k.crossings u in omega (arith, more_crossings, entering u);
    none = λ u. let z = k.none u in omega (arith, leaving u);
    standing = let s = k.standing in let z : flag (stands_at t (key_of e) x) ≡ 1 = ap flag f in omega (arith, more_stands);
    load = let l = k.load in let z : cond (stands_at t (key_of e) x) x.length 0 ≡ x.length = ap (λ b. cond b x.length 0) f in omega (arith, more_load);
  }
