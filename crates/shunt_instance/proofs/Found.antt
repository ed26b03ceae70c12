-- Names and routes are found where they stand.
use Rattle.std.specs.Prelude.{All, Option, Some, None, IfSome, IsTrue, find, option_map, position, slice_get, bytes_eq, nat_lt}
use Rattle.std.specs.List.{position_or_len}
use Rattle.std.proofs.Common.{◌≡◌, ℕ, zero, suc, ◌<◌, ◌≤◌, Bool, true, false, ◌&&◌, ◌==◌, List, [], ◌∷◌, length, map, get_or, sym, ap, ◌∙◌, subst, arith, inl, inr, refl}
use Rattle.std.proofs.lemmas.Bool.{cases_Bool, cond-true, cond-false, eqb-true, eq-eqb, and_parts, and_from, lt-ltb, false_from_ne_true}
use Rattle.std.proofs.lemmas.List.{get_or-map, length-map}
use Rattle.std.proofs.lemmas.List.Quantifiers.{position-Some}
use Rattle.std.proofs.lemmas.List.Sums.{position_or_len_is}
use Rattle.std.proofs.lemmas.Option.{slice_get-get_or, slice_get-map, slice_get_within, get_or_from_slice_get}
use Rattle.std.proofs.lemmas.Slice.Eq.{bytes_eq-Decides}
use Rattle.shunt_base.proofs.Sides.{same_side_tells, same_side_itself}
use Rattle.shunt_base.specs.defs.Sides.{same_side}
use Rattle.shunt_lists.specs.defs.Members.{AreDistinct}
use Rattle.shunt_base.specs.declared.ids.PlatformId.{PlatformId}
use Rattle.shunt_base.specs.declared.ids.TrackId.{TrackId}
use Rattle.shunt_base.specs.declared.ids.Side.{Side}
use Rattle.shunt_instance.specs.declared.records.Route.{Route}
use Rattle.shunt_instance.specs.declared.records.Station.{Station}
use Rattle.shunt_instance.specs.defs.Words.{is_open_at, way_of, joins, route_cost, track_of_name}
use Rattle.shunt_instance.specs.defs.Wellformed.{IsRoute, IsStation}

-- the thing that is found has the name
pub found_has : {X : Type 0} (name_of : X → List ℕ) (xs : List X) (name : List ℕ) (k : ℕ) (d : X) → position (λ x. bytes_eq (name_of x) name) xs ≡ Some k
    → slice_get (map name_of xs) k ≡ Some name
found_has name_of xs name k d is =
    let f = position-Some (λ x. bytes_eq (name_of x) name) xs k d is in
    slice_get-map name_of xs k ∙ ap (option_map name_of) (slice_get-get_or xs k d f.0) ∙ ap Some ((bytes_eq-Decides (name_of (get_or xs k d)) name).0 f.1)

-- a number that is found is one of the list's
pub number_found : {X I : Type 0} (p : X → Bool) (xs : List X) (d : X) (id : ℕ → I) (number : I → ℕ) → ((k : ℕ) → number (id k) ≡ k) → (i : I)
    → option_map id (position p xs) ≡ Some i → number i < length xs
number_found {I = I} p xs d id number is i e = by (position p xs) refl e
  where
    by : (o : Option ℕ) → position p xs ≡ o → option_map id o ≡ Some i → number i < length xs
    by None at e = absurd cc
    by (Some k) at e =
        let lt = (position-Some p xs k d at).0 in
        let same : id k ≡ i = cc in
        let num : number i ≡ k = ap number (sym same) ∙ is k in
        omega (arith, num, lt)

-- the track that is found is one of the station's
pub track_within : (s : Station) (name : List ℕ) (t : TrackId) → track_of_name s name ≡ Some t → t.0 < length s.tracks
track_within s name t e =
    number_found (λ t. bytes_eq t.name name) s.tracks (record { name = []; length = 0; side_a = false; side_b = false }) (λ k. record { 0 = k }) (λ j. j.0) (λ k. refl) t e

first_is : {X : Type 0} (p : X → Bool) (xs : List X) (k : ℕ) → position_or_len p xs ≡ k → k < length xs → position p xs ≡ Some k
first_is p xs k e lt = rw e (cond-true (nat_lt k (length xs)) (Some k) None (lt-ltb k (length xs) lt))

-- a thing with the name is found, where no other has it
pub found_there : {X : Type 0} (name_of : X → List ℕ) (xs : List X) (name : List ℕ) (k : ℕ) (d : X) → AreDistinct (map name_of xs) → slice_get (map name_of xs) k ≡ Some name
    → position (λ x. bytes_eq (name_of x) name) xs ≡ Some k
found_there name_of xs name k d h is =
    let within : k < length (map name_of xs) = slice_get_within (map name_of xs) k name is in
    let lt : k < length xs = rw length-map at within in
    let named : name_of (get_or xs k d) ≡ name = sym (get_or-map name_of xs k d [] lt) ∙ get_or_from_slice_get (map name_of xs) k name [] is in
    first_is (λ x. bytes_eq (name_of x) name) xs k (position_or_len_is (λ x. bytes_eq (name_of x) name) xs k d (omega arith)
    (λ j before. false_from_ne_true (bytes_eq (name_of (get_or xs j d)) name)
    (λ same. h j k [] before within (get_or-map name_of xs j d [] (omega arith) ∙ (bytes_eq-Decides (name_of (get_or xs j d)) name).0 same ∙ sym named
    ∙ sym (get_or-map name_of xs k d [] lt)))) (λ here. (bytes_eq-Decides (name_of (get_or xs k d)) name).1 named)) lt

-- what is true of each route is true of the one that is found, which joins what was asked
pub found_route : (P : Route → Type 0) (p : PlatformId) (t : TrackId) (s : Side) (rs : List Route) → All P rs → IfSome (find (joins p t s) rs) (λ r. P r × (joins p t s r ≡ true))
found_route P p t s [] h = tt
found_route P p t s (r ∷ rs) h = elim (cases_Bool (joins p t s r)) [
  | inl is ↦ subst (λ o. IfSome o (λ r. P r × (joins p t s r ≡ true))) (sym (cond-true (joins p t s r) (Some r) (find (joins p t s) rs) is)) (h 0 r (omega arith), is)
  | inr apart ↦ subst (λ o. IfSome o (λ r. P r × (joins p t s r ≡ true))) (sym (cond-false (joins p t s r) (Some r) (find (joins p t s) rs) apart))
      (found_route P p t s rs (λ k d lt. h (suc k) d (omega arith)))
]

told : (o : Option Route) (Q : Route → Type 0) (P : ℕ → Type 0) → IfSome o Q → ((r : Route) → Q r → P r.cost) → IfSome (option_map (λ r. r.cost) o) P
told None Q P h f = tt
told (Some r) Q P h f = f r h

-- a route costs at most 1,000,000, and its track is open at its side
pub cost_small : (s : Station) (p : PlatformId) (t : TrackId) (side : Side) → IsStation s → IfSome (route_cost s p t side) (λ c. c ≤ 1000000)
cost_small s p t side h = told (find (joins p t side) s.routes) (λ r. IsRoute s r × (joins p t side r ≡ true)) (λ c. c ≤ 1000000)
    (found_route (IsRoute s) p t side s.routes h.routes) (λ r q. q.0.cost)

open_same : (s : Station) (n m : ℕ) (q side : Side) → n ≡ m → q ≡ side → is_open_at s (record { 0 = n }) q ≡ is_open_at s (record { 0 = m }) side
open_same s n m q side e f = ap (λ (k : ℕ). is_open_at s (record { 0 = k }) q) e ∙ ap (is_open_at s (record { 0 = m })) f

opens : (s : Station) (r : Route) (p : PlatformId) (t : TrackId) (side : Side) → IsTrue (is_open_at s r.track r.side) → joins p t side r ≡ true → IsTrue (is_open_at s t side)
opens s r p t side is same =
    let h = and_parts (r.platform.0 == p.0 && r.track.0 == t.0) (same_side r.side side) same in
    let k = and_parts (r.platform.0 == p.0) (r.track.0 == t.0) h.0 in
    sym (open_same s r.track.0 t.0 r.side side (eqb-true _ _ k.1) (same_side_tells r.side side h.1)) ∙ is

pub side_open : (s : Station) (p : PlatformId) (t : TrackId) (side : Side) → IsStation s → IfSome (route_cost s p t side) (λ c. IsTrue (is_open_at s t side))
side_open s p t side h = told (find (joins p t side) s.routes) (λ r. IsRoute s r × (joins p t side r ≡ true)) (λ c. IsTrue (is_open_at s t side))
    (found_route (IsRoute s) p t side s.routes h.routes) (λ r q. opens s r p t side q.0.open_at q.1)

joins_itself : (r : Route) → joins r.platform r.track r.side r ≡ true
joins_itself r = and_from _ _ (and_from _ _ (eq-eqb r.platform.0 r.platform.0 refl) (eq-eqb r.track.0 r.track.0 refl)) (same_side_itself r.side)

abbrev way : ℕ → ℕ → Side → PlatformId × (TrackId × Side)
way p t s = (record { 0 = p }, (record { 0 = t }, s))

way_is : (p q t u : ℕ) (s x : Side) → p ≡ q → t ≡ u → s ≡ x → way p t s ≡ way q u x
way_is p q t u s x a b c = cc

one_way : (r q : Route) → joins q.platform q.track q.side r ≡ true → way_of r ≡ way_of q
one_way r q same =
    let h = and_parts (r.platform.0 == q.platform.0 && r.track.0 == q.track.0) (same_side r.side q.side) same in
    let k = and_parts (r.platform.0 == q.platform.0) (r.track.0 == q.track.0) h.0 in
    way_is r.platform.0 q.platform.0 r.track.0 q.track.0 r.side q.side (eqb-true _ _ k.0) (eqb-true _ _ k.1) (same_side_tells r.side q.side h.1)

abbrev found_in : Route → List Route → Option Route
found_in q rs = find (joins q.platform q.track q.side) rs

abbrev cost_in : Option Route → Option ℕ
cost_in o = option_map (λ r. r.cost) o

-- each route of a station is found with its own cost
pub each_found : (rs : List Route) (k : ℕ) (d : Route) → AreDistinct (map way_of rs) → k < length rs → cost_in (found_in (get_or rs k d) rs) ≡ Some (get_or rs k d).cost
each_found [] k d h lt = absurd (omega arith)
each_found (r ∷ rs) zero d h lt = ap cost_in (cond-true (joins r.platform r.track r.side r) (Some r) (found_in r rs) (joins_itself r))
each_found (r ∷ rs) (suc k) d h lt =
    let q = get_or rs k d in
    let apart = λ (same : joins q.platform q.track q.side r ≡ true). h 0 (suc k) (way_of d) (omega arith) (rw length-map (omega arith))
    (one_way r q same ∙ sym (get_or-map way_of rs k d (way_of d) (omega arith))) in
    ap cost_in (cond-false (joins q.platform q.track q.side r) (Some r) (found_in q rs) (false_from_ne_true (joins q.platform q.track q.side r) apart))
    ∙ each_found rs k d (λ i j e before within. h (suc i) (suc j) e (omega arith) (omega arith)) (omega arith)
