-- Tables that are written cell by cell hold what their definitions say.
use Rattle.std.specs.Prelude.{slice_get, All, option_map, find, Option, Some, None}
use Rattle.std.proofs.Common.{◌≡◌, ℕ, zero, suc, ◌+◌, ◌-◌, ◌*◌, ◌<◌, ◌≤◌, Bool, true, false, ◌&&◌, ◌||◌, ◌==◌, cond, List, [], ◌∷◌, length, get_or, drop, replicate, set, sym, ap, ◌∙◌, subst, arith, inl, inr, refl}
use Rattle.std.proofs.Math.Seq.{drop-length, drop-cons}
use Rattle.std.proofs.lemmas.Bool.{cases_Bool, cond-true, cond-false, eqb-true, eq-eqb, and_parts, and_from, both_ways, false≢true}
use Rattle.std.proofs.lemmas.List.{length-set, length-replicate, get_or-replicate}
use Rattle.std.proofs.lemmas.Option.{slice_get-get_or}
use Rattle.shunt_base.specs.defs.Sides.{same_side}
use Rattle.shunt_base.specs.declared.ids.PlatformId.{PlatformId}
use Rattle.shunt_base.specs.declared.ids.TrackId.{TrackId}
use Rattle.shunt_base.specs.declared.ids.Side.{Side}
use Rattle.shunt_base.specs.declared.ids.Side.TheVariants.{A, B}
use Rattle.shunt_instance.specs.declared.records.Route.{Route}
use Rattle.shunt_instance.specs.declared.records.Permit.{Permit}
use Rattle.shunt_instance.specs.defs.Words.{joins}
use Rattle.shunt_instance.specs.defs.Tables.{side_number, route_cell, permit_cell, AreCosts, AreNamed, ArePairs}

written : {X : Type 0} (xs : List X) (i : ℕ) (x : X) → i < length xs → slice_get (set xs i x) i ≡ Some x
written [] i x lt = absurd (omega arith)
written (y ∷ ys) zero x lt = refl
written (y ∷ ys) (suc i) x lt = written ys i x (omega arith)

elsewhere : {X : Type 0} (xs : List X) (i j : ℕ) (x : X) → (i ≡ j → ⊥) → slice_get (set xs i x) j ≡ slice_get xs j
elsewhere [] i j x ne = refl
elsewhere (y ∷ ys) zero zero x ne = absurd (ne refl)
elsewhere (y ∷ ys) zero (suc j) x ne = refl
elsewhere (y ∷ ys) (suc i) zero x ne = refl
elsewhere (y ∷ ys) (suc i) (suc j) x ne = elsewhere ys i j x (λ e. ne (ap suc e))

filled : {X : Type 0} (n i : ℕ) (x : X) → i < n → slice_get (replicate n x) i ≡ Some x
filled n i x lt = slice_get-get_or (replicate n x) i x (rw (length-replicate n x) lt) ∙ ap Some (get_or-replicate n i x x lt)

side_small : (s : Side) → side_number s < 2
side_small A = omega arith
side_small B = omega arith

side_tells : (s q : Side) → side_number s ≡ side_number q → same_side s q ≡ true
side_tells A A e = refl
side_tells A B e = absurd (omega arith)
side_tells B A e = absurd (omega arith)
side_tells B B e = refl

same_numbers : (s q : Side) → same_side s q ≡ true → side_number s ≡ side_number q
same_numbers A A e = refl
same_numbers A B e = absurd (false≢true e)
same_numbers B A e = absurd (false≢true e)
same_numbers B B e = refl

cell_small : (p t x : ℕ) → p < 30 → t < 60 → x < 2 → (p * 60 + t) * 2 + x < 3600
cell_small p t x a b c = omega arith

cell_tells : (p t x q u y : ℕ) → t < 60 → u < 60 → x < 2 → y < 2 → (p * 60 + t) * 2 + x ≡ (q * 60 + u) * 2 + y → (p ≡ q) × (t ≡ u) × (x ≡ y)
cell_tells p t x q u y a b c d e = (omega arith, omega arith, omega arith)

-- one cell, one way
joined : (r : Route) (p : PlatformId) (t : TrackId) (s : Side) → r.track.0 < 60 → t.0 < 60 → route_cell r.platform r.track r.side ≡ route_cell p t s → joins p t s r ≡ true
joined r p t s a b e =
    let f = cell_tells r.platform.0 r.track.0 (side_number r.side) p.0 t.0 (side_number s) a b (side_small r.side) (side_small s) e in
    and_from _ _ (and_from _ _ (eq-eqb _ _ f.0) (eq-eqb _ _ f.1)) (side_tells r.side s f.2)

same_cell : (p t x q u y : ℕ) → p ≡ q → t ≡ u → x ≡ y → (p * 60 + t) * 2 + x ≡ (q * 60 + u) * 2 + y
same_cell p t x q u y a b c = omega arith

its_cell : (r : Route) (p : PlatformId) (t : TrackId) (s : Side) → joins p t s r ≡ true → route_cell r.platform r.track r.side ≡ route_cell p t s
its_cell r p t s is =
    let h = and_parts (r.platform.0 == p.0 && r.track.0 == t.0) (same_side r.side s) is in
    let k = and_parts (r.platform.0 == p.0) (r.track.0 == t.0) h.0 in
    same_cell r.platform.0 r.track.0 (side_number r.side) p.0 t.0 (side_number s) (eqb-true _ _ k.0) (eqb-true _ _ k.1) (same_numbers r.side s h.1)

abbrev no_cost : Option ℕ
no_cost = None

pub costs_start : (routes : List Route) (costs : List (Option ℕ)) → costs ≡ replicate 3600 no_cost → AreCosts (drop (length routes) routes) costs
costs_start routes costs e = rw (e, drop-length routes) record {
  size = length-replicate 3600 no_cost;
  each = λ p t s a b. filled 3600 (route_cell p t s) no_cost (cell_small p.0 t.0 (side_number s) a b (side_small s));
}

abbrev told : Option Route → Option (Option ℕ)
told o = Some (option_map (λ q. q.cost) o)

cost_at : (r : Route) (routes : List Route) (costs : List (Option ℕ)) → AreCosts routes costs → r.platform.0 < 30 → r.track.0 < 60 → (p : PlatformId) (t : TrackId) (s : Side)
    → p.0 < 30 → t.0 < 60 → slice_get (set costs (route_cell r.platform r.track r.side) (Some r.cost)) (route_cell p t s)
    ≡ told (cond (joins p t s r) (Some r) (find (joins p t s) routes))
cost_at r routes costs h m n p t s a b = elim (cases_Bool (joins p t s r)) [
  | inl is ↦ subst (λ (i : ℕ). slice_get (set costs (route_cell r.platform r.track r.side) (Some r.cost)) i ≡ Some (Some r.cost)) (its_cell r p t s is)
      (written costs (route_cell r.platform r.track r.side) (Some r.cost) (subst (λ (n : ℕ). route_cell r.platform r.track r.side < n) (sym h.size)
      (cell_small r.platform.0 r.track.0 (side_number r.side) m n (side_small r.side)))) ∙ ap told (sym (cond-true (joins p t s r) (Some r) (find (joins p t s) routes) is))
  | inr apart ↦ elsewhere costs (route_cell r.platform r.track r.side) (route_cell p t s) (Some r.cost) (λ e. both_ways (joins p t s r) apart (joined r p t s n b e))
      ∙ h.each p t s a b ∙ ap told (sym (cond-false (joins p t s r) (Some r) (find (joins p t s) routes) apart))
]

pub costs_step : (r : Route) (routes : List Route) (costs : List (Option ℕ)) → AreCosts routes costs → r.platform.0 < 30 → r.track.0 < 60
    → AreCosts (r ∷ routes) (set costs (route_cell r.platform r.track r.side) (Some r.cost))
costs_step r routes costs h m n = record {
  size = length-set costs (route_cell r.platform r.track r.side) (Some r.cost) ∙ h.size;
  each = cost_at r routes costs h m n;
}

-- the list from one place earlier on
earlier : {X : Type 0} (xs : List X) (left : ℕ) (d : X) → 0 < left → left ≤ length xs → drop (left - 1) xs ≡ get_or xs (left - 1) d ∷ drop left xs
earlier xs left d some within =
    let again : suc (left - 1) ≡ left = omega arith in
    drop-cons xs (left - 1) d (omega arith) ∙ ap (λ (n : ℕ). get_or xs (left - 1) d ∷ drop n xs) again

pub costs_back : (routes : List Route) (left : ℕ) (costs : List (Option ℕ)) (d : Route) → 0 < left → left ≤ length routes → All (λ r. (r.platform.0 < 30) × (r.track.0 < 60)) routes
    → AreCosts (drop left routes) costs → AreCosts (drop (left - 1) routes) (set costs
    (route_cell (get_or routes (left - 1) d).platform (get_or routes (left - 1) d).track (get_or routes (left - 1) d).side) (Some (get_or routes (left - 1) d).cost))
costs_back routes left costs d some within all h =
    let at = all (left - 1) d (omega arith) in
    rw (earlier routes left d some within) (costs_step (get_or routes (left - 1) d) (drop left routes) costs h at.0 at.1)

pub whole : {X : Type 0} (P : List X → Type 0) (xs : List X) (left : ℕ) → left ≤ 0 → P (drop left xs) → P xs
whole P xs zero none h = h
whole P xs (suc n) none h = absurd (omega arith)

-- cells of tests: one written cell is true, and the others are as they were
test_at : (cells : List Bool) (i j : ℕ) (same rest : Bool) → i < length cells → (same ≡ true → i ≡ j) → (i ≡ j → same ≡ true) → slice_get cells j ≡ Some rest
    → slice_get (set cells i true) j ≡ Some (same || rest)
test_at cells i j true rest lt there back h = subst (λ (k : ℕ). slice_get (set cells i true) k ≡ Some true) (there refl) (written cells i true lt)
test_at cells i j false rest lt there back h = elsewhere cells i j true (λ e. false≢true (back e)) ∙ h

pub named_start : (permits : List Permit) (named : List Bool) → named ≡ replicate 60 false → AreNamed (drop (length permits) permits) named
named_start permits named e = rw (e, drop-length permits) record {
  size = length-replicate 60 false;
  each = λ t a. filled 60 t.0 false a;
}

pub named_step : (p : Permit) (permits : List Permit) (named : List Bool) → AreNamed permits named → p.track.0 < 60 → AreNamed (p ∷ permits) (set named p.track.0 true)
named_step p permits named h m = record {
  size = length-set named p.track.0 true ∙ h.size;
  each = λ t a. test_at named p.track.0 t.0 (p.track.0 == t.0) _ (subst (λ (n : ℕ). p.track.0 < n) (sym h.size) m) (eqb-true _ _) (eq-eqb _ _) (h.each t a);
}

pair_small : (t k : ℕ) → t < 60 → k < 40 → t * 40 + k < 2400
pair_small t k a b = omega arith

pair_tells : (t k u l : ℕ) → k < 40 → l < 40 → t * 40 + k ≡ u * 40 + l → (t ≡ u) × (k ≡ l)
pair_tells t k u l a b e = (omega arith, omega arith)

same_pair : (t k u l : ℕ) → t ≡ u → k ≡ l → t * 40 + k ≡ u * 40 + l
same_pair t k u l a b = omega arith

pub pairs_start : (permits : List Permit) (pairs : List Bool) → pairs ≡ replicate 2400 false → ArePairs (drop (length permits) permits) pairs
pairs_start permits pairs e = rw (e, drop-length permits) record {
  size = length-replicate 2400 false;
  each = λ t k a b. filled 2400 (permit_cell t k) false (pair_small t.0 k.0 a b);
}

pub pairs_step : (p : Permit) (permits : List Permit) (pairs : List Bool) → ArePairs permits pairs → p.track.0 < 60 → p.kind.0 < 40
    → ArePairs (p ∷ permits) (set pairs (permit_cell p.track p.kind) true)
pairs_step p permits pairs h m n = record {
  size = length-set pairs (permit_cell p.track p.kind) true ∙ h.size;
  each = λ t k a b. test_at pairs (permit_cell p.track p.kind) (permit_cell t k) (p.track.0 == t.0 && p.kind.0 == k.0) _
      (subst (λ (c : ℕ). permit_cell p.track p.kind < c) (sym h.size) (pair_small p.track.0 p.kind.0 m n))
      (λ is. let f = and_parts (p.track.0 == t.0) (p.kind.0 == k.0) is in same_pair p.track.0 p.kind.0 t.0 k.0 (eqb-true _ _ f.0) (eqb-true _ _ f.1))
      (λ e. let f = pair_tells p.track.0 p.kind.0 t.0 k.0 n b e in and_from _ _ (eq-eqb _ _ f.0) (eq-eqb _ _ f.1)) (h.each t k a b);
}

pub named_back : (permits : List Permit) (left : ℕ) (named : List Bool) (d : Permit) → 0 < left → left ≤ length permits → All (λ p. p.track.0 < 60) permits
    → AreNamed (drop left permits) named → AreNamed (drop (left - 1) permits) (set named (get_or permits (left - 1) d).track.0 true)
named_back permits left named d some within all h =
    rw (earlier permits left d some within) (named_step (get_or permits (left - 1) d) (drop left permits) named h (all (left - 1) d (omega arith)))

pub pairs_back : (permits : List Permit) (left : ℕ) (pairs : List Bool) (d : Permit) → 0 < left → left ≤ length permits → All (λ p. (p.track.0 < 60) × (p.kind.0 < 40)) permits
    → ArePairs (drop left permits) pairs → ArePairs (drop (left - 1) permits) (set pairs (permit_cell (get_or permits (left - 1) d).track (get_or permits (left - 1) d).kind) true)
pairs_back permits left pairs d some within all h =
    let at = all (left - 1) d (omega arith) in
    rw (earlier permits left d some within) (pairs_step (get_or permits (left - 1) d) (drop left permits) pairs h at.0 at.1)
