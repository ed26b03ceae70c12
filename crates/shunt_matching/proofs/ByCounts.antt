-- A matching of the rest exists exactly when the counts allow it.
use Rattle.std.proofs.Common.{◌≡◌, ⊎_elim, ℕ, suc, ◌<◌, ◌≤◌, Bool, true, false, cond, ◌&&◌, eqb, leb, List, length, get_or, refl, sym, ap, ◌∙◌, subst, arith}
use Rattle.std.proofs.lemmas.List.FromFn.{get_or-map-range_with_len, length-map-range_with_len}
use Rattle.std.proofs.lemmas.Bool.{cases_lt, and_parts, and_from, eq-eqb, eqb-true, leb-true, le-leb}
use Rattle.shunt_lists.proofs.Numbers.{get_or-passing}
use Rattle.shunt_lists.proofs.SumsBelow.{count_of_places}
use Rattle.shunt_lists.proofs.CountsBelow.{count_below-le, count_below-same, count_below-within, count_below-rises, same_rank, of_rank, count_below-one}
use Rattle.shunt_lists.specs.defs.Below.{count_below}
use Rattle.shunt_instance.specs.defs.Matching.{Entry, entry_at, is_in_rest, IsOfRest, IsMatchable, place_of, times_given, IsMatchingOfRest, RisesByKind}
use Rattle.shunt_matching.specs.defs.Counts.{is_of_kind, is_by_minute, count_by_minute, IsBalanced, numbers_of_kind, earlier_of_kind, first_fit_at, first_fit_of}

-- ---- a matching has these counts

and_same : (x y z : Bool) → (x ≡ true → y ≡ z) → (x && y) ≡ (x && z)
and_same true y z h = h refl
and_same false y z h = refl

and_assoc : (x y z : Bool) → ((x && y) && z) ≡ (x && (y && z))
and_assoc true y z = refl
and_assoc false y z = refl

given_to : (us vs : List Entry) (um vm : List Bool) (place : List ℕ) → IsMatchingOfRest us vs um vm place → (p : ℕ → Bool)
    → count_below (length vs) (λ v. is_in_rest vm v && p v) ≡ count_below (length us) (λ u. is_in_rest um u && p (place_of place u))
given_to us vs um vm place m p =
    count_of_places (length us) (length vs) (is_in_rest um) (is_in_rest vm) (place_of place) p
    (λ u lt left. let g = m.given u (record { there = lt; left = left }) in (g.there, g.left))
    (λ v lt left. m.once v (record { there = lt; left = left }))

pub balanced : (us vs : List Entry) (um vm : List Bool) (place : List ℕ) → IsMatchingOfRest us vs um vm place → IsBalanced us vs um vm
balanced us vs um vm place m = record {
  same = λ kind.
      count_below-same (length us) (is_of_kind us um kind) (λ u. is_in_rest um u && eqb (entry_at vs (place_of place u)).kind kind)
      (λ u lt. and_same _ _ _ (λ left. ap (λ k. eqb k kind) (m.serves u (record { there = lt; left = left })).kind))
      ∙ sym (given_to us vs um vm place m (λ v. eqb (entry_at vs v).kind kind));
  enough = λ kind by. omega (
    arith,
    count_below-same (length vs) (is_by_minute vs vm kind by) (λ v. is_in_rest vm v && (eqb (entry_at vs v).kind kind && leb (entry_at vs v).minute by))
        (λ v lt. and_assoc (is_in_rest vm v) (eqb (entry_at vs v).kind kind) (leb (entry_at vs v).minute by)),
    given_to us vs um vm place m (λ v. eqb (entry_at vs v).kind kind && leb (entry_at vs v).minute by),
    count_below-le (length us) (λ u. is_in_rest um u && (eqb (entry_at vs (place_of place u)).kind kind && leb (entry_at vs (place_of place u)).minute by))
        (is_by_minute us um kind by)
        (λ u lt passes.
        let parts = and_parts _ _ passes in
        let tests = and_parts _ _ parts.1 in
        let fits = m.serves u (record { there = lt; left = parts.0 }) in
        let late : (entry_at vs (place_of place u)).minute ≤ by = leb-true _ _ tests.1 in
        and_from _ _ (and_from _ _ parts.0 (ap (λ k. eqb k kind) fits.kind ∙ tests.0)) (le-leb _ _ (let ready = fits.ready in omega arith))),
  );
}

-- ---- where the counts are so, the k-th go together

-- v is the position of the type of unit u with as many before it
record IsPartner (us vs : List Entry) (um vm : List Bool) (u v : ℕ) : Type 0 where
  there : v < length vs
  kind : is_of_kind vs vm (entry_at us u).kind v ≡ true
  rank : count_below v (is_of_kind vs vm (entry_at us u).kind) ≡ earlier_of_kind us um u

pub kind_of : (es : List Entry) (mask : List Bool) (kind i : ℕ) → is_of_kind es mask kind i ≡ true → (entry_at es i).kind ≡ kind
kind_of es mask kind i e = eqb-true _ _ (and_parts _ _ e).1

its_kind : (es : List Entry) (mask : List Bool) (i : ℕ) → is_in_rest mask i ≡ true → is_of_kind es mask (entry_at es i).kind i ≡ true
its_kind es mask i left = and_from _ _ left (eq-eqb _ _ refl)

partner : (us vs : List Entry) (um vm : List Bool) → IsBalanced us vs um vm → (u : ℕ) → IsOfRest us um u → (v : ℕ) × IsPartner us vs um vm u v
partner us vs um vm k u rest =
    let kind = (entry_at us u).kind in
    let less = count_below-rises (is_of_kind us um kind) u (length us) rest.there (its_kind us um u rest.left) in
    let w = of_rank (length vs) (is_of_kind vs vm kind) (earlier_of_kind us um u) (omega (arith, less, k.same kind)) in
    (w.0, record { there = w.1; kind = w.2; rank = w.3 })

-- the list gives unit u its partner
given : (us vs : List Entry) (um vm : List Bool) (u v : ℕ) → IsOfRest us um u → IsPartner us vs um vm u v → place_of (first_fit_of us vs um vm) u ≡ v
given us vs um vm u v rest p =
    get_or-map-range_with_len (first_fit_at us vs um vm) 0 (length us) u u 0 rest.there (omega arith)
    ∙ ap (λ (b : Bool). cond b (get_or (numbers_of_kind vs vm (entry_at us u).kind) (earlier_of_kind us um u) 65535) 65535) rest.left
    ∙ ap (λ k. get_or (numbers_of_kind vs vm (entry_at us u).kind) k 65535) (sym p.rank)
    ∙ get_or-passing (length vs) (is_of_kind vs vm (entry_at us u).kind) v 65535 p.there p.kind

pub rises : (es : List Entry) → RisesByKind es → (i j : ℕ) → i ≤ j → j < length es → (entry_at es i).kind ≡ (entry_at es j).kind → (entry_at es i).minute ≤ (entry_at es j).minute
rises es up i j le lt same = ⊎_elim
    (λ less. up i j less lt same)
    (λ not. let e : i ≡ j = omega arith in let m : (entry_at es i).minute ≡ (entry_at es j).minute = ap (λ k. (entry_at es k).minute) e in omega arith) (cases_lt i j)

-- by the minute at which v leaves, it and all before it leave, and no unit from u on is ready
ready : (us vs : List Entry) (um vm : List Bool) → RisesByKind us → RisesByKind vs → IsBalanced us vs um vm
    → (u v : ℕ) → IsOfRest us um u → IsPartner us vs um vm u v → (entry_at us u).minute ≤ (entry_at vs v).minute
ready us vs um vm up vp k u v rest p = ⊎_elim
    (λ late.
    let kind = (entry_at us u).kind in
    let by = (entry_at vs v).minute in
    let many : count_below (suc v) (is_of_kind vs vm kind) ≤ count_by_minute vs vm kind by =
    count_below-within (length vs) (suc v) (is_of_kind vs vm kind) (is_by_minute vs vm kind by)
    (λ i lt passes. (
      let there = p.there in omega arith,
      and_from _ _ passes (le-leb _ _ (rises vs vp i v (omega arith) p.there (kind_of vs vm kind i passes ∙ sym (kind_of vs vm kind v p.kind)))),
    )) in
    let few : count_by_minute us um kind by ≤ count_below u (is_of_kind us um kind) =
    count_below-within u (length us) (is_by_minute us um kind by) (is_of_kind us um kind)
    (λ i lt passes. let parts = and_parts _ _ passes in (
      ⊎_elim (λ less. less)
          (λ le. absurd (omega (arith, rises us up u i le lt (sym (kind_of us um kind i parts.0)), leb-true _ _ parts.1))) (cases_lt i u),
      parts.0,
    )) in
    absurd (omega (arith, many, few, count_below-rises (is_of_kind vs vm kind) v (suc v) (omega arith) p.kind, k.enough kind by, p.rank)))
    (λ le. le) (cases_lt (entry_at vs v).minute (entry_at us u).minute)

-- a number of a type, said of any equal type
of_same_kind : (es : List Entry) (mask : List Bool) (i j k : ℕ) → j ≡ k → is_of_kind es mask j i ≡ true → is_of_kind es mask k i ≡ true
of_same_kind es mask i j k e = subst (λ (n : ℕ). is_of_kind es mask n i ≡ true) e

same_count : (es : List Entry) (mask : List Bool) (i j k : ℕ) → j ≡ k → count_below i (is_of_kind es mask j) ≡ count_below i (is_of_kind es mask k)
same_count es mask i j k e = ap (λ (n : ℕ). count_below i (is_of_kind es mask n)) e

given_once : (us vs : List Entry) (um vm : List Bool) → IsBalanced us vs um vm → (v : ℕ) → IsOfRest vs vm v → times_given us um (first_fit_of us vs um vm) v ≡ 1
given_once us vs um vm k v rest =
    let kind = (entry_at vs v).kind in
    let own = its_kind vs vm v rest.left in
    let less = count_below-rises (is_of_kind vs vm kind) v (length vs) rest.there own in
    let w = of_rank (length us) (is_of_kind us um kind) (count_below v (is_of_kind vs vm kind)) (omega (arith, less, k.same kind)) in
    let e : (entry_at us w.0).kind ≡ kind = kind_of us um kind w.0 w.2 in
    let left : is_in_rest um w.0 ≡ true = (and_parts _ _ w.2).0 in
    let p : IsPartner us vs um vm w.0 v = record {
      there = rest.there;
      kind = of_same_kind vs vm v _ _ (sym e) own;
      rank = same_count vs vm v _ _ e ∙ sym w.3 ∙ same_count us um w.0 _ _ (sym e);
    } in
    count_below-one (length us) (λ u. is_in_rest um u && eqb (place_of (first_fit_of us vs um vm) u) v) w.0 w.1
    (and_from _ _ left (eq-eqb _ _ (given us vs um vm w.0 v (record { there = w.1; left = left }) p)))
    (λ j lt passes.
    let parts = and_parts _ _ passes in
    let of_rest : IsOfRest us um j = record { there = lt; left = parts.0 } in
    let found = partner us vs um vm k j of_rest in
    let is_v : found.0 ≡ v = sym (given us vs um vm j found.0 of_rest found.1) ∙ eqb-true _ _ parts.1 in
    let q : IsPartner us vs um vm j v = subst (λ (n : ℕ). IsPartner us vs um vm j n) is_v found.1 in
    let same : (entry_at us j).kind ≡ kind = sym (kind_of vs vm _ v q.kind) in
    same_rank (is_of_kind us um kind) j w.0 (of_same_kind us um j _ _ same (its_kind us um j parts.0)) w.2
    (same_count us um j _ _ (sym same) ∙ sym q.rank ∙ same_count vs vm v _ _ same ∙ sym w.3))

pub matched : (us vs : List Entry) (um vm : List Bool) → RisesByKind us → RisesByKind vs → IsBalanced us vs um vm → IsMatchingOfRest us vs um vm (first_fit_of us vs um vm)
matched us vs um vm up vp k = record {
  same_length = length-map-range_with_len (first_fit_at us vs um vm) 0 (length us);
  given = λ u rest. let p = partner us vs um vm k u rest in
      subst (λ (v : ℕ). IsOfRest vs vm v) (sym (given us vs um vm u p.0 rest p.1)) (record { there = p.1.there; left = (and_parts _ _ p.1.kind).0 });
  serves = λ u rest. let p = partner us vs um vm k u rest in
      subst (λ (v : ℕ). IsMatchable (entry_at us u) (entry_at vs v)) (sym (given us vs um vm u p.0 rest p.1))
      (record { kind = sym (kind_of vs vm _ p.0 p.1.kind); ready = ready us vs um vm up vp k u p.0 rest p.1 });
  once = given_once us vs um vm k;
}
