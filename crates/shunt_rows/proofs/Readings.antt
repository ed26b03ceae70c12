-- What is read of records is their value or their first fault.
use Rattle.std.proofs.Common.{◌≡◌, ◌⊎◌, inl, inr, ⊎_elim, ℕ, ◌+◌, ◌<◌, ◌≤◌, Bool, true, false, List, [], ◌∷◌, ◌++◌, length, refl, sym, ap, ◌∙◌, subst, arith}
use Rattle.std.specs.Prelude.{Result, Ok, Err, Some, not}
use Rattle.shunt_rows.specs.declared.fault.RowFault.{RowFault}
use Rattle.shunt_rows.specs.declared.fault.RowKind.{RowKind}
use Rattle.shunt_rows.specs.declared.fault.RowKind.TheVariants as kinds
use Rattle.shunt_rows.specs.defs.Checks.{Check, Judged, answer}
use Rattle.shunt_rows.specs.defs.Formats.{Format, after_last, in_state, state_after, judged, ◌>>=◌, reads, ends, reading}
use Rattle.shunt_rows.specs.defs.FirstFault.{IsEarlierFault, IsFaulty, AtRecord, lacks, IsFirst, States, HasChecksInOrder, IsInOrder, Tells}
use Rattle.shunt_rows.proofs.Joins.{reading_is}
use Rattle.shunt_rows.proofs.Least.{choice, all_hold, passed, first_fails, least_faulty, in_order}

-- whether reading went on
split : {A B : Type 0} (r : Result A RowFault) (g : A → Result B RowFault) (q : Result B RowFault) → (r >>= g) ≡ q
    → ((x : A) × (r ≡ Ok x) × (g x ≡ q)) ⊎ ((e : RowFault) × (r ≡ Err e) × (q ≡ Err e))
split (Ok x) g q e = inl (x, refl, e)
split (Err x) g q e = inr (x, refl, sym e)

same_fault : {A : Type 0} (e o : RowFault) → ◌≡◌ {A = Result A RowFault} (Err e) (Err o) → e ≡ o
same_fault e o is = cc

ok_err : {A : Type 0} (r : Result A RowFault) (x : A) (e : RowFault) → r ≡ Ok x → r ≡ Err e → ⊥
ok_err r x e p q = absurd (let f = sym p ∙ q in cc)

-- the tables of later records are in order, that after the last record too
state_in_order : {S V : Type 0} (f : Format S V) → IsInOrder f → (s : S) (row : List (List ℕ)) → HasChecksInOrder (in_state f s row)
state_in_order {S = S} f up s row = ⊎_elim
    (λ p. subst (λ (m : Judged S). HasChecksInOrder m) (sym p.1) (record { up = refl }))
    (λ p. subst (λ (m : Judged S). HasChecksInOrder m) (sym p.1) (up.later s row))
    (choice (f.has_ended s) (after_last s) (f.later s row))

-- a record that is answered by its value has no fault
clean : {A : Type 0} (n : ℕ) (m : Judged A) (x : A) → answer n m ≡ Ok x → (field : ℕ) (k : RowKind) → IsFaulty m.checks field k → ⊥
clean n m x e field k faulty = all_hold n m.checks m.value x e field k faulty.found

-- a record that is answered by a fault has it, and no other comes before it
pub record IsLeastOf (n : ℕ) (checks : List Check) (e : RowFault) : Type 0 where
  pub number : e.row ≡ n
  pub faulty : IsFaulty checks e.field e.kind
  pub least : (o : RowFault) → o.row ≡ n → IsFaulty checks o.field o.kind → (o ≡ e) ⊎ IsEarlierFault e o

faulty_first : {A : Type 0} (n : ℕ) (m : Judged A) (e : RowFault) → HasChecksInOrder m → answer n m ≡ Err e → IsLeastOf n m.checks e
faulty_first n m e up is =
    let first = first_fails n m.checks m.value e is in
    record {
      number = first.0;
      faulty = least_faulty m.checks e up.up first.1;
      least = λ o row faulty. in_order e o (first.0 ∙ sym row) (first.1.least 13 up.up o.field o.kind faulty.found);
    }

-- a fault of one of these later records, of which the first has the number n
abbrev FaultIn : {S V : Type 0} → Format S V → S → ℕ → List (List (List ℕ)) → RowFault → Type 0
FaultIn f s n [] e = ⊥
FaultIn f s n (row ∷ rows) e = ((e.row ≡ n) × IsFaulty (in_state f s row).checks e.field e.kind) ⊎ FaultIn f (in_state f s row).value (n + 1) rows e

from_on : {S V : Type 0} (f : Format S V) (s : S) (n : ℕ) (rows : List (List (List ℕ))) (e : RowFault) → FaultIn f s n rows e → (n ≤ e.row) × (e.row < n + length rows)
from_on f s n [] e at = absurd at
from_on f s n (row ∷ rows) e at = ⊎_elim
    (λ here. (omega (arith, here.0), omega (arith, here.0)))
    (λ more. let r = from_on f (in_state f s row).value (n + 1) rows e more in (omega (arith, r.0), omega (arith, r.1)))
    at

in_from : {S V : Type 0} (f : Format S V) (s : S) (n : ℕ) (before : List (List (List ℕ))) (row : List (List ℕ)) (after : List (List (List ℕ))) (e : RowFault)
    → e.row ≡ length before + n → IsFaulty (in_state f (state_after f s before) row).checks e.field e.kind → FaultIn f s n (before ++ row ∷ after) e
in_from f s n [] row after e number faulty = inl (omega (arith, number), faulty)
in_from f s n (b ∷ before) row after e number faulty = inr (in_from f (in_state f s b).value (n + 1) before row after e (omega (arith, number)) faulty)

pub record Stands {S V : Type 0} (f : Format S V) (s : S) (n : ℕ) (rows : List (List (List ℕ))) (e : RowFault) : Type 0 where
  pub before : List (List (List ℕ))
  pub row : List (List ℕ)
  pub after : List (List (List ℕ))
  pub place : rows ≡ before ++ row ∷ after
  pub number : e.row ≡ length before + n
  pub faulty : IsFaulty (in_state f (state_after f s before) row).checks e.field e.kind

stands : {S V : Type 0} (f : Format S V) (s : S) (n : ℕ) (rows : List (List (List ℕ))) (e : RowFault) → FaultIn f s n rows e → Stands f s n rows e
stands f s n [] e at = absurd at
stands f s n (row ∷ rows) e at = ⊎_elim
    (λ here. record { before = []; row = row; after = rows; place = refl; number = omega (arith, here.0); faulty = here.1 })
    (λ more.
    let r = stands f (in_state f s row).value (n + 1) rows e more in
    record {
      before = row ∷ r.before;
      row = r.row;
      after = r.after;
      place = ap (λ (l : List (List (List ℕ))). row ∷ l) r.place;
      number = omega
          (arith, r.number);
      faulty = r.faulty;
    })
    at

-- reading later records

pub reads_ok : {S V : Type 0} (f : Format S V) (s : S) (n : ℕ) (rows : List (List (List ℕ))) (t : S) → reads f s n rows ≡ Ok t
    → (t ≡ state_after f s rows) × ((e : RowFault) → FaultIn f s n rows e → ⊥)
reads_ok {S = S} f s n [] t is = (cc, λ e at. at)
reads_ok {S = S} f s n (row ∷ rows) t is = ⊎_elim
    (λ p.
    let same = passed n (in_state f s row).checks (in_state f s row).value p.0 p.1 in
    let more = reads_ok f (in_state f s row).value (n + 1) rows t (ap (λ (x : S). reads f x (n + 1) rows) (sym same) ∙ p.2) in
    (more.0, λ e at. ⊎_elim (λ here. clean n (in_state f s row) p.0 p.1 e.field e.kind here.1) (λ on. more.1 e on) at))
    (λ p. absurd (ok_err (Ok t) t p.0 refl p.2))
    (split (answer n (in_state f s row)) (λ x. reads f x (n + 1) rows) (Ok t) is)

reads_err : {S V : Type 0} (f : Format S V) → IsInOrder f → (s : S) (n : ℕ) (rows : List (List (List ℕ))) (e : RowFault) → reads f s n rows ≡ Err e
    → FaultIn f s n rows e × ((o : RowFault) → FaultIn f s n rows o → (o ≡ e) ⊎ IsEarlierFault e o)
reads_err {S = S} f up s n [] e is = absurd cc
reads_err {S = S} f up s n (row ∷ rows) e is = ⊎_elim
    (λ p.
    let same = passed n (in_state f s row).checks (in_state f s row).value p.0 p.1 in
    let more = reads_err f up (in_state f s row).value (n + 1) rows e (ap (λ (x : S). reads f x (n + 1) rows) (sym same) ∙ p.2) in
    (inr more.0, λ o at. ⊎_elim (λ here. absurd (clean n (in_state f s row) p.0 p.1 o.field o.kind here.1)) (λ on. more.1 o on) at))
    (λ p.
    let is : answer n (in_state f s row) ≡ Err e = p.1 ∙ sym p.2 in
    let first = faulty_first n (in_state f s row) e (state_in_order f up s row) is in (
      inl (first.number, first.faulty),
      λ o at. ⊎_elim
          (λ here. first.least o here.0 here.1)
          (λ on. let r = from_on f (in_state f s row).value (n + 1) rows o on in inr (inl (omega (arith, first.number, r.0))))
          at,
    ))
    (split (answer n (in_state f s row)) (λ x. reads f x (n + 1) rows) (Err e) is)

-- a fault of all records, the first among them

at_first : {S V : Type 0} (f : Format S V) (head : List (List ℕ)) (rows : List (List (List ℕ))) (e : RowFault) (before : List (List (List ℕ))) (row : List (List ℕ))
    (after : List (List (List ℕ)))
    → head ∷ rows ≡ before ++ row ∷ after → e.row ≡ length before + 1 → IsFaulty (judged f before row).checks e.field e.kind
    → ((e.row ≡ 1) × IsFaulty (f.first head).checks e.field e.kind) ⊎ FaultIn f (f.first head).value 2 rows e
at_first f head rows e [] row after place number faulty =
    let same : row ≡ head = cc in
    inl (omega (arith, number), subst (λ (r : List (List ℕ)). IsFaulty (f.first r).checks e.field e.kind) same faulty)
at_first f head rows e (b ∷ before) row after place number faulty =
    let same : b ≡ head = cc in
    let tail : rows ≡ before ++ row ∷ after = cc in
    let in_place : FaultIn f (f.first head).value 2 (before ++ row ∷ after) e =
    in_from f (f.first head).value 2 before row after e (omega (arith, number)) (subst
    (λ (r : List (List ℕ)). IsFaulty (in_state f (state_after f (f.first r).value before) row).checks e.field e.kind) same faulty) in
    inr (subst (λ (l : List (List (List ℕ))). FaultIn f (f.first head).value 2 l e) (sym tail) in_place)

at_record : {S V : Type 0} (f : Format S V) (head : List (List ℕ)) (rows : List (List (List ℕ))) (e : RowFault) → AtRecord f (head ∷ rows) e
    → ((e.row ≡ 1) × IsFaulty (f.first head).checks e.field e.kind) ⊎ FaultIn f (f.first head).value 2 rows e
at_record f head rows e a = at_first f head rows e a.before a.row a.after a.place a.number a.faulty

in_record : {S V : Type 0} (f : Format S V) (head : List (List ℕ)) (rows : List (List (List ℕ))) (e : RowFault) → FaultIn f (f.first head).value 2 rows e
    → AtRecord f (head ∷ rows) e
in_record f head rows e at =
    let r = stands f (f.first head).value 2 rows e at in
    record {
      before = head ∷ r.before;
      row = r.row;
      after = r.after;
      place = ap (λ (l : List (List (List ℕ))). head ∷ l) r.place;
      number = omega
          (arith, r.number);
      faulty = r.faulty;
    }

-- the end of the records

end_ok : {S V : Type 0} (f : Format S V) (s : S) (n : ℕ) (v : V) → ends f s n ≡ Ok v → (f.is_whole s ≡ true) × (v ≡ f.value s)
end_ok f s n v is = ⊎_elim
    (λ p. (p.0, let e = sym p.1 ∙ is in cc))
    (λ p. absurd (let e = sym p.1 ∙ is in cc))
    (choice (f.is_whole s) (Ok (f.value s)) (Err record { row = n; field = 0; kind = kinds.Missing }))

end_err : {S V : Type 0} (f : Format S V) (s : S) (n : ℕ) (e : RowFault) → ends f s n ≡ Err e → (f.is_whole s ≡ false) × (e ≡ record { row = n; field = 0; kind = kinds.Missing })
end_err f s n e is = ⊎_elim
    (λ p. absurd (let e = sym p.1 ∙ is in cc))
    (λ p. (p.0, let e = sym p.1 ∙ is in cc))
    (choice (f.is_whole s) (Ok (f.value s)) (Err record { row = n; field = 0; kind = kinds.Missing }))

-- a record is still needed, or none is
needed : {S V : Type 0} (f : Format S V) (head : List (List ℕ)) (rows : List (List (List ℕ))) (t : S) (b : Bool) → t ≡ state_after f (f.first head).value rows → f.is_whole t ≡ b
    → lacks f (head ∷ rows) ≡ not b
needed f head rows t b at is = ap (λ x. not (f.is_whole x)) (sym at) ∙ ap not is

none_in : {S V : Type 0} (f : Format S V) (row : List (List ℕ)) (before after : List (List (List ℕ))) → [] ≡ before ++ row ∷ after → ⊥
none_in f row [] after place = absurd cc
none_in f row (b ∷ before) after place = absurd cc

-- where records are read to their end, what holds of them is at the end
pub at_end : {S V : Type 0} (f : Format S V) (head : List (List ℕ)) (rows : List (List (List ℕ))) (s t : S) (e : RowFault) → answer 1 (f.first head) ≡ Ok s
    → reads f s 2 rows ≡ Ok t → AtRecord f (head ∷ rows) e → ⊥
at_end {S = S} f head rows s t e one on at =
    let same = passed 1 (f.first head).checks (f.first head).value s one in
    let r = reads_ok f (f.first head).value 2 rows t (ap (λ (x : S). reads f x 2 rows) (sym same) ∙ on) in
    ⊎_elim (λ here. clean 1 (f.first head) s one e.field e.kind here.1) (λ more. r.1 e more) (at_record f head rows e at)

last_state : {S V : Type 0} (f : Format S V) (head : List (List ℕ)) (rows : List (List (List ℕ))) (s t : S) → answer 1 (f.first head) ≡ Ok s → reads f s 2 rows ≡ Ok t
    → t ≡ state_after f (f.first head).value rows
last_state {S = S} f head rows s t one on =
    let same = passed 1 (f.first head).checks (f.first head).value s one in
    (reads_ok f (f.first head).value 2 rows t (ap (λ (x : S). reads f x 2 rows) (sym same) ∙ on)).0

-- a value that is read is stated
pub reading_ok : {S V : Type 0} (f : Format S V) (rows : List (List (List ℕ))) (v : V) → reading f rows ≡ Ok v → States f rows v
reading_ok f [] v is = absurd cc
reading_ok {V = V} f (head ∷ rows) v is = ⊎_elim
    (λ p. ⊎_elim
    (λ q.
    let whole = end_ok f q.0 (length rows + 2) v q.2 in
    let at = last_state f head rows p.0 q.0 p.1 q.1 in
    record {
      sound = λ e holds. ⊎_elim
          (λ in_row. at_end f head rows p.0 q.0 e p.1 q.1 in_row)
          (λ end. absurd (let l = sym (needed f head rows q.0 true at whole.0) ∙ end.0 in cc))
          holds;
      value = ap (λ x. Some (f.value x)) (sym at) ∙ ap (λ (x : V). Some x) (sym whole.1);
    })
    (λ q. absurd (ok_err (Ok v) v q.0 refl q.2))
    (split (reads f p.0 2 rows) (λ t. ends f t (length rows + 2)) (Ok v) p.2))
    (λ p. absurd (ok_err (Ok v) v p.0 refl p.2))
    (split (answer 1 (f.first head)) (λ s. reads f s 2 rows >>= (λ t. ends f t (length rows + 2))) (Ok v) (sym (reading_is f head rows) ∙ is))

-- a fault that is read is the first
pub reading_err : {S V : Type 0} (f : Format S V) → IsInOrder f → (rows : List (List (List ℕ))) (e : RowFault) → reading f rows ≡ Err e → IsFirst f rows e
reading_err f up [] e is =
    let at : ◌≡◌ {A = RowFault} e record { row = 1; field = 0; kind = kinds.Missing } = cc in
    record {
      holds = inr (refl, at);
      least = λ o holds. ⊎_elim (λ r. absurd (none_in f r.row r.before r.after r.place)) (λ end. inl (end.1 ∙ sym at)) holds;
    }
reading_err {S = S} f up (head ∷ rows) e is = ⊎_elim
    (λ p. ⊎_elim
    (λ q.
    let missing = end_err f q.0 (length rows + 2) e q.2 in
    let at = last_state f head rows p.0 q.0 p.1 q.1 in
    let number : length rows + 2 ≡ length (head ∷ rows) + 1 = omega arith in
    let place : ◌≡◌ {A = RowFault} e record { row = length (head ∷ rows) + 1; field = 0; kind = kinds.Missing } = missing.1
    ∙ ap (λ n. let g : RowFault = record { row = n; field = 0; kind = kinds.Missing } in g) number in
    record {
      holds = inr (needed f head rows q.0 false at missing.0, place);
      least = λ o holds. ⊎_elim
          (λ in_row. absurd (at_end f head rows p.0 q.0 o p.1 q.1 in_row))
          (λ end. inl (end.1 ∙ sym place))
          holds;
    })
    (λ q.
    let same = passed 1 (f.first head).checks (f.first head).value p.0 p.1 in
    let first = reads_err f up (f.first head).value 2 rows e (ap (λ (x : S). reads f x 2 rows) (sym same) ∙ q.1
    ∙ ap (λ (x : RowFault). let r : Result S RowFault = Err x in r) (sym (same_fault e q.0 q.2))) in
    let below = from_on f (f.first head).value 2 rows e first.0 in
    record {
      holds = inl (in_record f head rows e first.0);
      least = λ o holds. ⊎_elim
          (λ in_row. ⊎_elim (λ here. absurd (clean 1 (f.first head) p.0 p.1 o.field o.kind here.1)) (λ more. first.1 o more) (at_record f head rows o in_row))
          (λ end. let n = ap (λ (g : RowFault). g.row) end.1 in inr (inl (omega (arith, n, below.1))))
          holds;
    })
    (split (reads f p.0 2 rows) (λ t. ends f t (length rows + 2)) (Err e) p.2))
    (λ p.
    let first = faulty_first 1 (f.first head) e (up.first head) (p.1 ∙ ap (λ (x : RowFault). let r : Result S RowFault = Err x in r) (sym (same_fault e p.0 p.2))) in
    record {
      holds = inl record { before = []; row = head; after = rows; place = refl; number = omega (arith, first.number); faulty = first.faulty };
      least = λ o holds. ⊎_elim
          (λ in_row. ⊎_elim
          (λ here. first.least o here.0 here.1)
          (λ more. let r = from_on f (f.first head).value 2 rows o more in inr (inl (omega (arith, first.number, r.0))))
          (at_record f head rows o in_row))
          (λ end. let n = ap (λ (g : RowFault). g.row) end.1 in inr (inl (omega (arith, n, first.number))))
          holds;
    })
    (split (answer 1 (f.first head)) (λ s. reads f s 2 rows >>= (λ t. ends f t (length rows + 2))) (Err e) (sym (reading_is f head rows) ∙ is))

-- of two faults, one doesn't come before the other and the other before it
not_both : (e o : RowFault) → IsEarlierFault e o → IsEarlierFault o e → ⊥
not_both e o p q = grind arith

one_first : {S V : Type 0} (f : Format S V) (rows : List (List (List ℕ))) (e o : RowFault) → IsFirst f rows e → IsFirst f rows o → e ≡ o
one_first f rows e o p q = ⊎_elim (λ same. sym same) (λ lt. ⊎_elim (λ same. same) (λ gt. absurd (not_both e o lt gt)) (q.least e p.holds)) (p.least o q.holds)

one_value : {S V : Type 0} (f : Format S V) (rows : List (List (List ℕ))) (v w : V) → States f rows v → States f rows w → v ≡ w
one_value {V = V} f rows v w p q = let e = sym p.value ∙ q.value in cc

never : {S V : Type 0} (f : Format S V) (rows : List (List (List ℕ))) (v : V) (e : RowFault) → States f rows v → IsFirst f rows e → ⊥
never f rows v e p q = p.sound e q.holds

-- what was read, and that it is what the records state
told : {S V : Type 0} (f : Format S V) → IsInOrder f → (rows : List (List (List ℕ))) (r : Result V RowFault) → reading f rows ≡ r
    → ((v : V) × (reading f rows ≡ Ok v) × States f rows v) ⊎ ((e : RowFault) × (reading f rows ≡ Err e) × IsFirst f rows e)
told f up rows (Ok v) is = inl (v, is, reading_ok f rows v is)
told f up rows (Err e) is = inr (e, is, reading_err f up rows e is)

pub tells : {S V : Type 0} (f : Format S V) → IsInOrder f → (rows : List (List (List ℕ))) → Tells f rows
tells {V = V} f up rows =
    let t = told f up rows (reading f rows) refl in
    record {
      value = λ v. (
        reading_ok f rows v,
        λ states. ⊎_elim
            (λ p. p.1 ∙ ap (λ (x : V). Ok x) (one_value f rows p.0 v p.2 states))
            (λ p. absurd (never f rows v p.0 states p.2))
            t,
      );
      fault = λ e. (
        reading_err f up rows e,
        λ first. ⊎_elim
            (λ p. absurd (never f rows p.0 e p.2 first))
            (λ p. p.1 ∙ ap (λ (x : RowFault). Err x) (one_first f rows p.0 e p.2 first))
            t,
      );
      either = ⊎_elim (λ p. inl (p.0, p.2)) (λ p. inr (p.0, p.2)) t;
      never = never f rows;
    }
