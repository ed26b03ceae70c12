-- The first check that fails is the least fault of a record.
use Rattle.std.proofs.Common.{◌≡◌, ◌⊎◌, inl, inr, ⊎_elim, ℕ, ◌+◌, ◌*◌, ◌≤◌, Bool, true, false, ◌==◌, List, [], ◌∷◌, refl, sym, ap, ◌∙◌, arith, IsTrue, subst}
use Rattle.std.specs.Prelude.{Ok, Err, if◌then◌else◌, nat_le}
use Rattle.std.proofs.lemmas.Bool.{leb-true, cases_lt, and_parts}
use Rattle.shunt_rows.specs.declared.fault.RowFault.{RowFault}
use Rattle.shunt_rows.specs.declared.fault.RowKind.{RowKind}
use Rattle.shunt_rows.specs.declared.fault.RowKind.TheVariants as kinds
use Rattle.shunt_rows.specs.defs.Faults.{kind_number}
use Rattle.shunt_rows.specs.defs.Checks.{Check, passes}
use Rattle.shunt_rows.specs.defs.FirstFault.{Finds, IsFaulty, rank, ascends_from, IsEarlierFault}

kind_of : ℕ → RowKind
kind_of n = if n == 1 then kinds.Kind else if n == 2 then kinds.Fields else if n == 3 then kinds.Name else if n == 4 then kinds.Number else if n == 5 then kinds.Time else if n == 6
    then kinds.Unknown else if n == 7 then kinds.Repeat else if n == 8 then kinds.Limit else if n == 9 then kinds.Missing else if n == 10 then kinds.ClosedSide else kinds.Tail

kind_back : (k : RowKind) → kind_of (kind_number k) ≡ k
unfolding kind_of
kind_back kinds.Kind = refl
kind_back kinds.Fields = refl
kind_back kinds.Name = refl
kind_back kinds.Number = refl
kind_back kinds.Time = refl
kind_back kinds.Unknown = refl
kind_back kinds.Repeat = refl
kind_back kinds.Limit = refl
kind_back kinds.Missing = refl
kind_back kinds.ClosedSide = refl
kind_back kinds.Tail = refl

-- kinds of one number are one
pub kind_tells : (k l : RowKind) → kind_number k ≡ kind_number l → k ≡ l
kind_tells k l e = sym (kind_back k) ∙ ap kind_of e ∙ kind_back l

pub kind_range : (k : RowKind) → (1 ≤ kind_number k) × (kind_number k ≤ 11)
kind_range kinds.Kind = (omega arith, omega arith)
kind_range kinds.Fields = (omega arith, omega arith)
kind_range kinds.Name = (omega arith, omega arith)
kind_range kinds.Number = (omega arith, omega arith)
kind_range kinds.Time = (omega arith, omega arith)
kind_range kinds.Unknown = (omega arith, omega arith)
kind_range kinds.Repeat = (omega arith, omega arith)
kind_range kinds.Limit = (omega arith, omega arith)
kind_range kinds.Missing = (omega arith, omega arith)
kind_range kinds.ClosedSide = (omega arith, omega arith)
kind_range kinds.Tail = (omega arith, omega arith)

pub choice : {X : Type 0} (b : Bool) (r s : X) → ((b ≡ true) × ((if b then r else s) ≡ r)) ⊎ ((b ≡ false) × ((if b then r else s) ≡ s))
choice true r s = inl (refl, refl)
choice false r s = inr (refl, refl)

-- where a record passes, no check of it fails, and it says its value
pub all_hold : {A : Type 0} (n : ℕ) (checks : List Check) (x y : A) → passes n checks x ≡ Ok y → (field : ℕ) (k : RowKind) → Finds checks field k → ⊥
all_hold n [] x y e field k found = found
all_hold n (c ∷ checks) x y e field k found = ⊎_elim
    (λ p. ⊎_elim (λ is. absurd (let f = ap (λ (d : Check). d.holds) is in cc)) (λ more. all_hold n checks x y (sym p.1 ∙ e) field k more) found)
    (λ p. absurd (let f = sym p.1 ∙ e in cc))
    (choice c.holds (passes n checks x) (Err record { row = n; field = c.field; kind = c.kind }))

pub passed : {A : Type 0} (n : ℕ) (checks : List Check) (x y : A) → passes n checks x ≡ Ok y → y ≡ x
passed n [] x y e = cc
passed n (c ∷ checks) x y e = ⊎_elim
    (λ p. passed n checks x y (sym p.1 ∙ e))
    (λ p. absurd (let f = sym p.1 ∙ e in cc))
    (choice c.holds (passes n checks x) (Err record { row = n; field = c.field; kind = c.kind }))

-- no check is before the place from which they ascend
pub later : (least : ℕ) (checks : List Check) → IsTrue (ascends_from least checks) → (field : ℕ) (k : RowKind) → Finds checks field k → least ≤ 12 * field + kind_number k
later least [] up field k found = absurd found
later least (c ∷ checks) up field k found =
    let le = leb-true least (rank c) (and_parts (nat_le least (rank c)) (ascends_from (rank c) checks) up).0 in
    ⊎_elim
    (λ is. let e : rank c ≡ 12 * field + kind_number k = ap rank is in omega (arith, le, e))
    (λ more. let l = later (rank c) checks (and_parts (nat_le least (rank c)) (ascends_from (rank c) checks) up).1 field k more in omega (arith, le, l))
    found

pub record IsLeast (checks : List Check) (e : RowFault) : Type 0 where
  pub found : Finds checks e.field e.kind
  pub least : (from : ℕ) → IsTrue (ascends_from from checks) → (field : ℕ) (k : RowKind) → Finds checks field k → 12 * e.field + kind_number e.kind ≤ 12 * field + kind_number k

fails_here : (c : Check) (checks : List Check) → c.holds ≡ false → Finds (c ∷ checks) c.field c.kind
fails_here c checks bad = inl (ap (λ (b : Bool). let d : Check = record { field = c.field; kind = c.kind; holds = b } in d) bad)

pub first_fails : {A : Type 0} (n : ℕ) (checks : List Check) (x : A) (e : RowFault) → passes n checks x ≡ Err e → (e.row ≡ n) × IsLeast checks e
first_fails n [] x e is = absurd cc
first_fails n (c ∷ checks) x e is = ⊎_elim
    (λ p.
    let rest = first_fails n checks x e (sym p.1 ∙ is) in (
      rest.0,
      record {
        found = inr rest.1.found;
        least = λ from up field k found. ⊎_elim
            (λ same. absurd (let f = ap (λ (d : Check). d.holds) same in cc))
            (λ more. rest.1.least (rank c) (and_parts (nat_le from (rank c)) (ascends_from (rank c) checks) up).1 field k more)
            found;
      },
    ))
    (λ p.
    let at : ◌≡◌ {A = RowFault} e record { row = n; field = c.field; kind = c.kind } = let f = sym p.1 ∙ is in cc in
    let here : 12 * e.field + kind_number e.kind ≡ rank c = ap (λ (g : RowFault). 12 * g.field + kind_number g.kind) at in (
      ap (λ (g : RowFault). g.row) at,
      record {
        found = subst (λ (g : RowFault). Finds (c ∷ checks) g.field g.kind) (sym at) (fails_here c checks p.0);
        least = λ from up field k found. ⊎_elim
            (λ same. let r : rank c ≡ 12 * field + kind_number k = ap rank same in omega (arith, here, r))
            (λ more. let l = later (rank c) checks (and_parts (nat_le from (rank c)) (ascends_from (rank c) checks) up).1 field k more in omega (arith, here, l))
            found;
      },
    ))
    (choice c.holds (passes n checks x) (Err record { row = n; field = c.field; kind = c.kind }))

-- that fault holds of the record
pub least_faulty : (checks : List Check) (e : RowFault) → IsTrue (ascends_from 13 checks) → IsLeast checks e → IsFaulty checks e.field e.kind
least_faulty checks e up l =
    let low = later 13 checks up e.field e.kind l.found in
    let range = kind_range e.kind in
    let before : (k : RowKind) → 2 ≤ e.field → kind_number k ≤ 2 → Finds checks 1 k
    → ⊥ = λ k ge small found. let le = l.least 13 up 1 k found in omega (arith, le, ge, small, range.0) in
    record {
      found = l.found;
      judged = ⊎_elim
          (λ lt. inl (let one : e.field ≡ 1 = omega (arith, low, range.1, lt) in one))
          (λ ge. inr (λ shapeless. ⊎_elim (λ word. before kinds.Kind ge (omega arith) word) (λ count. before kinds.Fields ge (omega arith) count) shapeless))
          (cases_lt e.field 2);
    }

abbrev made : ℕ → ℕ → RowKind → RowFault
made n field k = record { row = n; field = field; kind = k }

-- of two faults of one record, the one whose field and kind come first
pub in_order : (e o : RowFault) → e.row ≡ o.row → 12 * e.field + kind_number e.kind ≤ 12 * o.field + kind_number o.kind → (o ≡ e) ⊎ IsEarlierFault e o
in_order e o row le =
    let low = kind_range e.kind in
    let high = kind_range o.kind in
    ⊎_elim
    (λ lt. inr (inr (row, inl lt)))
    (λ ge.
    let field : e.field ≡ o.field = omega (arith, ge, le, low.0, high.1) in
    ⊎_elim
    (λ lt. inr (inr (row, inr (field, lt))))
    (λ more.
    let what : e.kind ≡ o.kind = kind_tells e.kind o.kind (let k : kind_number e.kind ≡ kind_number o.kind = omega (arith, field, le, more) in k) in
    inl (ap (λ n. made n o.field o.kind) (sym row) ∙ ap (λ x. made e.row x o.kind) (sym field) ∙ ap (λ k. made e.row e.field k) (sym what)))
    (cases_lt (kind_number e.kind) (kind_number o.kind)))
    (cases_lt e.field o.field)
