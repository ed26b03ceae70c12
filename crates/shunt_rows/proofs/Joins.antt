-- Records that are judged part by part, and lists of records that are read part by part.
use Rattle.std.proofs.Common.{◌≡◌, ℕ, ◌+◌, List, [], ◌∷◌, ◌++◌, length, refl, sym, ap, ◌∙◌, arith, ⊎_elim, subst}
use Rattle.std.specs.Prelude.{Result, Ok, Err}
use Rattle.shunt_rows.specs.declared.fault.RowFault.{RowFault}
use Rattle.shunt_rows.specs.defs.Checks.{Check, Judged, passes, answer}
use Rattle.shunt_rows.specs.defs.Checks as judging
use Rattle.shunt_rows.specs.defs.Formats.{Format, in_state, ◌>>=◌, reads, reading_from, reading, ends, GoesOn}
use Rattle.std.proofs.lemmas.List.{append-nil}
use Rattle.shunt_rows.specs.declared.fault.ReadError.{ReadError}
use Rattle.shunt_rows.specs.declared.fault.ReadError.TheVariants as errors
use Rattle.shunt_rows.specs.defs.Given.{Fails, Gives}
use Rattle.std.specs.Result.{IsErrAnd}
use Rattle.std.proofs.lemmas.Bool.{cond-true, cond-false}
use Rattle.shunt_rows.proofs.Least.{choice}

append_ok : {A B : Type 0} (n : ℕ) (checks more : List Check) (x : A) (y : B) (z : A) → passes n checks x ≡ Ok z → passes n (checks ++ more) y ≡ passes n more y
append_ok n [] more x y z is = refl
append_ok n (c ∷ checks) more x y z is = ⊎_elim
    (λ p. cond-true c.holds (passes n (checks ++ more) y) (Err record { row = n; field = c.field; kind = c.kind }) p.0 ∙ append_ok n checks more x y z (sym p.1 ∙ is))
    (λ p. absurd (let e = sym p.1 ∙ is in cc))
    (choice c.holds (passes n checks x) (Err record { row = n; field = c.field; kind = c.kind }))

append_err : {A B : Type 0} (n : ℕ) (checks more : List Check) (x : A) (y : B) (e : RowFault) → passes n checks x ≡ Err e → passes n (checks ++ more) y ≡ Err e
append_err n [] more x y e is = absurd cc
append_err {B = B} n (c ∷ checks) more x y e is = ⊎_elim
    (λ p. cond-true c.holds (passes n (checks ++ more) y) (Err record { row = n; field = c.field; kind = c.kind }) p.0 ∙ append_err n checks more x y e (sym p.1 ∙ is))
    (λ p. cond-false c.holds (passes n (checks ++ more) y) (Err record { row = n; field = c.field; kind = c.kind }) p.0
    ∙ ap (λ (f : RowFault). let r : Result B RowFault = Err f in r) (let same = sym p.1 ∙ is in cc))
    (choice c.holds (passes n checks x) (Err record { row = n; field = c.field; kind = c.kind }))

value_is : {A : Type 0} (n : ℕ) (checks : List Check) (x y : A) → passes n checks x ≡ Ok y → x ≡ y
value_is n [] x y e = cc
value_is n (c ∷ checks) x y e = ⊎_elim
    (λ p. value_is n checks x y (sym p.1 ∙ e))
    (λ p. absurd (let f = sym p.1 ∙ e in cc))
    (choice c.holds (passes n checks x) (Err record { row = n; field = c.field; kind = c.kind }))

-- where the first part says a value, the record says what follows from it
pub part_ok : {A B : Type 0} (n : ℕ) (m : Judged A) (g : A → Judged B) (x : A) → answer n m ≡ Ok x → answer n (judging.◌>>=◌ m g) ≡ answer n (g x)
part_ok n m g x is = append_ok n m.checks (g m.value).checks m.value (g m.value).value x is ∙ ap (λ v. answer n (g v)) (value_is n m.checks m.value x is)

-- where the first part has a fault, it is the record's
pub part_err : {A B : Type 0} (n : ℕ) (m : Judged A) (g : A → Judged B) (e : RowFault) → answer n m ≡ Err e → answer n (judging.◌>>=◌ m g) ≡ Err e
part_err n m g e is = append_err n m.checks (g m.value).checks m.value (g m.value).value e is

-- the same of what a reader returned
pub part_fails : {A B : Type 0} (n : ℕ) (m : Judged A) (g : A → Judged B) (e : ReadError) → Fails e (answer n m) → Fails e (answer n (judging.◌>>=◌ m g))
part_fails n m g errors.Memory is = is
part_fails n m g (errors.Fault f) is = part_err n m g f is

-- an error is handed on by `?`
pub gives_err : {X Y : Type 0} (view : X → Y) (r : Result X ReadError) (e : ReadError) (stated : Result Y RowFault) → IsErrAnd r (λ f. f ≡ e) → Fails e stated → Gives view r stated
gives_err view (Ok x) e stated same fails = absurd same
gives_err view (Err f) e stated same fails = subst (λ g. Fails g stated) (sym same) fails

regroup : {A B C : Type 0} (r : Result A RowFault) (g : A → Result B RowFault) (h : B → Result C RowFault) → ((r >>= g) >>= h) ≡ (r >>= (λ x. g x >>= h))
regroup (Ok x) g h = refl
regroup (Err e) g h = refl

goes_alike : {A B : Type 0} (r : Result A RowFault) (g h : A → Result B RowFault) → ((x : A) → g x ≡ h x) → (r >>= g) ≡ (r >>= h)
goes_alike (Ok x) g h same = same x
goes_alike (Err e) g h same = refl

-- reading goes on from the state that the records before leave
pub reads_on : {S V : Type 0} (f : Format S V) (s : S) (n : ℕ) (rows more : List (List (List ℕ))) → GoesOn f s n rows more
reads_on f s n [] more = ap (λ k. reading_from f s k more) (let e : n ≡ n + 0 = omega arith in e)
reads_on f s n (row ∷ rows) more =
    goes_alike (answer n (in_state f s row)) (λ t. reading_from f t (n + 1) (rows ++ more)) (λ t. reads f t (n + 1) rows >>= (λ u. reading_from f u (n + length (row ∷ rows)) more))
    (λ t. reads_on f t (n + 1) rows more ∙ ap (λ k. reads f t (n + 1) rows >>= (λ u. reading_from f u k more))
    (let e : n + 1 + length rows ≡ n + length (row ∷ rows) = omega arith in e))
    ∙ sym (regroup (answer n (in_state f s row)) (λ t. reads f t (n + 1) rows) (λ u. reading_from f u (n + length (row ∷ rows)) more))

-- the state that two lists leave, one after the other
pub reads_more : {S V : Type 0} (f : Format S V) (s : S) (n : ℕ) (rows more : List (List (List ℕ)))
    → reads f s n (rows ++ more) ≡ (reads f s n rows >>= (λ t. reads f t (n + length rows) more))
reads_more f s n [] more = ap (λ k. reads f s k more) (let e : n ≡ n + 0 = omega arith in e)
reads_more f s n (row ∷ rows) more =
    goes_alike (answer n (in_state f s row)) (λ t. reads f t (n + 1) (rows ++ more)) (λ t. reads f t (n + 1) rows >>= (λ u. reads f u (n + length (row ∷ rows)) more))
    (λ t. reads_more f t (n + 1) rows more ∙ ap (λ k. reads f t (n + 1) rows >>= (λ u. reads f u k more))
    (let e : n + 1 + length rows ≡ n + length (row ∷ rows) = omega arith in e))
    ∙ sym (regroup (answer n (in_state f s row)) (λ t. reads f t (n + 1) rows) (λ u. reads f u (n + length (row ∷ rows)) more))

-- reading is to read the records, and then to look whether they are enough
pub reading_is : {S V : Type 0} (f : Format S V) (head : List (List ℕ)) (rows : List (List (List ℕ)))
    → reading f (head ∷ rows) ≡ (answer 1 (f.first head) >>= (λ s. reads f s 2 rows >>= (λ t. ends f t (length rows + 2))))
reading_is f head rows = goes_alike (answer 1 (f.first head)) (λ s. reading_from f s 2 rows) (λ s. reads f s 2 rows >>= (λ t. ends f t (length rows + 2)))
    (λ s. ap (reading_from f s 2) (sym (append-nil rows)) ∙ reads_on f s 2 rows []
    ∙ ap (λ k. reads f s 2 rows >>= (λ t. ends f t k)) (let e : 2 + length rows ≡ length rows + 2 = omega arith in e))
