-- Records of a certificate, by what their parts say.
use Rattle.std.proofs.Common.{◌≡◌, ℕ, suc, ◌+◌, ◌-◌, ◌<◌, ◌≤◌, ℤ, List, [], ◌∷◌, ◌++◌, refl, sym, ap, ◌∙◌, arith, subst}
use Rattle.std.specs.Prelude.{Result, Ok, Err, Option}
use Rattle.std.proofs.lemmas.List.{append_assoc, append-nil}
use Rattle.shunt_rows.specs.declared.fault.ReadError.{ReadError}
use Rattle.shunt_rows.specs.declared.fault.RowFault.{RowFault}
use Rattle.shunt_rows.specs.defs.Checks.{Judged, answer, says, ◌>>=◌}
use Rattle.shunt_rows.specs.defs.Given.{Fails}
use Rattle.shunt_rows.proofs.Joins.{part_ok, part_err, part_fails}
use Rattle.shunt_instance.specs.defs.Instance.{Night}
use Rattle.shunt_blocks.specs.declared.records.Park.{Park}
use Rattle.shunt_plan.specs.defs.BlockRecords.{option_in}
use Rattle.shunt_proof.specs.declared.records.Choice.{Choice}
use Rattle.shunt_proof.specs.declared.heads.Head.{Head}
use Rattle.shunt_proof.specs.defs.CertificateFormat.{with_choice, later_in, child_in, value_in, values_in}
use Rattle.shunt_lists.proofs.Tests.{one_left as one_less}

-- what follows from a part that says a value
pub then_ok : {A B : Type 0} (n : ℕ) (m : Judged A) (f : A → B) (x : A) (e : B) → answer n m ≡ Ok x → e ≡ f x → answer n (m >>= (λ y. says (f y))) ≡ Ok e
then_ok n m f x e is same = part_ok n m (λ y. says (f y)) x is ∙ ap (λ v. Ok v) (sym same)

-- and from one that has a fault
pub then_err : {A B : Type 0} (n : ℕ) (m : Judged A) (f : A → B) (e : RowFault) → answer n m ≡ Err e → answer n (m >>= (λ y. says (f y))) ≡ Err e
then_err n m f e is = part_err n m (λ y. says (f y)) e is

pub then_fails : {A B : Type 0} (n : ℕ) (m : Judged A) (f : A → B) (e : ReadError) → Fails e (answer n m) → Fails e (answer n (m >>= (λ y. says (f y))))
then_fails n m f e is = part_fails n m (λ y. says (f y)) e is

-- the same of what a part says in one state, seen as another
pub seen_ok : {K A B : Type 0} (n : ℕ) (k j : K) (m : K → Judged A) (f : A → B) (x : A) (e : B) → k ≡ j → Ok x ≡ answer n (m k) → e ≡ f x
    → answer n (m j >>= (λ y. says (f y))) ≡ Ok e
seen_ok n k j m f x e seen is same = then_ok n (m j) f x e (ap (λ l. answer n (m l)) (sym seen) ∙ sym is) same

pub seen_err : {K A B : Type 0} (n : ℕ) (k j : K) (m : K → Judged A) (f : A → B) (e : RowFault) → k ≡ j → Err e ≡ answer n (m k) → answer n (m j >>= (λ y. says (f y))) ≡ Err e
seen_err n k j m f e seen is = then_err n (m j) f e (ap (λ l. answer n (m l)) (sym seen) ∙ sym is)

pub seen_fails : {K A B : Type 0} (n : ℕ) (k j : K) (m : K → Judged A) (f : A → B) (e : ReadError) → k ≡ j → Fails e (answer n (m k))
    → Fails e (answer n (m j >>= (λ y. says (f y))))
seen_fails n k j m f e seen is = then_fails n (m j) f e (subst (λ l. Fails e (answer n (m l))) seen is)

-- ---- the record of a node

abbrev with_option : Night → List (List ℕ) → Head × Choice → Judged Head
with_option night row node = option_in night.station row 8 >>= (λ park. says (with_choice node park))

pub head_fails : (n : ℕ) (night : Night) (begun : ℕ) (last : Head) (row : List (List ℕ)) (e : RowFault) → Err e ≡ answer n (later_in night begun last row)
    → Err e ≡ answer n (child_in night begun last row)
unfolding child_in
head_fails n night begun last row e is = sym (part_err n (later_in night begun last row) (with_option night row) e (sym is))

pub option_fails : (n : ℕ) (night : Night) (begun : ℕ) (last : Head) (row : List (List ℕ)) (node : Head × Choice) (e : RowFault)
    → Ok node ≡ answer n (later_in night begun last row) → Err e ≡ answer n (option_in night.station row 8) → Err e ≡ answer n (child_in night begun last row)
unfolding child_in
option_fails n night begun last row node e is fails = sym (part_ok n (later_in night begun last row) (with_option night row) node (sym is)
    ∙ part_err n (option_in night.station row 8) (λ park. says (with_choice node park)) e (sym fails))

pub child_is : (n : ℕ) (night : Night) (begun : ℕ) (last : Head) (row : List (List ℕ)) (node : Head × Choice) (park : Option Park)
    → Ok node ≡ answer n (later_in night begun last row) → Ok park ≡ answer n (option_in night.station row 8)
    → Ok (with_choice node park) ≡ answer n (child_in night begun last row)
unfolding child_in
child_is n night begun last row node park is option = sym (part_ok n (later_in night begun last row) (with_option night row) node (sym is)
    ∙ part_ok n (option_in night.station row 8) (λ park. says (with_choice node park)) park (sym option))

-- ---- values

-- the same of what is read
abbrev pub each_ok : {A B : Type 0} → (A → B) → Result A RowFault → Result B RowFault
each_ok f (Ok x) = Ok (f x)
each_ok f (Err e) = Err e

then_each : {A B : Type 0} (n : ℕ) (m : Judged A) (f : A → B) → answer n (m >>= (λ y. says (f y))) ≡ each_ok f (answer n m)
then_each {A = A} n m f = by (answer n m) refl
  where
    by : (r : Result A RowFault) → answer n m ≡ r → answer n (m >>= (λ y. says (f y))) ≡ each_ok f r
    by (Ok x) is = then_ok n m f x (f x) is refl
    by (Err e) is = then_err n m f e is

-- these values before those that are read of the fields that are left
abbrev pub behind : List ℤ → Result (List ℤ) RowFault → Result (List ℤ) RowFault
behind front r = each_ok (λ zs. front ++ zs) r

pub none_before : (r : Result (List ℤ) RowFault) → r ≡ behind [] r
none_before (Ok zs) = refl
none_before (Err e) = refl

regroup : (front : List ℤ) (z : ℤ) (r : Result (List ℤ) RowFault) → behind front (each_ok (λ zs. z ∷ zs) r) ≡ behind (front ++ z ∷ []) r
regroup front z (Ok zs) = ap (λ l. Ok l) (sym (append_assoc front (z ∷ []) zs))
regroup front z (Err e) = refl

pub read_one : (n : ℕ) (row : List (List ℕ)) (k more : ℕ) (z : ℤ) → answer n (value_in row k) ≡ Ok z
    → answer n (values_in row k (suc more)) ≡ each_ok (λ zs. z ∷ zs) (answer n (values_in row (k + 1) more))
unfolding values_in
read_one n row k more z is = part_ok n (value_in row k) (λ z. values_in row (k + 1) more >>= (λ zs. says (z ∷ zs))) z is ∙ then_each n (values_in row (k + 1) more) (λ zs. z ∷ zs)

read_none : (n : ℕ) (row : List (List ℕ)) (k more : ℕ) (e : RowFault) → answer n (value_in row k) ≡ Err e → answer n (values_in row k (suc more)) ≡ Err e
unfolding values_in
read_none n row k more e is = part_err n (value_in row k) (λ z. values_in row (k + 1) more >>= (λ zs. says (z ∷ zs))) e is

-- one more value was read
pub one_value : (n : ℕ) (row : List (List ℕ)) (k count : ℕ) (front more : List ℤ) (z : ℤ) (all : Result (List ℤ) RowFault) → k < count
    → all ≡ behind front (answer n (values_in row (k + 2) (count - k))) → answer n (value_in row (k + 2)) ≡ Ok z → more ≡ front ++ z ∷ []
    → all ≡ behind more (answer n (values_in row (k + 1 + 2) (count - (k + 1))))
one_value n row k count front more z all lt is one push =
    is
    ∙ ap (λ left. behind front (answer n (values_in row (k + 2) left))) (one_less k count lt)
    ∙ ap (λ r. behind front r) (read_one n row (k + 2) (count - (k + 1)) z one)
    ∙ regroup front z (answer n (values_in row (k + 2 + 1) (count - (k + 1))))
    ∙ ap (λ l. behind l (answer n (values_in row (k + 2 + 1) (count - (k + 1))))) (sym push)
    ∙ ap (λ j. behind more (answer n (values_in row j (count - (k + 1))))) (let e : k + 2 + 1 ≡ k + 1 + 2 = omega arith in e)

-- a value had a fault
pub no_value : (n : ℕ) (row : List (List ℕ)) (k count : ℕ) (front : List ℤ) (e : RowFault) (all : Result (List ℤ) RowFault) → k < count
    → all ≡ behind front (answer n (values_in row (k + 2) (count - k))) → answer n (value_in row (k + 2)) ≡ Err e → all ≡ Err e
no_value n row k count front e all lt is one =
    is
    ∙ ap (λ left. behind front (answer n (values_in row (k + 2) left))) (one_less k count lt)
    ∙ ap (λ r. behind front r) (read_none n row (k + 2) (count - (k + 1)) e one)

-- none is left
pub all_values : (n : ℕ) (row : List (List ℕ)) (k count : ℕ) (front : List ℤ) (all : Result (List ℤ) RowFault) → count ≤ k
    → all ≡ behind front (answer n (values_in row (k + 2) (count - k))) → all ≡ Ok front
unfolding values_in
all_values n row k count front all le is =
    is
    ∙ ap (λ left. behind front (answer n (values_in row (k + 2) left))) (let e : count - k ≡ 0 = omega (arith, le) in e)
    ∙ ap (λ l. Ok l) (append-nil front)
