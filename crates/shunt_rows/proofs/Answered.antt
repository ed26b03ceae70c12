-- What an answer says of the checks of a record and of its value.
use Rattle.std.proofs.Common.{◌≡◌, ℕ, Bool, true, false, List, [], ◌∷◌, ◌++◌, refl, ap, ◌∙◌, sym}
use Rattle.std.specs.Prelude.{Result, Ok, Err, if◌then◌else◌}
use Rattle.std.proofs.lemmas.Bool.{cond-true}
use Rattle.shunt_rows.specs.declared.fault.RowFault.{RowFault}
use Rattle.shunt_rows.specs.defs.Checks.{Check, Judged, passes, answer, AllHold, Says}
use Rattle.std.specs.Result.{IsErrAnd}

-- one check that holds, and what the rest says
pub passes_on : {A : Type 0} (b : Bool) (r q : Result A RowFault) (e : RowFault) → b ≡ true → r ≡ q → (if b then r else Err e) ≡ q
passes_on b r q e is same = cond-true b r (Err e) is ∙ same

-- where all checks hold, the record says its value
pub holding : {X : Type 0} (n : ℕ) (checks : List Check) (x : X) → AllHold checks → passes n checks x ≡ Ok x
holding n [] x all = refl
holding n (c ∷ checks) x all = cond-true c.holds (passes n checks x) (Err record { row = n; field = c.field; kind = c.kind }) all.0 ∙ holding n checks x all.1

pub answered : {A : Type 0} (n : ℕ) (m : Judged A) (x : A) → Says m x → answer n m ≡ Ok x
answered n m x says = holding n m.checks m.value says.0 ∙ ap Ok says.1

-- a check holds where the record says a value
pub next : {A : Type 0} (b : Bool) (r : Result A RowFault) (f : RowFault) (z : A) → (if b then r else Err f) ≡ Ok z → (b ≡ true) × (r ≡ Ok z)
next true r f z e = (refl, e)
next false r f z e = absurd cc

-- where a record says a value, all its checks hold, and the value is its own
pub held : {A : Type 0} (n : ℕ) (checks : List Check) (x y : A) → passes n checks x ≡ Ok y → AllHold checks × (x ≡ y)
held n [] x y e = (tt, cc)
held n (c ∷ checks) x y e =
    let here = next c.holds _ _ y e in
    let more = held n checks x y here.1 in
    ((here.0, more.0), more.1)

pub says : {A : Type 0} (n : ℕ) (m : Judged A) (x : A) → answer n m ≡ Ok x → Says m x
says n m x e = held n m.checks m.value x e

-- checks of two parts
pub hold_both : (checks more : List Check) → AllHold checks → AllHold more → AllHold (checks ++ more)
hold_both [] more p q = q
hold_both (c ∷ checks) more p q = (p.0, hold_both checks more p.1 q)

pub hold_first : (checks more : List Check) → AllHold (checks ++ more) → AllHold checks
hold_first [] more p = tt
hold_first (c ∷ checks) more p = (p.0, hold_first checks more p.1)

pub hold_rest : (checks more : List Check) → AllHold (checks ++ more) → AllHold more
hold_rest [] more p = p
hold_rest (c ∷ checks) more p = hold_rest checks more p.1

-- a choice of two records
pub in_either : {A : Type 0} (n : ℕ) (b : Bool) (m k : Judged A) (z : A) (P : Type 0) → (b ≡ true → answer n m ≡ Ok z → P) → (answer n k ≡ Ok z → P)
    → answer n (if b then m else k) ≡ Ok z → P
in_either n true m k z P f g e = f refl e
in_either n false m k z P f g e = g e

-- an error is handed on by `?`
pub err_is : {X : Type 0} (r : Result X RowFault) (e : RowFault) (stated : Result X RowFault) → IsErrAnd r (λ f. f ≡ e) → stated ≡ Err e → r ≡ stated
err_is (Ok x) e stated same is = absurd same
err_is {X = X} (Err f) e stated same is = ap (λ (g : RowFault). let s : Result X RowFault = Err g in s) same ∙ sym is
