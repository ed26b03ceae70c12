-- Each record that `csv` reads has a field.
use Rattle.std.proofs.Common.{◌≡◌, ⊎_elim, ℕ, ◌<◌, true, false, cond, List, [], ◌∷◌, ◌++◌, length, length-append, refl, sym, ap, ◌∙◌, subst, arith, Option, Some, None}
use Rattle.std.proofs.lemmas.Bool.{cases_Bool}
use Rattle.csv.specs.Machine.{Read, next_record, step, is_end, fields_after, field_after, ends_at_end}
use Rattle.csv.specs.Reading.{ReadsNext, NextIs}
use Rattle.csv.specs.declared.parser.Config.{Config}
use Rattle.csv.specs.declared.parser.State.{State}
use Rattle.csv.specs.declared.parser.State.TheVariants as st
use Rattle.csv.specs.declared.parser.Action.{Action}
use Rattle.csv.specs.declared.parser.Action.TheVariants as act
use Rattle.shunt_rows.proofs.Whole.{some_is, ended}

one_more : (fields : List (List ℕ)) (field : List ℕ) → 0 < length (fields ++ (field ∷ []))
one_more fields field = omega (arith, length-append fields (field ∷ []))

at_the_end : (a : Action) (fields : List (List ℕ)) (field : List ℕ) → is_end a ≡ true → 0 < length (fields_after a fields field)
at_the_end act.EndRecord fields field is = one_more fields field
at_the_end act.Skip fields field is = absurd cc
at_the_end act.Copy fields field is = absurd cc
at_the_end act.EndField fields field is = absurd cc

some_field : (cfg : Config) (s : State) (fields : List (List ℕ)) (field xs : List ℕ) (p : Read) → next_record cfg s fields field xs ≡ Some p → 0 < length p.0
unfolding next_record
some_field cfg s fields field [] p e =
    let is = ended (ends_at_end s) (fields ++ (field ∷ []), st.StartRecord, []) p e in
    subst (λ (l : List (List ℕ)). 0 < length l) (ap (λ (r : Read). r.0) is) (one_more fields field)
some_field cfg s fields field (c ∷ rest) p e = ⊎_elim
    (λ t.
    let is = some_is (fields_after (step cfg s c).1 fields field, (step cfg s c).0, rest) p
    (sym (ap (λ b. cond b (Some (fields_after (step cfg s c).1 fields field, (step cfg s c).0, rest))
    (next_record cfg (step cfg s c).0 (fields_after (step cfg s c).1 fields field) (field_after (step cfg s c).1 c field) rest)) t) ∙ e) in
    subst (λ (l : List (List ℕ)). 0 < length l) (ap (λ (r : Read). r.0) is) (at_the_end (step cfg s c).1 fields field t))
    (λ t. some_field cfg (step cfg s c).0 (fields_after (step cfg s c).1 fields field) (field_after (step cfg s c).1 c field) rest p
    (sym (ap (λ b. cond b (Some (fields_after (step cfg s c).1 fields field, (step cfg s c).0, rest))
    (next_record cfg (step cfg s c).0 (fields_after (step cfg s c).1 fields field) (field_after (step cfg s c).1 c field) rest)) t) ∙ e))
    (cases_Bool (is_end (step cfg s c).1))

next_has : (o : Option Read) (fields : List (List ℕ)) (s : State) (left : List ℕ) → ((p : Read) → o ≡ Some p → 0 < length p.0) → NextIs o true fields s left → 0 < length fields
next_has None fields s left each r = absurd (let e : true ≡ false = r in cc)
next_has (Some p) fields s left each r = subst (λ (l : List (List ℕ)). 0 < length l) (sym r.1) (each p refl)

pub nonempty : (cfg : Config) (s s2 : State) (y : List ℕ) (after : Option (List ℕ)) (fields : List (List ℕ)) → ReadsNext cfg s (Some y) after true fields s2 → 0 < length fields
nonempty cfg s s2 y None fields r = absurd r
nonempty cfg s s2 y (Some left) fields r = next_has (next_record cfg s [] [] y) fields s2 left (some_field cfg s [] [] y) r
