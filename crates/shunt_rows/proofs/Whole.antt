-- All the records of a text are those that `records` gives.
use Rattle.std.proofs.Common.{◌≡◌, ◌⊎◌, inl, inr, ⊎_elim, ℕ, zero, suc, ◌+◌, ◌<◌, Bool, true, false, cond, List, [], ◌∷◌, ◌++◌, length, refl, sym, ap, ◌∙◌, subst, arith, Option, Some, None}
use Rattle.std.proofs.lemmas.Bool.{cases_Bool}
use Rattle.csv.specs.Machine.{Read, next_record, step, is_end, fields_after, field_after, ends_at_end}
use Rattle.csv.specs.Reading.{AreRecords, Reached, records, records_from, records_next, default_config}
use Rattle.csv.specs.declared.parser.Config.{Config}
use Rattle.csv.specs.declared.parser.State.{State}
use Rattle.csv.specs.declared.parser.State.TheVariants as st

-- a record takes a byte, or it was the last of a text that had ended
record Goes (xs : List ℕ) (p : Read) : Type 0 where
  less : (length p.2 < length xs) ⊎ ((xs ≡ []) × (p.1 ≡ st.StartRecord) × (p.2 ≡ []))

pub some_is : (p q : Read) → Some p ≡ Some q → p ≡ q
some_is p q e = cc

pub ended : (b : Bool) (p q : Read) → cond b (Some p) None ≡ Some q → p ≡ q
ended true p q e = some_is p q e
ended false p q e = absurd (let f : ◌≡◌ {A = Option Read} None (Some q) = e in cc)

goes : (cfg : Config) (s : State) (fields : List (List ℕ)) (field xs : List ℕ) (p : Read) → next_record cfg s fields field xs ≡ Some p → Goes xs p
unfolding next_record
goes cfg s fields field [] p e =
    let is = ended (ends_at_end s) (fields ++ (field ∷ []), st.StartRecord, []) p e in
    record { less = inr (refl, ap (λ (r : Read). r.1) (sym is), ap (λ (r : Read). r.2) (sym is)) }
goes cfg s fields field (c ∷ rest) p e =
    ⊎_elim stop (λ t. later (goes cfg (step cfg s c).0 (fields_after (step cfg s c).1 fields field) (field_after (step cfg s c).1 c field) rest p (chosen t)))
    (cases_Bool (is_end (step cfg s c).1))
  where
    stop : is_end (step cfg s c).1 ≡ true → Goes (c ∷ rest) p
    stop t =
        let is = some_is (fields_after (step cfg s c).1 fields field, (step cfg s c).0, rest) p
        (sym (ap (λ b. cond b (Some (fields_after (step cfg s c).1 fields field, (step cfg s c).0, rest))
        (next_record cfg (step cfg s c).0 (fields_after (step cfg s c).1 fields field) (field_after (step cfg s c).1 c field) rest)) t) ∙ e) in
        record { less = inl (omega (arith, ap (λ (r : Read). length r.2) is)) }

    chosen : is_end (step cfg s c).1 ≡ false → next_record cfg (step cfg s c).0 (fields_after (step cfg s c).1 fields field) (field_after (step cfg s c).1 c field) rest ≡ Some p
    chosen t = sym (ap (λ b. cond b (Some (fields_after (step cfg s c).1 fields field, (step cfg s c).0, rest))
        (next_record cfg (step cfg s c).0 (fields_after (step cfg s c).1 fields field) (field_after (step cfg s c).1 c field) rest)) t) ∙ e

    later : Goes rest p → Goes (c ∷ rest) p
    later g = record { less = inl (⊎_elim (λ lt. omega arith) (λ k. omega (arith, ap length k.2)) g.less) }

none_from : (n : ℕ) → records_from default_config n st.StartRecord [] ≡ []
unfolding records_from next_record
none_from zero = refl
none_from (suc n) = refl

no_more : (rows : List (List (List ℕ))) (s2 : State) (ys : List ℕ) → Reached default_config st.StartRecord [] rows s2 ys → rows ≡ []
unfolding Reached next_record
no_more [] s2 ys r = refl
no_more (row ∷ rows) s2 ys r = absurd (let f : ◌≡◌ {A = Option Read} None (Some r.0) = r.1 in cc)

-- fuel for each byte and one more is enough
from_reached : (n : ℕ) (s s2 : State) (xs ys : List ℕ) (rows : List (List (List ℕ))) → Reached default_config s xs rows s2 ys → next_record default_config s2 [] [] ys ≡ None
    → length xs < n → records_from default_config n s xs ≡ rows
unfolding records_from Reached
from_reached zero s s2 xs ys rows r none lt = absurd (omega arith)
from_reached (suc n) s s2 xs ys [] r none lt =
    ap (records_next (records_from default_config n)) (ap (λ z. next_record default_config z [] [] xs) r.0 ∙ ap (λ z. next_record default_config s2 [] [] z) r.1 ∙ none)
from_reached (suc n) s s2 xs ys (row ∷ rows) r none lt =
    ap (records_next (records_from default_config n)) r.1
    ∙ ap (λ z. z ∷ records_from default_config n r.0.1 r.0.2) (sym r.2)
    ∙ ap (λ z. row ∷ z) (⊎_elim (λ less. from_reached n r.0.1 s2 r.0.2 ys rows r.3 none (omega arith)) last (goes default_config s [] [] xs r.0 r.1).less)
  where
    last : (xs ≡ []) × (r.0.1 ≡ st.StartRecord) × (r.0.2 ≡ []) → records_from default_config n r.0.1 r.0.2 ≡ rows
    last k =
        ap (λ z. records_from default_config n z r.0.2) k.1 ∙ ap (records_from default_config n st.StartRecord) k.2 ∙ none_from n
        ∙ sym (no_more rows s2 ys (subst (λ z. Reached default_config st.StartRecord z rows s2 ys) k.2 (subst (λ z. Reached default_config z r.0.2 rows s2 ys) k.1 r.3)))

pub whole : (xs : List ℕ) (rows : List (List (List ℕ))) → AreRecords default_config st.StartRecord xs rows → rows ≡ records default_config xs
whole xs rows all = sym (from_reached (length xs + 1) st.StartRecord all.0 xs all.1 rows all.2 all.3 (omega arith))
