-- What was written of a node's cases.
use Rattle.std.proofs.Common.{◌≡◌, ℕ, ◌≤◌, List, [], ◌∷◌, ◌++◌, length, sym, ap, ◌∙◌, arith}
use Rattle.std.specs.Prelude.{Some, slice_get}
use Rattle.std.proofs.lemmas.List.{append_assoc, append-nil}
use Rattle.shunt_base.specs.declared.duals.Case.{Case}
use Rattle.shunt_rows.specs.defs.Records.{text_of_rows}
use Rattle.shunt_rows.specs.defs.Written.{Written}
use Rattle.shunt_rows.proofs.Texts.{texts_join}
use Rattle.shunt_instance.specs.defs.Instance.{Night}
use Rattle.shunt_proof.specs.defs.CertificateRows.{case_rows, cases_rows}

two_of : (cases : List Case) (b c : Case) → length cases ≤ 2 → slice_get cases 0 ≡ Some b → slice_get cases 1 ≡ Some c → cases ≡ b ∷ c ∷ []
two_of [] b c few first second = absurd cc
two_of (x ∷ []) b c few first second = absurd cc
two_of (x ∷ y ∷ []) b c few first second = cc
two_of (x ∷ y ∷ z ∷ cases) b c few first second = absurd (omega (arith, few))

abbrev closed : List ℕ → Written
closed text = record { text = text; row = [] }

-- two cases, one after the other
pub cases_written : (night : Night) (cases : List Case) (b c : Case) (w v u : Written) → length cases ≤ 2 → slice_get cases 0 ≡ Some b → slice_get cases 1 ≡ Some c
    → v ≡ record { text = w.text ++ text_of_rows (case_rows night b); row = [] } → u ≡ record { text = v.text ++ text_of_rows (case_rows night c); row = [] }
    → u ≡ record { text = w.text ++ text_of_rows (cases_rows night cases); row = [] }
cases_written night cases b c w v u few first second one two =
    let rows = case_rows night b ++ (case_rows night c ++ []) in
    let more : text_of_rows (case_rows night c) ≡ text_of_rows (case_rows night c ++ []) = ap text_of_rows (sym (append-nil (case_rows night c))) in
    let whole : (w.text ++ text_of_rows (case_rows night b)) ++ text_of_rows (case_rows night c) ≡ w.text ++ text_of_rows rows =
    append_assoc w.text (text_of_rows (case_rows night b)) (text_of_rows (case_rows night c))
    ∙ ap (λ t. w.text ++ (text_of_rows (case_rows night b) ++ t)) more
    ∙ ap (λ t. w.text ++ t) (sym (texts_join (case_rows night b) (case_rows night c ++ [])))
    in
    two
    ∙ ap (λ (x : Written). closed (x.text ++ text_of_rows (case_rows night c))) one
    ∙ ap closed whole
    ∙ ap (λ l. closed (w.text ++ text_of_rows (cases_rows night l))) (sym (two_of cases b c few first second))
