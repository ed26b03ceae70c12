-- The test of a name.
use Rattle.std.proofs.Common.{◌≡◌, ℕ, true, List, length}
use Rattle.std.proofs.lemmas.Bool.{ltb-true, leb-true, lt-ltb, le-leb, and_parts, and_from}
use Rattle.std.proofs.lemmas.List.Sums.{AllPass-from_list_all, list_all-from_AllPass}
use Rattle.shunt_base.specs.defs.Spelling.{IsName, is_name_byte, is_name_text}

pub name_from : (text : List ℕ) → is_name_text text ≡ true → IsName text
name_from text t =
    let parts = and_parts _ _ t in
    let first = and_parts _ _ parts.0 in
    (ltb-true _ _ first.0, leb-true _ _ first.1, AllPass-from_list_all is_name_byte text parts.1)

pub name_read : (name : List ℕ) → IsName name → is_name_text name ≡ true
name_read name is = and_from _ _ (and_from _ _ (lt-ltb 0 (length name) is.0) (le-leb (length name) 16 is.1)) (list_all-from_AllPass is_name_byte name is.2)
