-- The nodes that a recorder's file tells.
use Rattle.std.proofs.Common.{◌≡◌, ℕ, zero, suc, ◌+◌, ◌<◌, ◌≤◌, Bool, true, false, List, [], ◌∷◌, ◌++◌, length, refl, ap, sym, subst, ◌∙◌, arith, length-append}
use Rattle.std.specs.Prelude.{◌==◌, nat_le, ◌&&◌, Option, Some, None, Result, Ok, Err}
use Rattle.std.specs.List.{flat_map}
use Rattle.std.specs.Str.{bytes_eq}
use Rattle.std.proofs.lemmas.Bool.{eqb-true, eq-eqb, leb-true, le-leb, and_parts, and_from}
use Rattle.std.proofs.lemmas.Slice.Eq.{bytes_eq-Decides}
use Rattle.std.proofs.lemmas.List.{append-nil}
use Rattle.std.proofs.lemmas.List.Concat.{flat_map-cons, flat_map-append}
use Rattle.std.proofs.lemmas.List.Sums.{sum_by_push}
use Rattle.shunt_rows.specs.declared.fault.RowFault.{RowFault}
use Rattle.shunt_rows.specs.defs.Records.{text_of_row, text_of_rows, records_of}
use Rattle.shunt_rows.specs.defs.Formats.{reading}
use Rattle.shunt_rows.proofs.Texts.{texts_join}
use Rattle.shunt_instance.specs.defs.Instance.{Night, IsInstance}
use Rattle.shunt_proof.specs.declared.records.Node.{Node}
use Rattle.shunt_proof.specs.declared.records.Version.{Version}
use Rattle.shunt_proof.specs.declared.records.Certificate.{Certificate}
use Rattle.shunt_proof.specs.defs.Nodes.{FitsNode, AreNodes, CanFollow}
use Rattle.shunt_proof.specs.defs.Certificates.{own_cases, case_total, IsCertificate}
use Rattle.shunt_proof.specs.defs.CertificateFormat.{certificate_format}
use Rattle.shunt_proof.specs.defs.CertificateRows.{node_rows, head_row, end_row, rows_of}
use Rattle.shunt_proof.specs.defs.Numbers.{number_of, newest, CanBeRead}
use Rattle.shunt_proof.specs.defs.TextRecorders.{front_text, end_text, file_text, rest_text, nodes_of, nodes_read, is_text, told_where, nodes_told, IsTextOf, EndFits}
use Rattle.shunt_proof.proofs.Formed.{certificate_formed}
use Rattle.shunt_proof.proofs.LongerLists.{one_more}
use Rattle.shunt_proof.proofs.RoundTrip.{text_back}
use Rattle.shunt_rows.proofs.Widths.{one_text as one_row}

-- ---- what is told is so

pub no_nodes : (night : Night) → AreNodes night []
no_nodes night = record { each = λ k d lt. absurd (omega (arith, lt)); root = λ lt. absurd (omega (arith, lt)); follow = λ k lt. absurd (omega (arith, lt)) }

record IsRead (night : Night) (nodes : List Node) : Type 0 where
  are : AreNodes night nodes
  few : length nodes ≤ 5000
  less : case_total nodes ≤ 8000

reads_none : (night : Night) → IsRead night []
reads_none night = record { are = no_nodes night; few = omega arith; less = omega arith }

result_nodes : (night : Night) (rows : List (List (List ℕ))) (r : Result Certificate RowFault) → reading (certificate_format night) rows ≡ r → IsRead night (nodes_of r)
result_nodes night rows (Ok c) e = let is = certificate_formed night rows c e in record { are = is.nodes; few = is.few; less = is.cases }
result_nodes night rows (Err x) e = reads_none night

read_nodes : (night : Night) (end : Option (ℕ × ℕ)) (count : ℕ) (bytes : List ℕ) → IsRead night (nodes_read night end count bytes)
read_nodes night end zero bytes = reads_none night
read_nodes night end (suc n) bytes = result_nodes night (records_of (bytes ++ rest_text (suc n) end))
    (reading (certificate_format night) (records_of (bytes ++ rest_text (suc n) end))) refl

where_true : (b : Bool) (nodes ns : List Node) → told_where b nodes ≡ Some ns → (b ≡ true) × (nodes ≡ ns)
where_true true nodes ns e = (refl, cc)
where_true false nodes ns e = absurd cc

module _ (version : Version) (night : Night) (end : Option (ℕ × ℕ)) (count cases : ℕ) (bytes : List ℕ) where
  is_so : (nodes : List Node) → IsRead night nodes → is_text version night end count cases bytes nodes ≡ true → IsTextOf version night end count cases bytes nodes
  is_so nodes read e =
      let v = and_parts (nat_le (number_of version) newest) (length nodes == count && (case_total nodes == cases && bytes_eq bytes (file_text version night end nodes))) e in
      let a = and_parts (length nodes == count) (case_total nodes == cases && bytes_eq bytes (file_text version night end nodes)) v.1 in
      let b = and_parts (case_total nodes == cases) (bytes_eq bytes (file_text version night end nodes)) a.1 in
      let many = eqb-true (length nodes) count a.0 in
      let total = eqb-true (case_total nodes) cases b.0 in
      let few = read.few in
      let less = read.less in
      record {
        are = read.are;
        many = many;
        total = total;
        few = omega (arith, few, many);
        less = omega (arith, less, total);
        can = leb-true
            (number_of version) newest v.0;
        text = (bytes_eq-Decides bytes (file_text version night end nodes)).0 b.1;
      }

  pub told_so : (ns : List Node) → nodes_told version night end count cases bytes ≡ Some ns → IsTextOf version night end count cases bytes ns
  unfolding nodes_told
  told_so ns e =
      let read = nodes_read night end count bytes in
      let t = where_true (is_text version night end count cases bytes read) read ns e in
      subst (IsTextOf version night end count cases bytes) t.1 (is_so read (read_nodes night end count bytes) t.0)

-- ---- what is so is told

abbrev pub stated : Option (ℕ × ℕ) → ℕ × ℕ
stated None = (0, 0)
stated (Some e) = e

abbrev pub certificate_with : Version → List Node → ℕ × ℕ → Certificate
certificate_with version nodes e = record { version = version; nodes = nodes; cost = e.0; bound = e.1 }

pub first_text : (version : Version) (night : Night) → front_text version night [] ≡ text_of_row (head_row version)
first_text version night = one_row (head_row version)

pub ended : (version : Version) (night : Night) (nodes : List Node) (e : ℕ × ℕ) → text_of_rows (rows_of night (certificate_with version nodes e)) ≡ front_text version night nodes
    ++ end_text (length nodes) (Some e)
ended version night nodes e =
    let front = head_row version ∷ flat_map (node_rows night) nodes in
    texts_join front (end_row e.0 e.1 (length nodes) ∷ []) ∙ ap (λ t. text_of_rows front ++ t) (one_row (end_row e.0 e.1 (length nodes)))

pub whole : (version : Version) (night : Night) (end : Option (ℕ × ℕ)) (count : ℕ) (nodes : List Node) (bytes : List ℕ) → length nodes ≡ count
    → bytes ≡ file_text version night end nodes → bytes ++ rest_text count end ≡ text_of_rows (rows_of night (certificate_with version nodes (stated end)))
whole version night None count nodes bytes same e =
    ap (λ t. t ++ rest_text count None) (e ∙ append-nil (front_text version night nodes))
    ∙ ap (λ k. front_text version night nodes ++ end_text k (Some (0, 0))) (sym same)
    ∙ sym (ended version night nodes (0, 0))
whole version night (Some x) count nodes bytes same e = append-nil bytes ∙ e ∙ sym (ended version night nodes x)

pub is_certificate : (version : Version) (night : Night) (end : Option (ℕ × ℕ)) (nodes : List Node) → CanBeRead version → 1 ≤ length nodes → length nodes ≤ 5000
    → case_total nodes ≤ 8000 → AreNodes night nodes → EndFits end (length nodes) → IsCertificate night (certificate_with version nodes (stated end))
is_certificate version night None nodes can some few less are fits = record {
  some = some;
  few = few;
  cases = less;
  nodes = are;
  cost = omega arith;
  bound = omega arith;
  version = can;
}
is_certificate version night (Some e) nodes can some few less are fits = record {
  some = some;
  few = few;
  cases = less;
  nodes = are;
  cost = fits.1.0;
  bound = fits.1.1;
  version = can;
}

none_of : (nodes : List Node) → length nodes ≡ 0 → [] ≡ nodes
none_of [] e = refl
none_of (x ∷ xs) e = absurd (omega (arith, e))

read_again : (version : Version) (night : Night) (end : Option (ℕ × ℕ)) (count cases : ℕ) (bytes : List ℕ) (nodes : List Node) → IsInstance night → EndFits end count
    → IsTextOf version night end count cases bytes nodes → nodes_read night end count bytes ≡ nodes
read_again version night end zero cases bytes nodes h fits is = none_of nodes is.many
read_again version night end (suc n) cases bytes nodes h fits is =
    let c = certificate_with version nodes (stated end) in
    let size = is.many in
    let total = is.total in
    let few = is.few in
    let less = is.less in
    let can = is_certificate version night end nodes is.can (omega (arith, size)) (omega (arith, size, few)) (omega (arith, total, less)) is.are
    (subst (EndFits end) (sym size) fits) in
    ap (λ t. nodes_of (reading (certificate_format night) (records_of t))) (whole version night end (suc n) nodes bytes size is.text)
    ∙ ap nodes_of (text_back night c h can).value

pub so_told : (version : Version) (night : Night) (end : Option (ℕ × ℕ)) (count cases : ℕ) (bytes : List ℕ) (nodes : List Node) → IsInstance night → EndFits end count
    → IsTextOf version night end count cases bytes nodes → nodes_told version night end count cases bytes ≡ Some nodes
unfolding nodes_told
so_told version night end count cases bytes nodes h fits is =
    let yes : is_text version night end count cases bytes nodes ≡ true =
    and_from (nat_le (number_of version) newest) _ (le-leb (number_of version) newest is.can)
    (and_from (length nodes == count) _ (eq-eqb (length nodes) count is.many)
    (and_from (case_total nodes == cases) _ (eq-eqb (case_total nodes) cases is.total) ((bytes_eq-Decides bytes (file_text version night end nodes)).1 is.text)))
    in
    ap (λ xs. told_where (is_text version night end count cases bytes xs) xs) (read_again version night end count cases bytes nodes h fits is) ∙ ap (λ b. told_where b nodes) yes

-- ---- one more node, and the end

pub more_text : (version : Version) (night : Night) (nodes : List Node) (node : Node)
    → front_text version night (nodes ++ node ∷ []) ≡ front_text version night nodes ++ text_of_rows (node_rows night node)
more_text version night nodes node =
    let f = node_rows night in
    ap (λ rows. text_of_rows (head_row version ∷ rows)) (flat_map-append f nodes (node ∷ [])
    ∙ ap (λ rows. flat_map f nodes ++ rows) (flat_map-cons f node [] ∙ append-nil (f node)))
    ∙ texts_join (head_row version ∷ flat_map f nodes) (f node)

pub told_more : (version : Version) (night : Night) (count cases : ℕ) (bytes newer : List ℕ) (nodes : List Node) (node : Node) → count < 5000 → cases + own_cases node.duals ≤ 8000
    → FitsNode night node → CanFollow nodes node → IsTextOf version night None count cases bytes nodes → newer ≡ bytes ++ text_of_rows (node_rows night node)
    → IsTextOf version night None (count + 1) (cases + own_cases node.duals) newer (nodes ++ node ∷ [])
told_more version night count cases bytes newer nodes node few less fits can is e = record {
  are = one_more night nodes node is.are fits can;
  many = (let n = is.many in omega (arith, n, length-append nodes (node ∷ [])));
  total = sum_by_push (λ (x : Node). own_cases x.duals) nodes node ∙ ap (λ k. k + own_cases node.duals) is.total;
  few = omega (arith, few);
  less = less;
  can = is.can;
  text = e ∙ ap (λ t. t ++ text_of_rows (node_rows night node)) (is.text ∙ append-nil (front_text version night nodes)) ∙ sym (more_text version night nodes node)
      ∙ sym (append-nil (front_text version night (nodes ++ node ∷ [])));
}

pub told_end : (version : Version) (night : Night) (count cases : ℕ) (bytes newer : List ℕ) (nodes : List Node) (e : ℕ × ℕ) → IsTextOf version night None count cases bytes nodes
    → newer ≡ bytes ++ end_text count (Some e) → IsTextOf version night (Some e) count cases newer nodes
told_end version night count cases bytes newer nodes e is same = record {
  are = is.are;
  many = is.many;
  total = is.total;
  few = is.few;
  less = is.less;
  can = is.can;
  text = same ∙ ap (λ t. t ++ end_text count (Some e)) (is.text ∙ append-nil (front_text version night nodes))
      ∙ ap (λ k. front_text version night nodes ++ end_text k (Some e)) (sym is.many);
}

pub told_first : (version : Version) (night : Night) (bytes : List ℕ) → CanBeRead version → bytes ≡ text_of_row (head_row version) → IsTextOf version night None 0 0 bytes []
told_first version night bytes can e = record {
  are = no_nodes night;
  many = refl;
  total = refl;
  few = omega arith;
  less = omega arith;
  can = can;
  text = e
      ∙ sym (first_text version night) ∙ sym (append-nil (front_text version night []));
}
