-- How long the text of a certificate is.
use Rattle.std.proofs.Common.{◌≡◌, ℕ, suc, ◌+◌, ◌*◌, ◌≤◌, Bool, true, false, ℤ, pos, negsuc, List, [], ◌∷◌, ◌++◌, length, length-append, map, ap, sym, subst, ◌∙◌, arith}
use Rattle.std.specs.Prelude.{All, Option, Some, None, if◌then◌else◌}
use Rattle.std.specs.List.{flat_map}
use Rattle.std.specs.Fmt.{signed_decimal}
use Rattle.std.proofs.lemmas.Fmt.{length-decimal-le}
use Rattle.std.proofs.lemmas.Int.{ints}
use Rattle.std.proofs.lemmas.List.Concat.{flat_map-cons}
use Rattle.std.proofs.lemmas.List.Sums.{sum_by-cons}
use Rattle.shunt_base.specs.declared.duals.PriceKind.{PriceKind}
use Rattle.shunt_base.specs.declared.duals.PriceKind.TheVariants as counts
use Rattle.shunt_base.specs.declared.duals.Price.{Price}
use Rattle.shunt_base.specs.declared.duals.Duals.{Duals}
use Rattle.shunt_base.specs.declared.duals.Case.{Case}
use Rattle.shunt_rows.specs.defs.Records.{text_of_row, text_of_rows, width}
use Rattle.shunt_rows.proofs.Texts.{texts_join}
use Rattle.shunt_rows.proofs.Widths.{row_width, rows_width}
use Rattle.shunt_instance.specs.defs.Instance.{Night, IsInstance, IsOrderedNight, unit_total, position_total}
use Rattle.shunt_instance.proofs.Looked.{units_few, positions_few}
use Rattle.shunt_instance.proofs.Orders.{opened}
use Rattle.shunt_plan.proofs.Plain.{arr_named, dep_named, track_named}
use Rattle.shunt_plan.proofs.Lengths.{option_short, place_short}
use Rattle.shunt_prices.specs.defs.Limits.{IsValue, IsKind, IsPrice, AreDuals, IsCase}
use Rattle.shunt_proof.specs.declared.records.Choice.{Choice}
use Rattle.shunt_proof.specs.declared.records.NodeKind.{NodeKind}
use Rattle.shunt_proof.specs.declared.records.NodeKind.TheVariants as shows
use Rattle.shunt_proof.specs.declared.records.NodeDuals.{NodeDuals}
use Rattle.shunt_proof.specs.declared.records.NodeDuals.TheVariants as duals
use Rattle.shunt_proof.specs.declared.records.Node.{Node}
use Rattle.shunt_proof.specs.declared.records.Certificate.{Certificate}
use Rattle.shunt_proof.specs.defs.Nodes.{FitsDepth, FitDuals, FitsNode}
use Rattle.shunt_proof.specs.defs.Numbers.{number_of}
use Rattle.shunt_proof.specs.defs.Certificates.{own_cases, case_total, IsCertificate}
use Rattle.shunt_proof.specs.defs.CertificateRows.{kind_text, duals_text, choice_fields, node_row, case_row, alpha_row, beta_row, priced_row, price_row, duals_rows, case_rows, is_plain, cases_rows, own_rows, node_rows, head_row, end_row, rows_of}
use Rattle.shunt_proof.proofs.Numbers.{number_small}
use Rattle.shunt_proof.proofs.Plain.{plain_node, plain_price, plain_duals, plain_case, plain_head, plain_end}

-- the text of one more record
row_then : (row : List (List ℕ)) (rows : List (List (List ℕ))) → length (text_of_rows (row ∷ rows)) ≡ length (text_of_row row) + length (text_of_rows rows)
row_then row rows = ap length (flat_map-cons text_of_row row rows) ∙ length-append (text_of_row row) (text_of_rows rows)

kind_short : (kind : NodeKind) → length (kind_text kind) ≤ 6
kind_short shows.Branch = omega arith
kind_short shows.Leaf = omega arith
kind_short shows.Whole = omega arith

word_short : (own : NodeDuals) → length (duals_text own) ≤ 4
word_short duals.Same = omega arith
word_short (duals.New cases) = omega arith
word_short duals.Bare = omega arith

choice_short : (night : Night) → IsOrderedNight night → (depth : ℕ) (choice : Option Choice) → FitsDepth night depth choice → width (choice_fields night choice) ≤ 47
choice_short night h depth None is = omega arith
choice_short night h depth (Some c) is =
    let n = place_short c.n is.1.few in
    let q = place_short c.q is.1.to in
    let d = (dep_named night c.dep h is.1.dep).1 in
    let o = option_short night.station c.park h.station is.1.track in
    omega (arith, n, q, d, o)

node_short : (night : Night) → IsOrderedNight night → (x : Node) → FitsNode night x → length (text_of_row (node_row night x)) ≤ 68
node_short night h x fits =
    let w = row_width (node_row night x) (plain_node night h x fits) in
    let depth = length-decimal-le 3 x.depth (omega arith) (let le = fits.depth in omega (arith, le)) (let le = fits.depth in omega (arith, le)) in
    let c = choice_short night h x.depth x.choice fits.choice in
    omega (arith, w, depth, kind_short x.kind, word_short x.duals, c)

value_short : (z : ℤ) → IsValue z → length (signed_decimal z) ≤ 13
value_short (pos n) is = let high = is.high in let le = length-decimal-le 12 n (omega arith) (omega (arith, ints, high)) (omega (arith, ints, high)) in omega (arith, le)
value_short (negsuc n) is = let low = is.low in let le = length-decimal-le 12 (suc n) (omega arith) (omega (arith, ints, low)) (omega (arith, ints, low)) in omega (arith, le)

values_short : (zs : List ℤ) → All IsValue zs → width (map signed_decimal zs) ≤ 14 * length zs
values_short [] all = omega arith
values_short (z ∷ zs) all =
    let here = value_short z (all 0 z (omega arith)) in
    let rest = values_short zs (λ k d lt. all (suc k) d (omega arith)) in
    omega (arith, here, rest)

priced_short : (track train : List ℕ) (value : ℕ) (kind : PriceKind) → length track ≤ 16 → length train ≤ 16 → value ≤ 1000000000 → IsKind kind
    → width (priced_row track train value kind) ≤ 52
priced_short track train value counts.Length t a le kind =
    let v = length-decimal-le 10 value (omega arith) (omega (arith, le)) (omega (arith, le)) in
    omega (arith, t, a, v)
priced_short track train value (counts.Parts r) t a le kind =
    let v = length-decimal-le 10 value (omega arith) (omega (arith, le)) (omega (arith, le)) in
    omega (arith, t, a, v, place_short r kind.1)

price_short : (night : Night) → IsOrderedNight night → (p : Price) → IsPrice night p → length (text_of_row (price_row night p)) ≤ 52
price_short night h p is =
    let w = row_width (price_row night p) (plain_price night h p is) in
    let s = priced_short _ _ p.value p.kind (track_named night.station p.track h.station is.track).1 (arr_named night p.train h is.train).1 is.value is.kind in
    omega (arith, w, s)

duals_short : (night : Night) → IsOrderedNight night → unit_total night ≤ 160 → position_total night ≤ 160 → (d : Duals) → AreDuals night d
    → length (text_of_rows (duals_rows night d)) ≤ 7819
duals_short night h units places d are =
    let plain = plain_duals night h d are in
    let a = row_width (alpha_row d) plain.0 in
    let b = row_width (beta_row d) plain.1.0 in
    let av = values_short d.alpha are.alphas_in in
    let bv = values_short d.beta are.betas_in in
    let prices = map (price_row night) d.prices in
    let p = rows_width (IsPrice night) (price_row night) 52 d.prices (price_short night h) are.prices.each in
    let few = are.prices.few in
    let am = are.alphas in
    let bm = are.betas in
    omega (arith, a, b, av, bv, p, few, am, bm, units, places, row_then (alpha_row d) (beta_row d ∷ prices), row_then (beta_row d) prices)

case_short : (night : Night) → IsOrderedNight night → unit_total night ≤ 160 → position_total night ≤ 160 → (c : Case) → IsCase night c
    → length (text_of_rows (case_rows night c)) ≤ 7842
case_short night h units places c is =
    let w = row_width (case_row c) (plain_case night h c is).0 in
    let to = length-decimal-le 3 c.to (omega arith) (let le = is.to in omega (arith, le)) (let le = is.to in omega (arith, le)) in
    let m = value_short c.multiplier is.multiplier in
    let d = duals_short night h units places c.duals is.duals in
    omega (arith, w, to, m, d, row_then (case_row c) (duals_rows night c.duals))

each_short : (night : Night) → IsOrderedNight night → unit_total night ≤ 160 → position_total night ≤ 160 → (cases : List Case) → All (IsCase night) cases
    → length (text_of_rows (flat_map (case_rows night) cases)) ≤ 7842 * length cases
each_short night h units places [] all = omega arith
each_short night h units places (c ∷ cases) all =
    let here = case_short night h units places c (all 0 c (omega arith)) in
    let rest = each_short night h units places cases (λ k d lt. all (suc k) d (omega arith)) in
    let join = ap length (texts_join (case_rows night c) (flat_map (case_rows night) cases)) in
    omega (arith, here, rest, join, length-append (text_of_rows (case_rows night c)) (text_of_rows (flat_map (case_rows night) cases)))

cases_short : (night : Night) → IsOrderedNight night → unit_total night ≤ 160 → position_total night ≤ 160 → (cases : List Case) → All (IsCase night) cases
    → length (text_of_rows (cases_rows night cases)) ≤ 7842 * length cases
cases_short night h units places [] all = omega arith
cases_short night h units places (c ∷ []) all = by (is_plain c)
  where
    by : (b : Bool) → length (text_of_rows (if b then duals_rows night c.duals else case_rows night c)) ≤ 7842 * 1
    by true = let d = duals_short night h units places c.duals (all 0 c (omega arith)).duals in omega (arith, d)
    by false = let d = case_short night h units places c (all 0 c (omega arith)) in omega (arith, d)
cases_short night h units places (b ∷ c ∷ cases) all = each_short night h units places (b ∷ c ∷ cases) all

own_short : (night : Night) → IsOrderedNight night → unit_total night ≤ 160 → position_total night ≤ 160 → (depth : ℕ) (kind : NodeKind) (own : NodeDuals)
    → FitDuals night depth kind own → length (text_of_rows (own_rows night own)) ≤ 7842 * own_cases own
own_short night h units places depth kind duals.Same is = omega arith
own_short night h units places depth kind (duals.New cases) is = cases_short night h units places cases is.1.within.each
own_short night h units places depth kind duals.Bare is = omega arith

nodes_short : (night : Night) → IsOrderedNight night → unit_total night ≤ 160 → position_total night ≤ 160 → (nodes : List Node) → All (FitsNode night) nodes
    → length (text_of_rows (flat_map (node_rows night) nodes)) ≤ 68 * length nodes + 7842 * case_total nodes
nodes_short night h units places [] all = omega arith
nodes_short night h units places (x ∷ xs) all =
    let fits = all 0 x (omega arith) in
    let row = node_short night h x fits in
    let own = own_short night h units places x.depth x.kind x.duals fits.duals in
    let rest = nodes_short night h units places xs (λ k d lt. all (suc k) d (omega arith)) in
    let more = flat_map (node_rows night) xs in
    let join = ap length (texts_join (node_rows night x) more) in
    let total = sum_by-cons (λ (y : Node). own_cases y.duals) x xs in
    omega (arith, row, own, rest, join, total, row_then (node_row night x) (own_rows night x.duals), length-append (text_of_rows (node_rows night x)) (text_of_rows more))

-- the text of a certificate has at most 63,076,051 bytes
certificate_short : (night : Night) → IsOrderedNight night → unit_total night ≤ 160 → position_total night ≤ 160 → (c : Certificate) → IsCertificate night c
    → length (text_of_rows (rows_of night c)) ≤ 63076051
certificate_short night h units places c is =
    let rows = flat_map (node_rows night) c.nodes in
    let end = end_row c.cost c.bound (length c.nodes) in
    let head = row_width (head_row c.version) (plain_head c.version) in
    let version = place_short (number_of c.version) (let k = number_small c.version in omega (arith, k)) in
    let last = row_width end (plain_end c.cost c.bound (length c.nodes) is.cost is.bound is.few) in
    let cost = length-decimal-le 13 c.cost (omega arith) (let le = is.cost in omega (arith, le)) (let le = is.cost in omega (arith, le)) in
    let bound = length-decimal-le 13 c.bound (omega arith) (let le = is.bound in omega (arith, le)) (let le = is.bound in omega (arith, le)) in
    let count = length-decimal-le 4 (length c.nodes) (omega arith) (let le = is.few in omega (arith, le)) (let le = is.few in omega (arith, le)) in
    let all = nodes_short night h units places c.nodes is.nodes.each in
    let few = is.few in
    let cases = is.cases in
    let join = ap length (texts_join rows (end ∷ [])) in
    omega (
      arith,
      head,
      version,
      last,
      cost,
      bound,
      count,
      all,
      few,
      cases,
      join,
      row_then (head_row c.version) (rows ++ end ∷ []),
      row_then end [],
      length-append (text_of_rows rows) (text_of_rows (end ∷ [])),
    )

pub text_short : (night : Night) (c : Certificate) → IsInstance night → IsCertificate night c → length (text_of_rows (rows_of night c)) ≤ 63076051
text_short night c i is = let h = opened night i in certificate_short night h (units_few night h) (positions_few night h) c is

pub short_from : (night : Night) (c : Certificate) → IsInstance night → IsCertificate night c → (text bytes : List ℕ) → text ≡ text_of_rows (rows_of night c) → bytes ≡ text
    → length bytes ≤ 63076051
short_from night c i is text bytes e same = subst (λ (t : List ℕ). length t ≤ 63076051) (sym (same ∙ e)) (text_short night c i is)
