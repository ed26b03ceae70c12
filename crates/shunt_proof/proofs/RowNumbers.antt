-- The number of the record of a node.
use Rattle.std.proofs.Common.{◌≡◌, ℕ, zero, suc, ◌+◌, ◌-◌, ◌<◌, Bool, true, false, List, [], ◌∷◌, ◌++◌, length, take, refl, ap, sym, ◌∙◌, arith}
use Rattle.std.specs.Prelude.{Some, slice_get, sum_by, if◌then◌else◌}
use Rattle.std.specs.List.{flat_map}
use Rattle.std.proofs.lemmas.List.{length-map, append_assoc}
use Rattle.std.proofs.lemmas.List.Concat.{length-flat_map}
use Rattle.std.proofs.lemmas.List.Sums.{sum_by-cons}
use Rattle.shunt_base.specs.declared.duals.Case.{Case}
use Rattle.shunt_instance.specs.defs.Instance.{Night}
use Rattle.shunt_proof.specs.declared.records.NodeDuals.{NodeDuals}
use Rattle.shunt_proof.specs.declared.records.NodeDuals.TheVariants as duals
use Rattle.shunt_proof.specs.declared.records.Node.{Node}
use Rattle.shunt_proof.specs.declared.records.Certificate.{Certificate}
use Rattle.shunt_proof.specs.defs.Nodes.{node_at}
use Rattle.shunt_proof.specs.defs.CertificateRows.{price_row, duals_rows, case_rows, is_plain, cases_rows, own_rows, node_row, node_rows, end_row, rows_of, duals_count, case_count, cases_count, own_count, row_count, row_of}
use Rattle.shunt_lists.proofs.Sums.{sum_by-same as sum_same}

duals_many : (night : Night) (c : Case) → length (duals_rows night c.duals) ≡ duals_count c
duals_many night c = let e = length-map c.duals.prices (price_row night) in omega (arith, e)

case_many : (night : Night) (c : Case) → length (case_rows night c) ≡ case_count c
case_many night c = let e = duals_many night c in omega (arith, e)

cases_many : (night : Night) (cases : List Case) → length (cases_rows night cases) ≡ cases_count cases
cases_many night [] = refl
cases_many night (c ∷ []) = by (is_plain c)
  where
    by : (b : Bool) → length (if b then duals_rows night c.duals else case_rows night c) ≡ (if b then duals_count c else case_count c)
    by true = duals_many night c
    by false = case_many night c
cases_many night (b ∷ c ∷ cases) = length-flat_map (case_rows night) (b ∷ c ∷ cases) ∙ sum_same (λ x. length (case_rows night x)) case_count (b ∷ c ∷ cases) (case_many night)

own_many : (night : Night) (own : NodeDuals) → length (own_rows night own) ≡ own_count own
own_many night duals.Same = refl
own_many night (duals.New cases) = cases_many night cases
own_many night duals.Bare = refl

pub rows_many : (night : Night) (x : Node) → length (node_rows night x) ≡ row_count x
rows_many night x = let e = own_many night x.duals in omega (arith, e)

past : {X : Type 0} (xs ys : List X) (k : ℕ) → slice_get (xs ++ ys) (length xs + k) ≡ slice_get ys k
past [] ys k = ap (slice_get ys) (let e : 0 + k ≡ k = omega arith in e)
past (x ∷ xs) ys k = ap (slice_get (x ∷ (xs ++ ys))) (let e : length (x ∷ xs) + k ≡ suc (length xs + k) = omega arith in e) ∙ past xs ys k

node_found : (night : Night) (nodes : List Node) (k : ℕ) (rest : List (List (List ℕ))) → k < length nodes
    → slice_get (flat_map (node_rows night) nodes ++ rest) (sum_by row_count (take k nodes)) ≡ Some (node_row night (node_at nodes k))
node_found night [] k rest lt = absurd (omega (arith, lt))
node_found night (x ∷ xs) zero rest lt = refl
node_found night (x ∷ xs) (suc k) rest lt =
    let own = node_rows night x in
    let more = flat_map (node_rows night) xs in
    let sum = sum_by row_count (take k xs) in
    ap (slice_get ((own ++ more) ++ rest)) (sum_by-cons row_count x (take k xs) ∙ ap (λ j. j + sum) (sym (rows_many night x)))
    ∙ ap (λ l. slice_get l (length own + sum)) (append_assoc own more rest)
    ∙ past own (more ++ rest) sum
    ∙ node_found night xs k rest (omega (arith, lt))

-- the record of a node has its number
pub numbered : (night : Night) (c : Certificate) (k : ℕ) → k < length c.nodes → slice_get (rows_of night c) (row_of c.nodes k - 1) ≡ Some (node_row night (node_at c.nodes k))
numbered night c k lt =
    let rest = end_row c.cost c.bound (length c.nodes) ∷ [] in
    let sum = sum_by row_count (take k c.nodes) in
    ap (slice_get (rows_of night c)) (let e : 2 + sum - 1 ≡ suc sum = omega arith in e) ∙ node_found night c.nodes k rest lt
