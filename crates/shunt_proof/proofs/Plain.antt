-- The records that are written of a certificate are plain.
use Rattle.std.proofs.Common.{ℕ, suc, ◌≤◌, ℤ, List, [], ◌∷◌, length, map, refl, arith, if◌then◌else◌, Bool, true, false}
use Rattle.std.specs.Prelude.{All, Option, Some, None, codes}
use Rattle.std.specs.List.{AllByRecursion, flat_map}
use Rattle.std.specs.Fmt.{decimal, signed_decimal}
use Rattle.shunt_base.specs.declared.duals.PriceKind.{PriceKind}
use Rattle.shunt_base.specs.declared.duals.PriceKind.TheVariants as counts
use Rattle.shunt_base.specs.declared.duals.Price.{Price}
use Rattle.shunt_base.specs.declared.duals.Duals.{Duals}
use Rattle.shunt_base.specs.declared.duals.Case.{Case}
use Rattle.shunt_rows.specs.defs.Records.{IsPlainField, IsPlainRow, ArePlain}
use Rattle.shunt_rows.proofs.Plain.{plain_name, plain_number, plain_word, plain_more, plain_map, plain_signed}
use Rattle.shunt_instance.specs.defs.Instance.{Night, IsOrderedNight}
use Rattle.shunt_plan.proofs.Plain.{arr_named, dep_named, track_named, plain_option}
use Rattle.shunt_prices.specs.defs.Limits.{IsKind, IsPrice, IsValue, AreDuals, IsCase}
use Rattle.shunt_proof.specs.declared.records.Choice.{Choice}
use Rattle.shunt_proof.specs.declared.records.NodeKind.{NodeKind}
use Rattle.shunt_proof.specs.declared.records.NodeKind.TheVariants as shows
use Rattle.shunt_proof.specs.declared.records.NodeDuals.{NodeDuals}
use Rattle.shunt_proof.specs.declared.records.NodeDuals.TheVariants as duals
use Rattle.shunt_proof.specs.declared.records.Node.{Node}
use Rattle.shunt_proof.specs.declared.records.Version.{Version}
use Rattle.shunt_proof.specs.declared.records.Certificate.{Certificate}
use Rattle.shunt_proof.specs.defs.Nodes.{FitsDepth, FitDuals, FitsNode}
use Rattle.shunt_proof.specs.defs.Numbers.{number_of}
use Rattle.shunt_proof.specs.defs.Certificates.{IsCertificate}
use Rattle.shunt_proof.specs.defs.CertificateRows.{kind_text, duals_text, choice_fields, node_row, priced_row, price_row, duals_rows, case_rows, is_plain, cases_rows, own_rows, node_rows, head_row, end_row, rows_of}
use Rattle.shunt_proof.proofs.CasesBack.{signed}
use Rattle.shunt_proof.proofs.Numbers.{number_small}

small : (k : ℕ) → k ≤ 1000000000000 → IsPlainField (decimal k)
small k le = plain_number k (omega (arith, le))

plain_kind : (kind : NodeKind) → IsPlainField (kind_text kind)
plain_kind shows.Branch = plain_word (codes "branch") refl refl
plain_kind shows.Leaf = plain_word (codes "leaf") refl refl
plain_kind shows.Whole = plain_word (codes "whole") refl refl

plain_own : (own : NodeDuals) → IsPlainField (duals_text own)
plain_own duals.Same = plain_word (codes "same") refl refl
plain_own (duals.New cases) = plain_word (codes "new") refl refl
plain_own duals.Bare = plain_word (codes "none") refl refl

plain_choice : (night : Night) → IsOrderedNight night → (depth : ℕ) (choice : Option Choice) → FitsDepth night depth choice
    → AllByRecursion IsPlainField (choice_fields night choice)
plain_choice night h depth None is = tt
plain_choice night h depth (Some c) is =
    let n = is.1.few in
    let q = is.1.to in
    (small c.n (omega (arith, n)), (plain_name _ (dep_named night c.dep h is.1.dep), (small c.q (omega (arith, q)), plain_option night.station c.park h.station is.1.track)))

pub plain_node : (night : Night) → IsOrderedNight night → (x : Node) → FitsNode night x → IsPlainRow (node_row night x)
plain_node night h x fits =
    let depth = fits.depth in (
      omega arith,
      (
        plain_word (codes "node") refl refl,
        (
          small x.depth (omega (arith, depth)),
          (plain_kind x.kind, (plain_own x.duals, plain_choice night h x.depth x.choice fits.choice)),
        ),
      ),
    )

plain_values : (zs : List ℤ) → All IsValue zs → AllByRecursion IsPlainField (map signed_decimal zs)
plain_values [] all = tt
plain_values (z ∷ zs) all = (plain_signed z (signed z (all 0 z (omega arith))), plain_values zs (λ k d lt. all (suc k) d (omega arith)))

plain_priced : (track train : List ℕ) (value : ℕ) (kind : PriceKind) → IsPlainField track → IsPlainField train → value ≤ 1000000000 → IsKind kind
    → IsPlainRow (priced_row track train value kind)
plain_priced track train value counts.Length t a le kind = (omega arith, (plain_word (codes "price") refl refl, (t, (a, (small value (omega (arith, le)), tt)))))
plain_priced track train value (counts.Parts r) t a le kind = (
  omega arith,
  (
    plain_word (codes "part") refl refl,
    (t, (a, (small r (let few = kind.1 in omega (arith, few)), (small value (omega (arith, le)), tt)))),
  ),
)

pub plain_price : (night : Night) → IsOrderedNight night → (p : Price) → IsPrice night p → IsPlainRow (price_row night p)
plain_price night h p is = plain_priced _ _ p.value p.kind (plain_name _ (track_named night.station p.track h.station is.track))
    (plain_name _ (arr_named night p.train h is.train)) is.value is.kind

pub plain_duals : (night : Night) → IsOrderedNight night → (d : Duals) → AreDuals night d → ArePlain (duals_rows night d)
plain_duals night h d are = (
  (omega arith, (plain_word (codes "alpha") refl refl, plain_values d.alpha are.alphas_in)),
  (
    (omega arith, (plain_word (codes "beta") refl refl, plain_values d.beta are.betas_in)),
    plain_map (IsPrice night) (price_row night) d.prices (plain_price night h) are.prices.each,
  ),
)

pub plain_case : (night : Night) → IsOrderedNight night → (c : Case) → IsCase night c → ArePlain (case_rows night c)
plain_case night h c is =
    let to = is.to in (
      (omega arith, (plain_word (codes "case") refl refl, (small c.to (omega (arith, to)), (plain_signed c.multiplier (signed c.multiplier is.multiplier), tt)))),
      plain_duals night h c.duals is.duals,
    )

plain_if : (b : Bool) (rows more : List (List (List ℕ))) → ArePlain rows → ArePlain more → ArePlain (if b then rows else more)
plain_if true rows more p q = p
plain_if false rows more p q = q

-- the rows of things, several of each
plain_each : {X : Type 0} (P : X → Type 0) (rows : X → List (List (List ℕ))) (xs : List X) → ((x : X) → P x → ArePlain (rows x)) → All P xs → ArePlain (flat_map rows xs)
plain_each P rows [] h all = tt
plain_each P rows (x ∷ xs) h all = plain_more (rows x) (flat_map rows xs) (h x (all 0 x (omega arith))) (plain_each P rows xs h (λ k d lt. all (suc k) d (omega arith)))

plain_cases : (night : Night) → IsOrderedNight night → (cases : List Case) → All (IsCase night) cases → ArePlain (cases_rows night cases)
plain_cases night h [] all = tt
plain_cases night h (c ∷ []) all =
    let is = all 0 c (omega arith) in
    plain_if (is_plain c) (duals_rows night c.duals) (case_rows night c) (plain_duals night h c.duals is.duals) (plain_case night h c is)
plain_cases night h (b ∷ c ∷ cases) all = plain_each (IsCase night) (case_rows night) (b ∷ c ∷ cases) (plain_case night h) all

plain_rest : (night : Night) → IsOrderedNight night → (depth : ℕ) (kind : NodeKind) (own : NodeDuals) → FitDuals night depth kind own → ArePlain (own_rows night own)
plain_rest night h depth kind duals.Same is = tt
plain_rest night h depth kind (duals.New cases) is = plain_cases night h cases is.1.within.each
plain_rest night h depth kind duals.Bare is = tt

pub plain_nodes : (night : Night) → IsOrderedNight night → (x : Node) → FitsNode night x → ArePlain (node_rows night x)
plain_nodes night h x fits = (plain_node night h x fits, plain_rest night h x.depth x.kind x.duals fits.duals)

pub plain_head : (version : Version) → IsPlainRow (head_row version)
plain_head version = (omega arith, (plain_word (codes "certificate") refl refl, (small (number_of version) (let k = number_small version in omega (arith, k)), tt)))

pub plain_end : (cost bound nodes : ℕ) → cost ≤ 1000000000000 → bound ≤ 1000000000000 → nodes ≤ 5000 → IsPlainRow (end_row cost bound nodes)
plain_end cost bound nodes c b n = (omega arith, (plain_word (codes "end") refl refl, (small cost c, (small bound b, (small nodes (omega (arith, n)), tt)))))

-- the records of a certificate are plain
pub certificate_plain : (night : Night) → IsOrderedNight night → (c : Certificate) → IsCertificate night c → ArePlain (rows_of night c)
certificate_plain night h c is = (
  plain_head c.version,
  plain_more (flat_map (node_rows night) c.nodes) _ (plain_each (FitsNode night) (node_rows night) c.nodes (plain_nodes night h) is.nodes.each)
      (plain_end c.cost c.bound (length c.nodes) is.cost is.bound is.few, tt),
)
