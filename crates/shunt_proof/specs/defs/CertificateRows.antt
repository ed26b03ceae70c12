-- The records of a certificate as they are written.
use Rattle.std.specs.Prelude.{◌≡◌, ℕ, ◌+◌, ◌==◌, ◌&&◌, Bool, pos, List, [], ◌∷◌, ◌++◌, map, take, length, sum_by, Option, Some, None, Ok, if◌then◌else◌, codes}
use Rattle.std.specs.List.{flat_map}
use Rattle.std.specs.Fmt.{decimal, signed_decimal}
use Rattle.std.specs.Ordering.{int_eq}
use Rattle.shunt_base.specs.declared.duals.PriceKind.{PriceKind}
use Rattle.shunt_base.specs.declared.duals.PriceKind.TheVariants as counts
use Rattle.shunt_base.specs.declared.duals.Price.{Price}
use Rattle.shunt_base.specs.declared.duals.Duals.{Duals}
use Rattle.shunt_base.specs.declared.duals.Case.{Case}
use Rattle.shunt_rows.specs.defs.Records.{records_of}
use Rattle.shunt_rows.specs.defs.Formats.{reading}
use Rattle.shunt_instance.specs.defs.Instance.{Night}
use Rattle.shunt_plan.specs.defs.PlanRows.{arr_name, dep_name, track_name, option_fields}
use Rattle.shunt_proof.specs.declared.records.Choice.{Choice}
use Rattle.shunt_proof.specs.declared.records.NodeKind.{NodeKind}
use Rattle.shunt_proof.specs.declared.records.NodeKind.TheVariants as shows
use Rattle.shunt_proof.specs.declared.records.NodeDuals.{NodeDuals}
use Rattle.shunt_proof.specs.declared.records.NodeDuals.TheVariants as duals
use Rattle.shunt_proof.specs.declared.records.Node.{Node}
use Rattle.shunt_proof.specs.declared.records.Version.{Version}
use Rattle.shunt_proof.specs.declared.records.Certificate.{Certificate}
use Rattle.shunt_proof.specs.defs.Numbers.{number_of}
use Rattle.shunt_proof.specs.defs.CertificateFormat.{certificate_format}

-- a node's words
abbrev pub kind_text : NodeKind → List ℕ
kind_text shows.Branch = codes "branch"
kind_text shows.Leaf = codes "leaf"
kind_text shows.Whole = codes "whole"

abbrev pub duals_text : NodeDuals → List ℕ
duals_text duals.Same = codes "same"
duals_text (duals.New cases) = codes "new"
duals_text duals.Bare = codes "none"

-- `N,DEP,Q` and the option of a choice; nothing at the root
abbrev pub choice_fields : Night → Option Choice → List (List ℕ)
choice_fields night None = []
choice_fields night (Some c) = decimal c.n ∷ dep_name night c.dep ∷ decimal c.q ∷ option_fields night.station c.park

-- `node,DEPTH,KIND,DUALS` and the choice
abbrev pub node_row : Night → Node → List (List ℕ)
node_row night x = codes "node" ∷ decimal x.depth ∷ kind_text x.kind ∷ duals_text x.duals ∷ choice_fields night x.choice

-- `case,TO,MULTIPLIER`
abbrev pub case_row : Case → List (List ℕ)
case_row c = codes "case" ∷ decimal c.to ∷ signed_decimal c.multiplier ∷ []

-- `alpha,V..` and `beta,V..`
abbrev pub alpha_row : Duals → List (List ℕ)
alpha_row d = codes "alpha" ∷ map signed_decimal d.alpha

abbrev pub beta_row : Duals → List (List ℕ)
beta_row d = codes "beta" ∷ map signed_decimal d.beta

-- `price,TRACK,TRAIN,VALUE` or `part,TRACK,TRAIN,R,VALUE`
abbrev pub priced_row : List ℕ → List ℕ → ℕ → PriceKind → List (List ℕ)
priced_row track train value counts.Length = codes "price" ∷ track ∷ train ∷ decimal value ∷ []
priced_row track train value (counts.Parts r) = codes "part" ∷ track ∷ train ∷ decimal r ∷ decimal value ∷ []

abbrev pub price_row : Night → Price → List (List ℕ)
price_row night p = priced_row (track_name night.station p.track) (arr_name night p.train) p.value p.kind

-- the records of a case behind its limits
abbrev pub duals_rows : Night → Duals → List (List (List ℕ))
duals_rows night d = alpha_row d ∷ beta_row d ∷ map (price_row night) d.prices

abbrev pub case_rows : Night → Case → List (List (List ℕ))
case_rows night c = case_row c ∷ duals_rows night c.duals

-- whether a case is the one that begins with `alpha` where a node has no other
abbrev pub is_plain : Case → Bool
is_plain c = c.to == 160 && int_eq c.multiplier (pos 0)

-- the records of a node's cases
abbrev pub cases_rows : Night → List Case → List (List (List ℕ))
cases_rows night (c ∷ []) = if is_plain c then duals_rows night c.duals else case_rows night c
cases_rows night cases = flat_map (case_rows night) cases

abbrev pub own_rows : Night → NodeDuals → List (List (List ℕ))
own_rows night (duals.New cases) = cases_rows night cases
own_rows night _ = []

-- the records of a node
abbrev pub node_rows : Night → Node → List (List (List ℕ))
node_rows night x = node_row night x ∷ own_rows night x.duals

-- `certificate,VERSION`
abbrev pub head_row : Version → List (List ℕ)
head_row version = codes "certificate" ∷ decimal (number_of version) ∷ []

-- `end,COST,BOUND,NODES`
abbrev pub end_row : ℕ → ℕ → ℕ → List (List ℕ)
end_row cost bound nodes = codes "end" ∷ decimal cost ∷ decimal bound ∷ decimal nodes ∷ []

-- the records of a certificate: its nodes in their order, each with its own cases, and the last record
abbrev pub rows_of : Night → Certificate → List (List (List ℕ))
rows_of night c = head_row c.version ∷ (flat_map (node_rows night) c.nodes ++ end_row c.cost c.bound (length c.nodes) ∷ [])

-- how many records a case has behind its limits, and with them
abbrev pub duals_count : Case → ℕ
duals_count c = 2 + length c.duals.prices

abbrev pub case_count : Case → ℕ
case_count c = duals_count c + 1

-- how many records the cases of a node have
abbrev pub cases_count : List Case → ℕ
cases_count (c ∷ []) = if is_plain c then duals_count c else case_count c
cases_count cases = sum_by case_count cases

abbrev pub own_count : NodeDuals → ℕ
own_count (duals.New cases) = cases_count cases
own_count _ = 0

-- how many records a node has
abbrev pub row_count : Node → ℕ
row_count x = 1 + own_count x.duals

-- the number of the record of the node with a number
abbrev pub row_of : List Node → ℕ → ℕ
row_of nodes k = 2 + sum_by row_count (take k nodes)

-- the records of a text are those of the certificate, and state it
pub record ReadsAsCertificate (night : Night) (c : Certificate) (text : List ℕ) : Type 0 where
  pub rows : records_of text ≡ rows_of night c
  pub value : reading (certificate_format night) (records_of text) ≡ Ok c
