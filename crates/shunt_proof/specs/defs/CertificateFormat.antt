-- The format of a certificate in a night.
use Rattle.std.specs.Prelude.{ℕ, zero, suc, ◌+◌, ◌==◌, nat_lt, nat_le, not, ◌&&◌, ◌||◌, Bool, true, false, ℤ, pos, neg_ℤ, int_lt, List, [], ◌∷◌, ◌++◌, length, Option, Some, None, if◌then◌else◌, codes}
use Rattle.std.specs.Ordering.{int_eq}
use Rattle.std.specs.Str.{bytes_eq}
use Rattle.std.specs.List.{list_any}
use Rattle.shunt_base.specs.declared.ids.ArrId.{ArrId}
use Rattle.shunt_base.specs.declared.ids.TrackId.{TrackId}
use Rattle.shunt_base.specs.declared.duals.PriceKind.{PriceKind}
use Rattle.shunt_base.specs.declared.duals.PriceKind.TheVariants as counts
use Rattle.shunt_base.specs.declared.duals.Price.{Price}
use Rattle.shunt_base.specs.declared.duals.Case.{Case}
use Rattle.shunt_base.specs.defs.Spelling.{decimal_of, signed_of}
use Rattle.shunt_rows.specs.declared.fault.RowKind.TheVariants as kinds
use Rattle.shunt_rows.specs.defs.Records.{at}
use Rattle.shunt_rows.specs.defs.Checks.{Judged, must, says, found, ◌>>=◌}
use Rattle.shunt_rows.specs.defs.Fields.{is_word, no_word, is_within, fields_in, number_in}
use Rattle.shunt_rows.specs.defs.Formats.{Format}
use Rattle.shunt_instance.specs.defs.Instance.{Night, unit_total, position_total}
use Rattle.shunt_blocks.specs.declared.records.Park.{Park}
use Rattle.shunt_plan.specs.defs.BlockRecords.{arr_in, dep_in, track_in, option_in}
use Rattle.shunt_proof.specs.declared.records.Choice.{Choice}
use Rattle.shunt_proof.specs.declared.records.NodeKind.{NodeKind}
use Rattle.shunt_proof.specs.declared.records.NodeKind.TheVariants as shows
use Rattle.shunt_proof.specs.declared.records.NodeDuals.{NodeDuals}
use Rattle.shunt_proof.specs.declared.records.NodeDuals.TheVariants as duals
use Rattle.shunt_proof.specs.declared.records.Node.{Node}
use Rattle.shunt_proof.specs.declared.records.Version.{Version}
use Rattle.shunt_proof.specs.declared.records.Certificate.{Certificate}
use Rattle.shunt_proof.specs.declared.heads.HeadDuals.{HeadDuals}
use Rattle.shunt_proof.specs.declared.heads.HeadDuals.TheVariants as words
use Rattle.shunt_proof.specs.declared.heads.Head.{Head}
use Rattle.shunt_proof.specs.declared.values.Limits.{Limits}
use Rattle.shunt_proof.specs.declared.draft.LastRead.{LastRead}
use Rattle.shunt_proof.specs.declared.draft.LastRead.TheVariants as places
use Rattle.shunt_proof.specs.defs.Numbers.{version_with, newest}

-- ---- what the records so far state

pub record CertificateDraft : Type 0 where
  pub version : Version
  -- the nodes that are whole
  pub nodes : List Node
  -- how many nodes and how many cases began
  pub begun : ℕ
  pub cases : ℕ
  -- what was read last
  pub place : LastRead
  -- the record of the last node
  pub head : Head
  -- of a node that isn't whole, the case before the last one, where there is one, and the last one, as far as it was read
  pub before : Option Case
  pub now : Case
  -- what the last record states
  pub cost : ℕ
  pub bound : ℕ

-- a case of which nothing but its limit and its multiplier is known
abbrev pub case_with : ℕ → ℤ → Case
case_with to multiplier = record { to = to; multiplier = multiplier; duals = record { alpha = []; beta = []; prices = [] } }

abbrev pub no_case : Case
no_case = case_with 0 (pos 0)

abbrev pub no_head : Head
no_head = record { depth = 0; choice = None; kind = shows.Whole; duals = words.Bare }

-- nothing but the version, after the first record
abbrev pub empty : Version → CertificateDraft
empty version = record { version = version; nodes = []; begun = 0; cases = 0; place = places.Start; head = no_head; before = None; now = no_case; cost = 0; bound = 0 }

-- the cases of a node
abbrev pub cases_of : Option Case → Case → List Case
cases_of None c = c ∷ []
cases_of (Some b) c = b ∷ c ∷ []

-- the node of a record with these duals
abbrev pub node_of : Head → NodeDuals → Node
node_of h d = record { depth = h.depth; choice = h.choice; kind = h.kind; duals = d }

-- where the last node may have all its cases, it is whole
abbrev pub ends_node : LastRead → Bool
ends_node places.Beta = true
ends_node _ = false

unfoldable pub settled : CertificateDraft → CertificateDraft
settled d = if ends_node d.place then record d { nodes = d.nodes ++ node_of d.head (duals.New (cases_of d.before d.now)) ∷ []; before = None; now = no_case } else d

-- one more node: it is whole where its duals aren't its own
abbrev pub with_head : CertificateDraft → Head → HeadDuals → CertificateDraft
with_head d h words.New = record d { begun = d.begun + 1; place = places.New; head = h }
with_head d h words.Same = record d { nodes = d.nodes ++ node_of h duals.Same ∷ []; begun = d.begun + 1; place = places.Node; head = h }
with_head d h words.Bare = record d { nodes = d.nodes ++ node_of h duals.Bare ∷ []; begun = d.begun + 1; place = places.Node; head = h }

unfoldable pub with_node : CertificateDraft → Head → CertificateDraft
with_node d h = with_head (settled d) h h.duals

-- ---- the record of a node

-- there is room for one more node behind that many; the 5,001st is Limit
abbrev pub node_room : ℕ → Judged (Unit {0})
node_room begun = must (nat_lt begun 5000) 1 kinds.Limit

-- what a word says of a node
unfoldable pub kind_of : List ℕ → Option NodeKind
kind_of text = if bytes_eq text (codes "branch") then Some shows.Branch else if bytes_eq text (codes "leaf") then Some shows.Leaf else if bytes_eq text
    (codes "whole") then Some shows.Whole else None

-- what a word says of a node's duals: `none` of a whole one; of the others `new`, or `same` below the root
abbrev pub is_whole : NodeKind → Bool
is_whole shows.Whole = true
is_whole _ = false

unfoldable pub duals_of : NodeKind → ℕ → List ℕ → Option HeadDuals
duals_of kind depth text =
    if is_whole kind then (if bytes_eq text (codes "none") then Some words.Bare else None)
    else if bytes_eq text (codes "new") then Some words.New
    else if not (depth == 0) && bytes_eq text (codes "same") then Some words.Same
    else None

-- `KIND,DUALS` at fields 3 and 4 of a node at a depth
abbrev pub head_in : List (List ℕ) → ℕ → Judged Head
head_in row depth = do
  kind ← found shows.Whole (kind_of (at row 3)) 3 kinds.Kind
  own ← found words.Bare (duals_of kind depth (at row 4)) 4 kinds.Kind
  says record { depth = depth; choice = None; kind = kind; duals = own }

-- `node,DEPTH,KIND,DUALS`
unfoldable pub root_in : ℕ → List (List ℕ) → Judged Head
root_in begun row = do
  _ ← fields_in row 4 4
  _ ← node_room begun
  depth ← number_in row 2 0 0
  head_in row depth

-- the greatest depth of the next node
abbrev pub deepest : Head → ℕ
deepest h = if is_branch h.kind then h.depth + 1 else h.depth
  where
    is_branch : NodeKind → Bool
    is_branch shows.Branch = true
    is_branch _ = false

-- `node,DEPTH,KIND,DUALS,N,DEP,Q` in 8 or 11 fields behind another node, with its option yet to come
unfoldable pub later_in : Night → ℕ → Head → List (List ℕ) → Judged (Head × Choice)
later_in night begun last row = do
  _ ← must (length row == 8 || length row == 11) 1 kinds.Fields
  _ ← node_room begun
  depth ← number_in row 2 1 160
  _ ← must (nat_le depth (deepest last)) 2 kinds.Limit
  h ← head_in row depth
  n ← number_in row 5 1 8
  dep ← dep_in night row 6
  q ← number_in row 7 1 8
  says (h, record { n = n; dep = dep; q = q; park = None })

-- a node with what it adds
abbrev pub with_choice : Head × Choice → Option Park → Head
with_choice node park = record (node.0) { choice = Some record (node.1) { park = park } }

-- `node,DEPTH,KIND,DUALS,N,DEP,Q,unparked` or `node,DEPTH,KIND,DUALS,N,DEP,Q,park,TRACK,IN,OUT` behind another node
unfoldable pub child_in : Night → ℕ → Head → List (List ℕ) → Judged Head
child_in night begun last row = do
  node ← later_in night begun last row
  park ← option_in night.station row 8
  says (with_choice node park)

-- the first node, and a later one
unfoldable pub root_of : CertificateDraft → List (List ℕ) → Judged CertificateDraft
root_of d row = do
  h ← root_in d.begun row
  says (with_node d h)

unfoldable pub child_of : Night → CertificateDraft → List (List ℕ) → Judged CertificateDraft
child_of night d row = do
  h ← child_in night d.begun d.head row
  says (with_node d h)

-- ---- the records of a case

-- there is room for one more case behind that many; the 8,001st of the file is Limit
abbrev pub case_room : ℕ → Judged (Unit {0})
case_room cases = must (nat_lt cases 8000) 1 kinds.Limit

-- whether a number is within plus or minus 999,999,999,999
unfoldable pub is_value : ℤ → Bool
is_value z = not (int_lt z (neg_ℤ (pos 999999999999))) && not (int_lt (pos 999999999999) z)

-- the field is such a number
abbrev pub value_in : List (List ℕ) → ℕ → Judged ℤ
value_in row k = do
  z ← found (pos 0) (signed_of (at row k)) k kinds.Number
  _ ← must (is_value z) k kinds.Limit
  says z

-- that many fields from one on are such numbers
unfoldable pub values_in : List (List ℕ) → ℕ → ℕ → Judged (List ℤ)
values_in row k zero = says []
values_in row k (suc more) = do
  z ← value_in row k
  zs ← values_in row (k + 1) more
  says (z ∷ zs)

-- whether the one case that begins with `alpha` has these limits
abbrev pub is_lone : Limits → Bool
is_lone l = l.to == 160 && int_eq l.multiplier (pos 0)

-- `case,TO,MULTIPLIER` of a first case, which isn't that one, behind that many cases of the file
unfoldable pub first_limits_in : ℕ → List (List ℕ) → Judged Limits
first_limits_in cases row = do
  _ ← fields_in row 3 3
  _ ← case_room cases
  to ← number_in row 2 0 160
  multiplier ← value_in row 3
  _ ← must (not (is_lone (record { to = to; multiplier = multiplier }))) 3 kinds.Limit
  says record { to = to; multiplier = multiplier }

-- the same of a second case, with TO 160
unfoldable pub second_limits_in : ℕ → List (List ℕ) → Judged Limits
second_limits_in cases row = do
  _ ← fields_in row 3 3
  _ ← case_room cases
  to ← number_in row 2 160 160
  multiplier ← value_in row 3
  says record { to = to; multiplier = multiplier }

-- one more case of the last node
abbrev pub with_case : CertificateDraft → Limits → CertificateDraft
with_case d l = record d { cases = d.cases + 1; place = places.Case; now = case_with l.to l.multiplier }

unfoldable pub first_case_of : CertificateDraft → List (List ℕ) → Judged CertificateDraft
first_case_of d row = do
  l ← first_limits_in d.cases row
  says (with_case d l)

-- one more behind it
abbrev pub with_second : CertificateDraft → Limits → CertificateDraft
with_second d l = with_case (record d { before = Some d.now }) l

unfoldable pub second_case_of : CertificateDraft → List (List ℕ) → Judged CertificateDraft
second_case_of d row = do
  l ← second_limits_in d.cases row
  says (with_second d l)

-- `alpha,V..`, with one V for each unit
unfoldable pub alpha_in : Night → List (List ℕ) → Judged (List ℤ)
alpha_in night row = do
  _ ← fields_in row (unit_total night + 1) (unit_total night + 1)
  values_in row 2 (unit_total night)

abbrev pub with_alpha : CertificateDraft → List ℤ → CertificateDraft
with_alpha d values = record d { place = places.Alpha; now = record d.now { duals = record d.now.duals { alpha = values } } }

unfoldable pub alpha_of : Night → CertificateDraft → List (List ℕ) → Judged CertificateDraft
alpha_of night d row = do
  values ← alpha_in night row
  says (with_alpha d values)

-- the same as the first record of the one case with TO 160 and multiplier 0
unfoldable pub lone_alpha_in : Night → ℕ → List (List ℕ) → Judged (List ℤ)
lone_alpha_in night cases row = do
  _ ← fields_in row (unit_total night + 1) (unit_total night + 1)
  _ ← case_room cases
  values_in row 2 (unit_total night)

-- the one case that begins so
abbrev pub with_lone : CertificateDraft → List ℤ → CertificateDraft
with_lone d values = with_alpha (with_case d (record { to = 160; multiplier = pos 0 })) values

unfoldable pub lone_alpha_of : Night → CertificateDraft → List (List ℕ) → Judged CertificateDraft
lone_alpha_of night d row = do
  values ← lone_alpha_in night d.cases row
  says (with_lone d values)

-- `beta,V..`, with one V for each position
unfoldable pub beta_in : Night → List (List ℕ) → Judged (List ℤ)
beta_in night row = do
  _ ← fields_in row (position_total night + 1) (position_total night + 1)
  values_in row 2 (position_total night)

abbrev pub with_beta : CertificateDraft → List ℤ → CertificateDraft
with_beta d values = record d { place = places.Beta; now = record d.now { duals = record d.now.duals { beta = values } } }

unfoldable pub beta_of : Night → CertificateDraft → List (List ℕ) → Judged CertificateDraft
beta_of night d row = do
  values ← beta_in night row
  says (with_beta d values)

-- ---- prices

-- whether two kinds of price are one
abbrev pub same_kind : PriceKind → PriceKind → Bool
same_kind counts.Length counts.Length = true
same_kind (counts.Parts r) (counts.Parts s) = r == s
same_kind _ _ = false

-- whether a price has this kind, track and train, and whether one of these has
abbrev pub is_price : PriceKind → TrackId → ArrId → Price → Bool
is_price kind track train p = same_kind p.kind kind && p.track.0 == track.0 && p.train.0 == train.0

unfoldable pub has_price : List Price → PriceKind → TrackId → ArrId → Bool
has_price prices kind track train = list_any (is_price kind track train) prices

-- there is room for one more price behind these; the 65th of a case is Limit
abbrev pub price_room : List Price → Judged (Unit {0})
price_room prices = must (nat_lt (length prices) 64) 1 kinds.Limit

-- the field is a price's value
abbrev pub worth_in : List (List ℕ) → ℕ → Judged ℕ
worth_in row k = number_in row k 0 1000000000

-- `price,TRACK,TRAIN,VALUE`
unfoldable pub price_in : Night → List Price → List (List ℕ) → Judged Price
price_in night prices row = do
  _ ← fields_in row 4 4
  _ ← price_room prices
  track ← track_in night.station row 2
  train ← arr_in night row 3
  _ ← must (not (has_price prices counts.Length track train)) 3 kinds.Repeat
  value ← worth_in row 4
  says record { kind = counts.Length; track = track; train = train; value = value }

-- `part,TRACK,TRAIN,R,VALUE`
unfoldable pub part_in : Night → List Price → List (List ℕ) → Judged Price
part_in night prices row = do
  _ ← fields_in row 5 5
  _ ← price_room prices
  track ← track_in night.station row 2
  train ← arr_in night row 3
  r ← found 0 (decimal_of (at row 4)) 4 kinds.Number
  _ ← must (not (has_price prices (counts.Parts r) track train)) 4 kinds.Repeat
  _ ← must (is_within 1 8 r) 4 kinds.Limit
  value ← worth_in row 5
  says record { kind = counts.Parts r; track = track; train = train; value = value }

abbrev pub with_price : CertificateDraft → Price → CertificateDraft
with_price d price = record d { now = record d.now { duals = record d.now.duals { prices = d.now.duals.prices ++ price ∷ [] } } }

unfoldable pub price_of : Night → CertificateDraft → List (List ℕ) → Judged CertificateDraft
price_of night d row = do
  price ← price_in night d.now.duals.prices row
  says (with_price d price)

unfoldable pub part_of : Night → CertificateDraft → List (List ℕ) → Judged CertificateDraft
part_of night d row = do
  price ← part_in night d.now.duals.prices row
  says (with_price d price)

-- ---- the last record

-- a cost in cost units
abbrev pub cost_in : List (List ℕ) → ℕ → Judged ℕ
cost_in row k = number_in row k 0 1000000000000

-- `end,COST,BOUND,NODES`, with the number of nodes
unfoldable pub end_in : ℕ → List (List ℕ) → Judged (ℕ × ℕ)
end_in begun row = do
  _ ← fields_in row 4 4
  cost ← cost_in row 2
  bound ← cost_in row 3
  nodes ← found 0 (decimal_of (at row 4)) 4 kinds.Number
  _ ← must (nodes == begun) 4 kinds.Limit
  says (cost, bound)

unfoldable pub with_end : CertificateDraft → ℕ × ℕ → CertificateDraft
with_end d end = record (settled d) { place = places.End; cost = end.0; bound = end.1 }

unfoldable pub end_of : CertificateDraft → List (List ℕ) → Judged CertificateDraft
end_of d row = do
  end ← end_in d.begun row
  says (with_end d end)

-- ---- the words that may stand

-- behind a whole node: one more node, or the end
unfoldable pub after_node : Night → CertificateDraft → List (List ℕ) → Judged CertificateDraft
after_node night d row = if is_word row (codes "node") then child_of night d row else if is_word row (codes "end") then end_of d row else no_word d

-- behind a case: the second one where its TO isn't 160, else what may stand behind a whole node
unfoldable pub after_case : Night → CertificateDraft → List (List ℕ) → Judged CertificateDraft
after_case night d row = if d.now.to == 160 then after_node night d row else if is_word row (codes "case") then second_case_of d row else no_word d

-- behind `beta` and prices: a price, or what may follow the case
unfoldable pub after_beta : Night → CertificateDraft → List (List ℕ) → Judged CertificateDraft
after_beta night d row = if is_word row (codes "price") then price_of night d row else if is_word row (codes "part") then part_of night d row else after_case night d row

-- behind a node with duals of its own
unfoldable pub after_new : Night → CertificateDraft → List (List ℕ) → Judged CertificateDraft
after_new night d row = if is_word row (codes "case") then first_case_of d row else if is_word row (codes "alpha") then lone_alpha_of night d row else no_word d

-- a later record, by what was read last
abbrev pub at_place : Night → CertificateDraft → LastRead → List (List ℕ) → Judged CertificateDraft
at_place night d places.Start row = if is_word row (codes "node") then root_of d row else no_word d
at_place night d places.Node row = after_node night d row
at_place night d places.New row = after_new night d row
at_place night d places.Case row = if is_word row (codes "alpha") then alpha_of night d row else no_word d
at_place night d places.Alpha row = if is_word row (codes "beta") then beta_of night d row else no_word d
at_place night d places.Beta row = after_beta night d row
at_place night d places.End row = no_word d

unfoldable pub later_of : Night → CertificateDraft → List (List ℕ) → Judged CertificateDraft
later_of night d row = at_place night d d.place row

-- `certificate,VERSION`
unfoldable pub version_in : List (List ℕ) → Judged Version
version_in row = do
  _ ← must (is_word row (codes "certificate")) 1 kinds.Kind
  _ ← fields_in row 2 2
  number ← number_in row 2 1 newest
  says (version_with number)

unfoldable pub first_of : List (List ℕ) → Judged CertificateDraft
first_of row = do
  version ← version_in row
  says (empty version)

-- the last record was read
abbrev pub ended : LastRead → Bool
ended places.End = true
ended _ = false

-- the certificate that the records state
abbrev pub certificate_of : CertificateDraft → Certificate
certificate_of d = record { version = d.version; nodes = d.nodes; cost = d.cost; bound = d.bound }

-- the certificate's file: its `end` record is there, and the last
abbrev pub certificate_format : Night → Format CertificateDraft Certificate
certificate_format night = record { first = first_of; later = later_of night; has_ended = λ d. ended d.place; is_whole = λ d. ended d.place; value = certificate_of }
