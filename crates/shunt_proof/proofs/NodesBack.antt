-- The records of nodes are read back, one after the other.
use Rattle.std.proofs.Common.{◌≡◌, ◌≢◌, ◌⊎◌, ℕ, suc, ◌+◌, ◌<◌, ◌≤◌, ℤ, pos, Bool, true, false, ◌&&◌, List, [], ◌∷◌, ◌++◌, length, length-append, map, refl, ap, sym, subst, ◌∙◌, arith, ⊎_elim, inl, inr}
use Rattle.std.specs.Prelude.{Ok, ◌==◌, Option, Some, None, codes, All, Result, if◌then◌else◌}
use Rattle.std.specs.List.{flat_map}
use Rattle.std.specs.Ordering.{int_eq}
use Rattle.std.proofs.lemmas.Bool.Decides.{Decides-int_eq}
use Rattle.std.proofs.lemmas.List.Sums.{sum_by-cons}
use Rattle.std.proofs.lemmas.Bool.{cases_lt, eqb-true, eq-eqb, ne_eqb, and_parts}
use Rattle.std.proofs.lemmas.List.{append_assoc, append-nil}
use Rattle.shunt_base.specs.declared.ids.ArrId.{ArrId}
use Rattle.shunt_base.specs.declared.ids.TrackId.{TrackId}
use Rattle.shunt_base.specs.declared.duals.PriceKind.{PriceKind}
use Rattle.shunt_base.specs.declared.duals.PriceKind.TheVariants as counts
use Rattle.shunt_base.specs.declared.duals.Price.{Price}
use Rattle.shunt_base.specs.declared.duals.Case.{Case}
use Rattle.shunt_rows.specs.declared.fault.RowFault.{RowFault}
use Rattle.shunt_rows.specs.defs.Checks.{answer}
use Rattle.shunt_rows.specs.defs.Fields.{is_word, no_word}
use Rattle.shunt_rows.specs.defs.Formats.{in_state, after_last, IsReadByEach, reads, ◌>>=◌}
use Rattle.shunt_rows.proofs.Named.{not_before, of_middle}
use Rattle.shunt_rows.proofs.Joins.{reads_more}
use Rattle.shunt_rows.proofs.Sections.{section, then_reads, one_reads}
use Rattle.shunt_instance.specs.defs.Instance.{Night, IsOrderedNight}
use Rattle.shunt_plan.specs.defs.PlanRows.{arr_name, track_name}
use Rattle.shunt_prices.specs.defs.Limits.{IsValue, IsPrice, IsKind, ArePrices, AreApart, place_of_price, AreDuals, IsCase}
use Rattle.shunt_proof.specs.declared.records.Choice.{Choice}
use Rattle.shunt_proof.specs.declared.records.NodeKind.{NodeKind}
use Rattle.shunt_proof.specs.declared.records.NodeKind.TheVariants as shows
use Rattle.shunt_proof.specs.declared.records.NodeDuals.{NodeDuals}
use Rattle.shunt_proof.specs.declared.records.NodeDuals.TheVariants as duals
use Rattle.shunt_proof.specs.declared.records.Node.{Node}
use Rattle.shunt_proof.specs.declared.records.Version.{Version}
use Rattle.shunt_proof.specs.declared.draft.LastRead.{LastRead}
use Rattle.shunt_proof.specs.declared.draft.LastRead.TheVariants as places
use Rattle.shunt_proof.specs.defs.Nodes.{node_at, AreNodes, FitsChoice, FitsDepth, AreStatable, FitDuals, FitsNode, Follows}
use Rattle.shunt_proof.specs.defs.Certificates.{own_cases, case_total}
use Rattle.shunt_proof.specs.defs.CertificateFormat.{CertificateDraft, empty, deepest, ended, settled, ends_node, cases_of, node_of, with_node, with_case, with_second, with_lone, with_alpha, with_beta, with_price, case_with, at_place, later_of, after_node, after_case, after_beta, after_new, root_in, root_of, child_in, child_of, first_limits_in, second_limits_in, first_case_of, second_case_of, alpha_in, alpha_of, lone_alpha_in, lone_alpha_of, beta_in, beta_of, same_kind, is_price, has_price, price_in, part_in, price_of, part_of, certificate_format}
use Rattle.shunt_proof.specs.defs.CertificateRows.{node_row, case_row, alpha_row, beta_row, priced_row, price_row, duals_rows, case_rows, is_plain, cases_rows, node_rows}
use Rattle.shunt_proof.proofs.Parts.{then_ok}
use Rattle.shunt_proof.proofs.HeadsBack.{head_of, root_back, child_back}
use Rattle.shunt_proof.proofs.CasesBack.{limits, alpha_back, lone_alpha_back, beta_back, first_limits_back, second_limits_back, price_back, part_back}
use Rattle.shunt_proof.proofs.Formed.{kept_by, settled_begun}

-- ---- records at their place

at_its_place : (n : ℕ) (night : Night) (d : CertificateDraft) (p : LastRead) (row : List (List ℕ)) (r : Result CertificateDraft RowFault) → d.place ≡ p → ended p ≡ false
    → answer n (at_place night d p row) ≡ r → answer n (in_state (certificate_format night) d row) ≡ r
unfolding later_of
at_its_place n night d p row r is early e =
    ap (λ b. answer n (if b then after_last d else later_of night d row)) (ap ended is ∙ early) ∙ ap (λ q. answer n (at_place night d q row)) is ∙ e

-- ---- prices

kinds_same : (k l : PriceKind) → same_kind k l ≡ true → k ≡ l
kinds_same counts.Length counts.Length e = refl
kinds_same (counts.Parts r) (counts.Parts s) e = ap (λ x. counts.Parts x) (eqb-true r s e)
kinds_same counts.Length (counts.Parts s) e = absurd cc
kinds_same (counts.Parts r) counts.Length e = absurd cc

abbrev track_id : ℕ → TrackId
track_id k = record { 0 = k }

abbrev arr_id : ℕ → ArrId
arr_id k = record { 0 = k }

place_same : (k : PriceKind) (t : TrackId) (a : ArrId) (p : Price) → is_price k t a p ≡ true → place_of_price p ≡ (k, (t, a))
place_same k t a p e =
    let outer = and_parts (same_kind p.kind k && p.track.0 == t.0) (p.train.0 == a.0) e in
    let inner = and_parts (same_kind p.kind k) (p.track.0 == t.0) outer.0 in
    let kind = kinds_same p.kind k inner.0 in
    let track : p.track ≡ t = ap track_id (eqb-true p.track.0 t.0 inner.1) in
    let train : p.train ≡ a = ap arr_id (eqb-true p.train.0 a.0 outer.1) in
    ap (λ x. (x, (p.track, p.train))) kind ∙ ap (λ x. (k, (x, p.train))) track ∙ ap (λ x. (k, (t, x))) train

price_new : (xs zs : List Price) (y : Price) → AreApart (xs ++ y ∷ zs) → has_price xs y.kind y.track y.train ≡ false
unfolding has_price
price_new xs zs y all = not_before place_of_price (is_price y.kind y.track y.train) xs zs y (λ p e. place_same y.kind y.track y.train p e) all

-- a case of which that many prices were read
abbrev pub priced : CertificateDraft → Case → List Price → CertificateDraft
priced d c ps = record d { place = places.Beta; now = record c { duals = record c.duals { prices = ps } } }

one_price : (n : ℕ) (night : Night) → IsOrderedNight night → (d : CertificateDraft) (c : Case) (xs : List Price) (t : TrackId) (a : ArrId) (v : ℕ) (k : PriceKind)
    → length xs < 64 → has_price xs k t a ≡ false → IsKind k → t.0 < length night.station.tracks → a.0 < length night.arrive → v ≤ 1000000000
    → answer n (in_state (certificate_format night) (priced d c xs) (priced_row (track_name night.station t) (arr_name night a) v k))
    ≡ Ok (priced d c (xs ++ record { kind = k; track = t; train = a; value = v } ∷ []))
unfolding later_of after_beta price_of part_of
one_price n night h d c xs t a v counts.Length room new kind track train worth =
    then_ok n (price_in night xs (priced_row (track_name night.station t) (arr_name night a) v counts.Length)) (with_price (priced d c xs)) _ _
    (price_back n night h xs t a v room new track train worth) refl
one_price n night h d c xs t a v (counts.Parts r) room new kind track train worth =
    then_ok n (part_in night xs (priced_row (track_name night.station t) (arr_name night a) v (counts.Parts r))) (with_price (priced d c xs)) _ _
    (part_back n night h xs t a r v room new track train kind.0 kind.1 worth) refl

prices_read : (night : Night) → IsOrderedNight night → (d : CertificateDraft) (c : Case) → ArePrices night c.duals.prices → AreApart c.duals.prices
    → IsReadByEach (certificate_format night) (price_row night) (priced d c) c.duals.prices
prices_read night h d c are apart n xs y zs e =
    let is = of_middle (IsPrice night) c.duals.prices xs zs y are.each e in
    one_price n night h d c xs y.track y.train y.value y.kind (room xs zs y (subst (λ l. length l ≤ 64) e are.few))
    (price_new xs zs y (subst AreApart e apart)) is.kind is.track is.train is.value
  where
    room : (xs zs : List Price) (y : Price) → length (xs ++ y ∷ zs) ≤ 64 → length xs < 64
    room xs zs y few = omega (arith, few, length-append xs (y ∷ zs))

-- ---- a case

-- a case of which the values of units were read
abbrev pub valued : CertificateDraft → Case → CertificateDraft
valued d c = record d { place = places.Alpha; now = record { to = c.to; multiplier = c.multiplier; duals = record { alpha = c.duals.alpha; beta = []; prices = [] } } }

-- a case of which the limits were read
abbrev pub cased : CertificateDraft → Case → CertificateDraft
cased d c = record d { place = places.Case; now = case_with c.to c.multiplier }

-- a case that was read whole
abbrev pub done : CertificateDraft → Case → CertificateDraft
done d c = record d { place = places.Beta; now = c }

beta_read : (n : ℕ) (night : Night) (d : CertificateDraft) (c : Case) → AreDuals night c.duals
    → answer n (in_state (certificate_format night) (valued d c) (beta_row c.duals)) ≡ Ok (priced d c [])
unfolding later_of beta_of
beta_read n night d c are =
    then_ok n (beta_in night (beta_row c.duals)) (with_beta (valued d c)) c.duals.beta (priced d c []) (beta_back n night c.duals.beta are.betas are.betas_in) refl

rest_read : (n : ℕ) (night : Night) → IsOrderedNight night → (d : CertificateDraft) (c : Case) → AreDuals night c.duals → AreApart c.duals.prices
    → reads (certificate_format night) (valued d c) n (beta_row c.duals ∷ map (price_row night) c.duals.prices) ≡ Ok (done d c)
rest_read n night h d c are apart =
    let f = certificate_format night in
    ap (λ r. r >>= (λ t. reads f t (n + 1) (map (price_row night) c.duals.prices))) (beta_read n night d c are)
    ∙ section f (price_row night) (priced d c) c.duals.prices (prices_read night h d c are.prices apart) (n + 1) [] c.duals.prices refl

alpha_read : (n : ℕ) (night : Night) (d : CertificateDraft) (c : Case) → AreDuals night c.duals
    → answer n (in_state (certificate_format night) (cased d c) (alpha_row c.duals)) ≡ Ok (valued d c)
unfolding later_of alpha_of
alpha_read n night d c are =
    then_ok n (alpha_in night (alpha_row c.duals)) (with_alpha (cased d c)) c.duals.alpha (valued d c) (alpha_back n night c.duals.alpha are.alphas are.alphas_in) refl

-- the records of a case behind its limits
cased_read : (n : ℕ) (night : Night) → IsOrderedNight night → (d : CertificateDraft) (c : Case) → AreDuals night c.duals → AreApart c.duals.prices
    → reads (certificate_format night) (cased d c) n (duals_rows night c.duals) ≡ Ok (done d c)
cased_read n night h d c are apart =
    ap (λ r. r >>= (λ t. reads (certificate_format night) t (n + 1) (beta_row c.duals ∷ map (price_row night) c.duals.prices))) (alpha_read n night d c are)
    ∙ rest_read (n + 1) night h d c are apart

-- behind the record of a node with duals of its own
abbrev pub fresh : CertificateDraft → CertificateDraft
fresh d = record d { place = places.New }

-- one more case began
abbrev pub counted : CertificateDraft → CertificateDraft
counted d = record d { cases = d.cases + 1 }

lone_read : (n : ℕ) (night : Night) (d : CertificateDraft) (c : Case) → d.cases < 8000 → AreDuals night c.duals → c.to ≡ 160 → c.multiplier ≡ pos 0
    → answer n (in_state (certificate_format night) (fresh d) (alpha_row c.duals)) ≡ Ok (valued (counted d) c)
unfolding later_of after_new lone_alpha_of
lone_read n night d c room are to none =
    then_ok n (lone_alpha_in night d.cases (alpha_row c.duals)) (with_lone (fresh d)) c.duals.alpha (valued (counted d) c)
    (lone_alpha_back n night d.cases c.duals.alpha room are.alphas are.alphas_in)
    (ap (λ t. made t c.multiplier) to ∙ ap (λ z. made 160 z) none)
  where
    made : ℕ → ℤ → CertificateDraft
    made t z = record d { cases = d.cases + 1; place = places.Alpha; now = record { to = t; multiplier = z; duals = record { alpha = c.duals.alpha; beta = []; prices = [] } } }

first_read : (n : ℕ) (night : Night) (d : CertificateDraft) (c : Case) → d.cases < 8000 → c.to ≤ 160 → IsValue c.multiplier → is_plain c ≡ false
    → answer n (in_state (certificate_format night) (fresh d) (case_row c)) ≡ Ok (cased (counted d) c)
unfolding later_of after_new first_case_of
first_read n night d c room to is other =
    then_ok n (first_limits_in d.cases (case_row c)) (with_case (fresh d)) (limits c.to c.multiplier) (cased (counted d) c)
    (first_limits_back n d.cases c.to c.multiplier room to is other) refl

-- the case before the last one of a node
abbrev pub followed : CertificateDraft → Case → CertificateDraft
followed d b = record d { before = Some b }

second_read : (n : ℕ) (night : Night) (d : CertificateDraft) (b c : Case) → d.cases < 8000 → b.to ≢ 160 → c.to ≡ 160 → IsValue c.multiplier
    → answer n (in_state (certificate_format night) (done d b) (case_row c)) ≡ Ok (cased (counted (followed d b)) c)
unfolding later_of after_beta after_case second_case_of
second_read n night d b c room early to is =
    ap (λ t. answer n (if t then after_node night (done d b) (case_row c) else second_case_of (done d b) (case_row c))) (ne_eqb b.to 160 early)
    ∙ then_ok n (second_limits_in d.cases (case_row c)) (with_second (done d b)) (limits c.to c.multiplier) (cased (counted (followed d b)) c)
    (second_limits_back n d.cases c.to c.multiplier room to is) refl

-- ---- the cases of a node

one_case : (n : ℕ) (night : Night) → IsOrderedNight night → (d : CertificateDraft) (c : Case) → d.cases < 8000 → IsCase night c → c.to ≡ 160 → AreApart c.duals.prices
    → reads (certificate_format night) (fresh d) n (cases_rows night (c ∷ [])) ≡ Ok (done (counted d) c)
one_case n night h d c room is to apart = by (is_plain c) refl
  where
    by : (b : Bool) → is_plain c ≡ b → reads (certificate_format night) (fresh d) n (if b then duals_rows night c.duals else case_rows night c) ≡ Ok (done (counted d) c)
    by true e =
        let none : c.multiplier ≡ pos 0 = (Decides-int_eq c.multiplier (pos 0)).0 (and_parts (c.to == 160) (int_eq c.multiplier (pos 0)) e).1 in
        ap (λ r. r >>= (λ t. reads (certificate_format night) t (n + 1) (beta_row c.duals ∷ map (price_row night) c.duals.prices))) (lone_read n night d c room is.duals to none)
        ∙ rest_read (n + 1) night h (counted d) c is.duals apart
    by false e =
        ap (λ r. r >>= (λ t. reads (certificate_format night) t (n + 1) (duals_rows night c.duals))) (first_read n night d c room is.to is.multiplier e)
        ∙ cased_read (n + 1) night h (counted d) c is.duals apart

two_cases : (n : ℕ) (night : Night) → IsOrderedNight night → (d : CertificateDraft) (b c : Case) → d.cases + 2 ≤ 8000 → IsCase night b → IsCase night c → b.to ≢ 160 → c.to ≡ 160
    → AreApart b.duals.prices → AreApart c.duals.prices
    → reads (certificate_format night) (fresh d) n (cases_rows night (b ∷ c ∷ [])) ≡ Ok (done (counted (followed (counted d) b)) c)
two_cases n night h d b c room first last early to apart also =
    let f = certificate_format night in
    let lone : is_plain b ≡ false = ap (λ t. t && int_eq b.multiplier (pos 0)) (ne_eqb b.to 160 early) in
    let more = duals_rows night c.duals in
    ap (λ r. r >>= (λ t. reads f t (n + 1) (duals_rows night b.duals ++ (case_rows night c ++ [])))) (first_read n night d b (omega (arith, room)) first.to first.multiplier lone)
    ∙ then_reads f (cased (counted d) b) (done (counted d) b) (done (counted (followed (counted d) b)) c) (n + 1) (duals_rows night b.duals) (case_rows night c ++ [])
    (cased_read (n + 1) night h (counted d) b first.duals apart)
    (λ k. ap (reads f (done (counted d) b) k) (append-nil (case_rows night c))
    ∙ ap (λ r. r >>= (λ t. reads f t (k + 1) more)) (second_read k night (counted d) b c (omega (arith, room)) early to last.multiplier)
    ∙ cased_read (k + 1) night h (counted (followed (counted d) b)) c last.duals also)

-- behind the cases of a node
abbrev pub behind_cases : CertificateDraft → List Case → CertificateDraft
behind_cases d (c ∷ []) = done (counted d) c
behind_cases d (b ∷ c ∷ []) = done (counted (followed (counted d) b)) c
behind_cases d _ = d

cases_read : (n : ℕ) (night : Night) → IsOrderedNight night → (d : CertificateDraft) (cases : List Case) → AreStatable night cases → d.cases + length cases ≤ 8000
    → reads (certificate_format night) (fresh d) n (cases_rows night cases) ≡ Ok (behind_cases d cases)
cases_read n night h d [] are room = absurd (let le = are.within.some in omega (arith, le))
cases_read n night h d (c ∷ []) are room = one_case n night h d c (omega (arith, room)) (are.within.each 0 c (omega arith)) are.within.last (are.apart 0 c (omega arith))
cases_read n night h d (b ∷ c ∷ []) are room =
    let rise = are.within.rise 0 1 b (omega arith) (omega arith) in
    let last = are.within.last in
    two_cases n night h d b c room (are.within.each 0 b (omega arith)) (are.within.each 1 b (omega arith)) (λ e. omega (arith, rise, last, e)) last (are.apart 0 b (omega arith))
    (are.apart 1 b (omega arith))
cases_read n night h d (a ∷ b ∷ c ∷ cases) are room = absurd (let le = are.within.few in omega (arith, le))

-- ---- a node

settled_cases : (d : CertificateDraft) → (settled d).cases ≡ d.cases
unfolding settled
settled_cases d = kept_by (ends_node d.place) d _ (λ x. x.cases) refl

-- a node was read last, with all that follows it
pub record IsReadLast (d : CertificateDraft) (last : Node) : Type 0 where
  pub place : (d.place ≡ places.Node) ⊎ ((d.place ≡ places.Beta) × (d.now.to ≡ 160))
  pub head : d.head ≡ head_of last

-- a node was read behind those of a state
pub record Reads (night : Night) (d : CertificateDraft) (n : ℕ) (x : Node) : Type 0 where
  pub state : CertificateDraft
  pub read : reads (certificate_format night) d n (node_rows night x) ≡ Ok state
  pub version : (settled state).version ≡ (settled d).version
  pub nodes : (settled state).nodes ≡ (settled d).nodes ++ x ∷ []
  pub before : (settled state).before ≡ None
  pub begun : state.begun ≡ d.begun + 1
  pub cases : state.cases ≡ d.cases + own_cases x.duals
  pub stands : IsReadLast state x

-- a node whose parts are these
abbrev pub made_of : ℕ → Option Choice → NodeKind → NodeDuals → Node
made_of depth choice kind own = record { depth = depth; choice = choice; kind = kind; duals = own }

-- behind the record of a node, as the records of its cases find it
abbrev headed : CertificateDraft → Node → CertificateDraft
headed d x = record (settled d) { begun = (settled d).begun + 1; head = head_of x }

own_rest : (night : Night) → IsOrderedNight night → (d : CertificateDraft) (n depth : ℕ) (choice : Option Choice) (kind : NodeKind) (cases : List Case) → AreStatable night cases
    → (settled d).before ≡ None → (settled d).cases + length cases ≤ 8000
    → answer n (in_state (certificate_format night) d (node_row night (made_of depth choice kind (duals.New cases))))
    ≡ Ok (with_node d (head_of (made_of depth choice kind (duals.New cases)))) → Reads night d n (made_of depth choice kind (duals.New cases))
unfolding with_node settled
own_rest night h d n depth choice kind [] are none room e = absurd (let le = are.within.some in omega (arith, le))
own_rest night h d n depth choice kind (c ∷ []) are none room e =
    let x = made_of depth choice kind (duals.New (c ∷ [])) in
    let base = headed d x in
    record {
      state = done (counted base) c;
      read = ap (λ r. r >>= (λ t. reads (certificate_format night) t (n + 1) (cases_rows night (c ∷ [])))) e ∙ cases_read (n + 1) night h base (c ∷ []) are room;
      version = refl;
      nodes = ap (λ o. (settled d).nodes ++ node_of (head_of x) (duals.New (cases_of o c)) ∷ []) none;
      before = refl;
      begun = ap (λ k. k + 1) (settled_begun d);
      cases = ap (λ k. k + 1) (settled_cases d);
      stands = record { place = inr (refl, are.within.last); head = refl };
    }
own_rest night h d n depth choice kind (b ∷ c ∷ []) are none room e =
    let x = made_of depth choice kind (duals.New (b ∷ c ∷ [])) in
    let base = headed d x in
    record {
      state = done (counted (followed (counted base) b)) c;
      read = ap (λ r. r >>= (λ t. reads (certificate_format night) t (n + 1) (cases_rows night (b ∷ c ∷ [])))) e ∙ cases_read (n + 1) night h base (b ∷ c ∷ []) are room;
      version = refl;
      nodes = refl;
      before = refl;
      begun = ap (λ k. k + 1) (settled_begun d);
      cases = ap (λ k. k + 1 + 1) (settled_cases d) ∙ (let two : d.cases + 1 + 1 ≡ d.cases + 2 = omega arith in two);
      stands = record { place = inr (refl, are.within.last); head = refl };
    }
own_rest night h d n depth choice kind (a ∷ b ∷ c ∷ cases) are none room e = absurd (let le = are.within.few in omega (arith, le))

node_rest : (night : Night) → IsOrderedNight night → (d : CertificateDraft) (n depth : ℕ) (choice : Option Choice) (kind : NodeKind) (own : NodeDuals)
    → FitDuals night depth kind own
    → (settled d).before ≡ None → d.cases + own_cases own ≤ 8000
    → answer n (in_state (certificate_format night) d (node_row night (made_of depth choice kind own))) ≡ Ok (with_node d (head_of (made_of depth choice kind own)))
    → Reads night d n (made_of depth choice kind own)
unfolding with_node settled
node_rest night h d n depth choice kind duals.Same is none room e = record {
  state = with_node d (head_of (made_of depth choice kind duals.Same));
  read = one_reads (certificate_format night) d (with_node d (head_of (made_of depth choice kind duals.Same))) n (node_row night (made_of depth choice kind duals.Same)) e;
  version = refl;
  nodes = refl;
  before = none;
  begun = ap (λ k. k + 1) (settled_begun d);
  cases = settled_cases d ∙ (let z : d.cases ≡ d.cases + 0 = omega arith in z);
  stands = record { place = inl refl; head = refl };
}
node_rest night h d n depth choice kind duals.Bare is none room e = record {
  state = with_node d (head_of (made_of depth choice kind duals.Bare));
  read = one_reads (certificate_format night) d (with_node d (head_of (made_of depth choice kind duals.Bare))) n (node_row night (made_of depth choice kind duals.Bare)) e;
  version = refl;
  nodes = refl;
  before = none;
  begun = ap (λ k. k + 1) (settled_begun d);
  cases = settled_cases d ∙ (let z : d.cases ≡ d.cases + 0 = omega arith in z);
  stands = record { place = inl refl; head = refl };
}
node_rest night h d n depth choice kind (duals.New cases) is none room e = own_rest night h d n depth choice kind cases is.1 none
    (let same = settled_cases d in omega (arith, room, same)) e

root_read : (night : Night) (d : CertificateDraft) (n : ℕ) (kind : NodeKind) (own : NodeDuals) → FitDuals night 0 kind own → d.place ≡ places.Start → d.begun < 5000
    → answer n (in_state (certificate_format night) d (node_row night (made_of 0 None kind own))) ≡ Ok (with_node d (head_of (made_of 0 None kind own)))
unfolding root_of
root_read night d n kind own is start room =
    at_its_place n night d places.Start (node_row night (made_of 0 None kind own)) _ start refl
    (then_ok n (root_in d.begun (node_row night (made_of 0 None kind own))) (with_node d) (head_of (made_of 0 None kind own)) _ (root_back n night d.begun kind own room is) refl)

-- the first node
first_node : (night : Night) → IsOrderedNight night → (d : CertificateDraft) (n : ℕ) (x : Node) → FitsNode night x → x.depth ≡ 0 → d.place ≡ places.Start → d.begun < 5000
    → (settled d).before ≡ None → d.cases + own_cases x.duals ≤ 8000 → Reads night d n x
first_node night h d n x fits root start room none cases = by x.choice refl
  where
    by : (choice : Option Choice) → x.choice ≡ choice → Reads night d n x
    by None e =
        let x_is : x ≡ made_of 0 None x.kind x.duals = ap (λ k. made_of k x.choice x.kind x.duals) root ∙ ap (λ o. made_of 0 o x.kind x.duals) e in
        let duals : FitDuals night 0 x.kind x.duals = subst (λ k. FitDuals night k x.kind x.duals) root fits.duals in
        subst (Reads night d n) (sym x_is) (node_rest night h d n 0 None x.kind x.duals duals none cases (root_read night d n x.kind x.duals duals start room))
    by (Some c) e = absurd (let some = (subst (FitsDepth night x.depth) e fits.choice).0 in omega (arith, some, root))

-- what is read behind a node, by a word that isn't a price's or a case's
pub behind_node : (n : ℕ) (night : Night) (d : CertificateDraft) (last : Node) (row : List (List ℕ)) (r : Result CertificateDraft RowFault) → IsReadLast d last
    → is_word row (codes "price") ≡ false
    → is_word row (codes "part") ≡ false
    → answer n (after_node night d row) ≡ r → answer n (in_state (certificate_format night) d row) ≡ r
unfolding after_beta after_case
behind_node n night d last row r stands no_price no_part e = ⊎_elim
    (λ at_node. at_its_place n night d places.Node row r at_node refl e)
    (λ at_beta. at_its_place n night d places.Beta row r at_beta.0 refl
    (ap (λ b. answer n (if b then price_of night d row else if is_word row (codes "part") then part_of night d row else after_case night d row)) no_price
    ∙ ap (λ b. answer n (if b then part_of night d row else after_case night d row)) no_part
    ∙ ap (λ b. answer n (if b then after_node night d row else if is_word row (codes "case") then second_case_of d row else no_word d)) (eq-eqb d.now.to 160 at_beta.1)
    ∙ e))
    stands.place

no_deeper : (depth last : ℕ) → depth ≤ last + 1 → (depth ≡ last + 1 → ⊥) → depth ≤ last
no_deeper depth last most never = ⊎_elim (λ lt. absurd (never (omega (arith, lt, most)))) (λ le. le) (cases_lt last depth)

-- the greatest depth of the next node
follows_deepest : (last x : Node) → Follows last x → x.depth ≤ deepest (head_of last)
follows_deepest last x follows = by last.kind refl
  where
    by : (kind : NodeKind) → last.kind ≡ kind → x.depth ≤ deepest (record (head_of last) { kind = kind })
    by shows.Branch e = follows.most
    by shows.Leaf e = no_deeper x.depth last.depth follows.most (λ same. absurd (let k = sym e ∙ follows.branch same in cc))
    by shows.Whole e = no_deeper x.depth last.depth follows.most (λ same. absurd (let k = sym e ∙ follows.branch same in cc))

child_read : (night : Night) → IsOrderedNight night → (d : CertificateDraft) (n depth : ℕ) (last : Node) (c : Choice) (kind : NodeKind) (own : NodeDuals)
    → FitDuals night depth kind own
    → FitsChoice night c → 1 ≤ depth → depth ≤ 160 → depth ≤ deepest d.head → IsReadLast d last → d.begun < 5000
    → answer n (in_state (certificate_format night) d (node_row night (made_of depth (Some c) kind own))) ≡ Ok (with_node d (head_of (made_of depth (Some c) kind own)))
unfolding after_node child_of
child_read night h d n depth last c kind own is fits some few deep stands room =
    let row = node_row night (made_of depth (Some c) kind own) in
    behind_node n night d last row _ stands refl refl
    (then_ok n (child_in night d.begun d.head row) (with_node d) (head_of (made_of depth (Some c) kind own)) _
    (child_back n night h d.begun d.head depth kind own c room some few deep is fits) refl)

-- a later node
later_node : (night : Night) → IsOrderedNight night → (d : CertificateDraft) (n : ℕ) (last x : Node) → FitsNode night x → Follows last x → IsReadLast d last → d.begun < 5000
    → (settled d).before ≡ None → d.cases + own_cases x.duals ≤ 8000 → Reads night d n x
later_node night h d n last x fits follows stands room none cases = by x.choice refl
  where
    by : (choice : Option Choice) → x.choice ≡ choice → Reads night d n x
    by None e = absurd (let root : x.depth ≡ 0 = subst (FitsDepth night x.depth) e fits.choice in let some = follows.some in omega (arith, root, some))
    by (Some c) e =
        let x_is : x ≡ made_of x.depth (Some c) x.kind x.duals = ap (λ o. made_of x.depth o x.kind x.duals) e in
        let deep : x.depth ≤ deepest d.head = subst (λ l. x.depth ≤ deepest l) (sym stands.head) (follows_deepest last x follows) in
        subst (Reads night d n) (sym x_is) (node_rest night h d n x.depth (Some c) x.kind x.duals fits.duals none cases
        (child_read night h d n x.depth last c x.kind x.duals fits.duals (subst (FitsDepth night x.depth) e fits.choice).1 follows.some fits.depth deep stands room))

-- ---- all nodes

-- nodes of which each follows the one before it, behind one that was read
abbrev Chain : Night → Node → List Node → Type 0
Chain night last [] = Unit {0}
Chain night last (x ∷ xs) = FitsNode night x × (Follows last x × Chain night x xs)

-- nodes were read behind those of a state
pub record ReadsAll (night : Night) (d : CertificateDraft) (n : ℕ) (xs : List Node) : Type 0 where
  pub state : CertificateDraft
  pub read : reads (certificate_format night) d n (flat_map (node_rows night) xs) ≡ Ok state
  pub version : (settled state).version ≡ (settled d).version
  pub nodes : (settled state).nodes ≡ (settled d).nodes ++ xs
  pub begun : state.begun ≡ d.begun + length xs
  pub last : Node
  pub stands : IsReadLast state last

-- one node and then the others
join_reads : (night : Night) (d : CertificateDraft) (n : ℕ) (x : Node) (xs : List Node) → (r : Reads night d n x) → ReadsAll night r.state (n + length (node_rows night x)) xs
    → ReadsAll night d n (x ∷ xs)
join_reads night d n x xs r more =
    let f = certificate_format night in
    record {
      state = more.state;
      read =
          reads_more f d n (node_rows night x) (flat_map (node_rows night) xs)
          ∙ ap (λ q. q >>= (λ t. reads f t (n + length (node_rows night x)) (flat_map (node_rows night) xs))) r.read
          ∙ more.read;
      version = more.version ∙ r.version;
      nodes = more.nodes ∙ ap (λ l. l ++ xs) r.nodes ∙ append_assoc (settled d).nodes (x ∷ []) xs;
      begun = more.begun ∙ ap (λ k. k + length xs) r.begun ∙ (let e : d.begun + 1 + length xs ≡ d.begun + length (x ∷ xs) = omega arith in e);
      last = more.last;
      stands = more.stands;
    }

later_nodes : (night : Night) → IsOrderedNight night → (d : CertificateDraft) (n : ℕ) (last : Node) (xs : List Node) → Chain night last xs → IsReadLast d last
    → d.begun + length xs ≤ 5000
    → (settled d).before ≡ None → d.cases + case_total xs ≤ 8000 → ReadsAll night d n xs
later_nodes night h d n last [] chain stands room none cases = record {
  state = d;
  read = refl;
  version = refl;
  nodes = sym (append-nil (settled d).nodes);
  begun = (let e : d.begun ≡ d.begun + 0 = omega arith in e);
  last = last;
  stands = stands;
}
later_nodes night h d n last (x ∷ xs) chain stands room none cases =
    let sum = sum_by-cons (λ (y : Node). own_cases y.duals) x xs in
    let r = later_node night h d n last x chain.0 chain.1.0 stands (omega (arith, room)) none (omega (arith, cases, sum)) in
    let begun = r.begun in
    let count = r.cases in
    join_reads night d n x xs r (later_nodes night h r.state (n + length (node_rows night x)) x xs chain.1.1 r.stands (omega (arith, room, begun)) r.before
    (omega (arith, cases, sum, count)))

chain_of : (night : Night) (x : Node) (xs : List Node) → All (FitsNode night) (x ∷ xs)
    → ((k : ℕ) → k + 1 < length (x ∷ xs) → Follows (node_at (x ∷ xs) k) (node_at (x ∷ xs) (k + 1))) → Chain night x xs
chain_of night x [] fits follow = tt
chain_of night x (y ∷ ys) fits follow = (
  fits 1 y (omega arith),
  (follow 0 (omega arith), chain_of night y ys (λ k d lt. fits (suc k) d (omega arith)) (λ k lt. next k (follow (suc k) (omega arith)))),
)
  where
    next : (k : ℕ) → Follows (node_at (x ∷ y ∷ ys) (suc k)) (node_at (x ∷ y ∷ ys) (suc k + 1)) → Follows (node_at (y ∷ ys) k) (node_at (y ∷ ys) (k + 1))
    next k f = subst (λ j. Follows (node_at (x ∷ y ∷ ys) (suc k)) (node_at (x ∷ y ∷ ys) j)) (let e : suc k + 1 ≡ suc (k + 1) = omega arith in e) f

-- the nodes of a certificate
pub nodes_back : (night : Night) → IsOrderedNight night → (version : Version) (nodes : List Node) → AreNodes night nodes → 1 ≤ length nodes → length nodes ≤ 5000
    → case_total nodes ≤ 8000 → (n : ℕ) → ReadsAll night (empty version) n nodes
unfolding settled
nodes_back night h version [] are some few cases n = absurd (omega (arith, some))
nodes_back night h version (x ∷ xs) are some few cases n =
    let sum = sum_by-cons (λ (y : Node). own_cases y.duals) x xs in
    let r = first_node night h (empty version) n x (are.each 0 x (omega arith)) (are.root (omega arith)) refl (omega arith) refl (omega (arith, cases, sum)) in
    let begun = r.begun in
    let count = r.cases in
    join_reads night (empty version) n x xs r (later_nodes night h r.state (n + length (node_rows night x)) x xs (chain_of night x xs are.each are.follow) r.stands
    (omega (arith, few, begun)) r.before (omega (arith, cases, sum, count)))
