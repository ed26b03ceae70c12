-- The record of a node is read back.
use Rattle.std.proofs.Common.{◌≡◌, ℕ, ◌<◌, ◌≤◌, Bool, true, not, ◌&&◌, List, [], ◌∷◌, refl, ap, sym, subst, ◌∙◌, arith}
use Rattle.std.specs.Prelude.{Ok, Option, Some, None, nat_lt, nat_le, codes, bytes_eq, if◌then◌else◌}
use Rattle.std.specs.Fmt.{decimal}
use Rattle.std.proofs.lemmas.Bool.{lt-ltb, le-leb, ne_eqb}
use Rattle.shunt_base.specs.declared.ids.DepId.{DepId}
use Rattle.shunt_base.specs.defs.Spelling.{decimal_of}
use Rattle.shunt_rows.specs.declared.fault.RowKind.TheVariants as kinds
use Rattle.shunt_rows.specs.defs.Checks.{Judged, answer, must, says, found, ◌>>=◌}
use Rattle.shunt_rows.specs.defs.Fields.{is_within}
use Rattle.shunt_rows.proofs.Answered.{holding}
use Rattle.shunt_rows.proofs.Joins.{part_ok}
use Rattle.shunt_rows.proofs.Spelled.{number_again, in_range}
use Rattle.shunt_instance.specs.defs.Instance.{Night, IsOrderedNight, dep_of_name}
use Rattle.shunt_plan.specs.defs.BlockRecords.{option_in}
use Rattle.shunt_plan.specs.defs.PlanRows.{dep_name, option_fields}
use Rattle.shunt_plan.proofs.RoundTrip.{dep_there, option_read, fields_fit}
use Rattle.shunt_proof.specs.declared.records.Choice.{Choice}
use Rattle.shunt_proof.specs.declared.records.NodeKind.{NodeKind}
use Rattle.shunt_proof.specs.declared.records.NodeKind.TheVariants as shows
use Rattle.shunt_proof.specs.declared.records.NodeDuals.{NodeDuals}
use Rattle.shunt_proof.specs.declared.records.NodeDuals.TheVariants as duals
use Rattle.shunt_proof.specs.declared.records.Node.{Node}
use Rattle.shunt_proof.specs.declared.heads.HeadDuals.{HeadDuals}
use Rattle.shunt_proof.specs.declared.heads.HeadDuals.TheVariants as words
use Rattle.shunt_proof.specs.declared.heads.Head.{Head}
use Rattle.shunt_proof.specs.defs.Nodes.{FitsChoice, FitDuals}
use Rattle.shunt_proof.specs.defs.CertificateFormat.{kind_of, duals_of, root_in, deepest, later_in, child_in, with_choice}
use Rattle.shunt_proof.specs.defs.CertificateRows.{kind_text, duals_text}

-- what a node's record says of its duals
abbrev pub word_of : NodeDuals → HeadDuals
word_of duals.Same = words.Same
word_of (duals.New cases) = words.New
word_of duals.Bare = words.Bare

-- what a node's record says
abbrev pub head_of : Node → Head
head_of x = record { depth = x.depth; choice = x.choice; kind = x.kind; duals = word_of x.duals }

kind_back : (kind : NodeKind) → kind_of (kind_text kind) ≡ Some kind
unfolding kind_of
kind_back shows.Branch = refl
kind_back shows.Leaf = refl
kind_back shows.Whole = refl

-- `same` of a node that is no root, or none of it
abbrev same_by : Bool → Option HeadDuals
same_by root = if not root && bytes_eq (codes "same") (codes "same") then Some words.Same else None

duals_back : (night : Night) (depth : ℕ) (kind : NodeKind) (own : NodeDuals) → FitDuals night depth kind own → duals_of kind depth (duals_text own) ≡ Some (word_of own)
unfolding duals_of
duals_back night depth kind duals.Bare is = subst (λ k. duals_of k depth (codes "none") ≡ Some words.Bare) (sym is) refl
duals_back night depth shows.Whole duals.Same is = absurd (is.0 refl)
duals_back night depth shows.Branch duals.Same is = ap same_by (ne_eqb depth 0 (λ e. let some = is.1 in omega (arith, some, e)))
duals_back night depth shows.Leaf duals.Same is = ap same_by (ne_eqb depth 0 (λ e. let some = is.1 in omega (arith, some, e)))
duals_back night depth shows.Whole (duals.New cases) is = absurd (is.0 refl)
duals_back night depth shows.Branch (duals.New cases) is = refl
duals_back night depth shows.Leaf (duals.New cases) is = refl

-- ---- the root

-- what the record of the first node says, by what is found of it
abbrev root_by : ℕ → Option ℕ → Option NodeKind → (NodeKind → ℕ → Option HeadDuals) → Judged Head
root_by begun depth kind own = do
  _ ← must true 1 kinds.Fields
  _ ← must (nat_lt begun 5000) 1 kinds.Limit
  d ← found 0 depth 2 kinds.Number
  _ ← must (is_within 0 0 d) 2 kinds.Limit
  k ← found shows.Whole kind 3 kinds.Kind
  w ← found words.Bare (own k d) 4 kinds.Kind
  says record { depth = d; choice = None; kind = k; duals = w }

root_own : (n begun : ℕ) (kind : NodeKind) (own : NodeKind → ℕ → Option HeadDuals) (w : HeadDuals) → begun < 5000 → own kind 0 ≡ Some w
    → answer n (root_by begun (Some 0) (Some kind) own) ≡ Ok (record { depth = 0; choice = None; kind = kind; duals = w })
unfolding is_within
root_own n begun kind own w room is =
    ap (λ o. answer n (root_by begun (Some 0) (Some kind) (λ k d. o))) is
    ∙ (let m = root_by begun (Some 0) (Some kind) (λ k d. Some w) in holding n m.checks m.value (refl, (lt-ltb begun 5000 room, (refl, (refl, (refl, (refl, tt)))))))

pub root_back : (n : ℕ) (night : Night) (begun : ℕ) (kind : NodeKind) (own : NodeDuals) → begun < 5000 → FitDuals night 0 kind own
    → answer n (root_in begun (codes "node" ∷ decimal 0 ∷ kind_text kind ∷ duals_text own ∷ [])) ≡ Ok (record { depth = 0; choice = None; kind = kind; duals = word_of own })
unfolding root_in is_within
root_back n night begun kind own room is =
    let by = root_by begun in
    let duals_by : NodeKind → ℕ → Option HeadDuals = λ k d. duals_of k d (duals_text own) in
    ap (λ o. answer n (by o (kind_of (kind_text kind)) duals_by)) (number_again 0 (omega arith))
    ∙ ap (λ o. answer n (by (Some 0) o duals_by)) (kind_back kind)
    ∙ root_own n begun kind duals_by (word_of own) room (duals_back night 0 kind own is)

-- ---- a later node

abbrev later_by : ℕ → Head → Bool → Option ℕ → Option NodeKind → (NodeKind → ℕ → Option HeadDuals) → Option ℕ → Option DepId → Option ℕ → Judged (Head × Choice)
later_by begun last fits depth kind own units dep place = do
  _ ← must fits 1 kinds.Fields
  _ ← must (nat_lt begun 5000) 1 kinds.Limit
  d ← found 0 depth 2 kinds.Number
  _ ← must (is_within 1 160 d) 2 kinds.Limit
  _ ← must (nat_le d (deepest last)) 2 kinds.Limit
  k ← found shows.Whole kind 3 kinds.Kind
  w ← found words.Bare (own k d) 4 kinds.Kind
  u ← found 0 units 5 kinds.Number
  _ ← must (is_within 1 8 u) 5 kinds.Limit
  t ← found (record { 0 = 0 }) dep 6 kinds.Unknown
  p ← found 0 place 7 kinds.Number
  _ ← must (is_within 1 8 p) 7 kinds.Limit
  says (record { depth = d; choice = None; kind = k; duals = w }, record { n = u; dep = t; q = p; park = None })

later_own : (n begun : ℕ) (last : Head) (depth : ℕ) (kind : NodeKind) (own : NodeKind → ℕ → Option HeadDuals) (w : HeadDuals) (c : Choice) (night : Night)
    → begun < 5000 → 1 ≤ depth → depth ≤ 160 → depth ≤ deepest last → own kind depth ≡ Some w → FitsChoice night c
    → answer n (later_by begun last true (Some depth) (Some kind) own (Some c.n) (Some c.dep) (Some c.q))
    ≡ Ok (record { depth = depth; choice = None; kind = kind; duals = w }, record c { park = None })
later_own n begun last depth kind own w c night room some few deep is fits =
    ap (λ o. answer n (later_by begun last true (Some depth) (Some kind) (λ k d. o) (Some c.n) (Some c.dep) (Some c.q))) is
    ∙ (let m = later_by begun last true (Some depth) (Some kind) (λ k d. Some w) (Some c.n) (Some c.dep) (Some c.q) in
    holding n m.checks m.value (
      refl,
      (
        lt-ltb begun 5000 room,
        (
          refl,
          (
            in_range 1 160 depth some few,
            (
              le-leb depth (deepest last) deep,
              (refl, (refl, (refl, (in_range 1 8 c.n fits.some fits.few, (refl, (refl, (in_range 1 8 c.q fits.from fits.to, tt))))))),
            ),
          ),
        ),
      ),
    ))

-- the record of a node with a choice
abbrev pub child_row : Night → ℕ → NodeKind → NodeDuals → Choice → List (List ℕ)
child_row night depth kind own c = codes "node" ∷ decimal depth ∷ kind_text kind ∷ duals_text own ∷ decimal c.n ∷ dep_name night c.dep ∷ decimal c.q ∷ option_fields
    night.station c.park

small : (k : ℕ) → k ≤ 160 → decimal_of (decimal k) ≡ Some k
small k le = number_again k (omega (arith, le))

later_back : (n : ℕ) (night : Night) → IsOrderedNight night → (begun : ℕ) (last : Head) (depth : ℕ) (kind : NodeKind) (own : NodeDuals) (c : Choice)
    → begun < 5000 → 1 ≤ depth → depth ≤ 160 → depth ≤ deepest last → FitDuals night depth kind own → FitsChoice night c
    → answer n (later_in night begun last (child_row night depth kind own c)) ≡ Ok
    (record { depth = depth; choice = None; kind = kind; duals = word_of own }, record c { park = None })
unfolding later_in
later_back n night h begun last depth kind own c room some few deep is fits =
    let by = later_by begun last in
    let duals_by : NodeKind → ℕ → Option HeadDuals = λ k d. duals_of k d (duals_text own) in
    let k = kind_of (kind_text kind) in
    let u = decimal_of (decimal c.n) in
    let t = dep_of_name night (dep_name night c.dep) in
    let p = decimal_of (decimal c.q) in
    let units : c.n ≤ 160 = (let le = fits.few in omega (arith, le)) in
    let place : c.q ≤ 160 = (let le = fits.to in omega (arith, le)) in
    ap (λ b. answer n (by b (decimal_of (decimal depth)) k duals_by u t p)) (fields_fit night.station (codes "node") (decimal depth) (kind_text kind) (duals_text own) (decimal c.n)
    (dep_name night c.dep) (decimal c.q) c.park)
    ∙ ap (λ o. answer n (by true o k duals_by u t p)) (small depth few)
    ∙ ap (λ o. answer n (by true (Some depth) o duals_by u t p)) (kind_back kind)
    ∙ ap (λ o. answer n (by true (Some depth) (Some kind) duals_by o t p)) (small c.n units)
    ∙ ap (λ o. answer n (by true (Some depth) (Some kind) duals_by (Some c.n) o p)) (dep_there night c.dep h fits.dep)
    ∙ ap (λ o. answer n (by true (Some depth) (Some kind) duals_by (Some c.n) (Some c.dep) o)) (small c.q place)
    ∙ later_own n begun last depth kind duals_by (word_of own) c night room some few deep (duals_back night depth kind own is) fits

pub child_back : (n : ℕ) (night : Night) → IsOrderedNight night → (begun : ℕ) (last : Head) (depth : ℕ) (kind : NodeKind) (own : NodeDuals) (c : Choice)
    → begun < 5000 → 1 ≤ depth → depth ≤ 160 → depth ≤ deepest last → FitDuals night depth kind own → FitsChoice night c
    → answer n (child_in night begun last (child_row night depth kind own c)) ≡ Ok (record { depth = depth; choice = Some c; kind = kind; duals = word_of own })
unfolding child_in
child_back n night h begun last depth kind own c room some few deep is fits =
    let row = child_row night depth kind own c in
    let made : Head × Choice = (record { depth = depth; choice = None; kind = kind; duals = word_of own }, record c { park = None }) in
    part_ok n (later_in night begun last row) (λ node. option_in night.station row 8 >>= (λ park. says (with_choice node park))) made
    (later_back n night h begun last depth kind own c room some few deep is fits)
    ∙ part_ok n (option_in night.station row 8) (λ park. says (with_choice made park)) c.park
    (option_read n night.station (codes "node") (decimal depth) (kind_text kind) (duals_text own) (decimal c.n) (dep_name night c.dep) (decimal c.q) c.park h.station fits.track)
