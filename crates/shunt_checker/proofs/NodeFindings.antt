-- What is found of a node at its path: from rank to rank, and of each kind.
use Rattle.std.specs.Prelude.{◌≢◌, IsTrue, ◌↔◌, Bool, true, false, IfSome, IfNone, ◌≤ℤ◌, ◌<ℤ◌, Option, Some, None}
use Rattle.std.proofs.Common.{◌≡◌, ℕ, ◌<◌, ◌≤◌, List, ℤ, pos, sym, ap, subst, ◌∙◌, arith}
use Rattle.std.proofs.lemmas.Int.{ints}
use Rattle.shunt_base.specs.declared.duals.Case.{Case}
use Rattle.shunt_instance.specs.defs.Instance.{Night}
use Rattle.shunt_blocks.specs.declared.records.Shape.{Shape}
use Rattle.shunt_blocks.specs.declared.records.Block.{Block}
use Rattle.shunt_blocks.specs.defs.Lists.{total_cost}
use Rattle.shunt_choices.specs.defs.Paths.{Masks, masks_of, next_of}
use Rattle.shunt_choices.specs.defs.Choices.{Choice as PathChoice, chosen}
use Rattle.shunt_prices.specs.defs.Limits.{case_at}
use Rattle.shunt_prices.specs.defs.Cases.{weight, weight_with, duals_over}
use Rattle.shunt_proof.specs.declared.records.NodeKind.{NodeKind}
use Rattle.shunt_proof.specs.declared.records.NodeKind.TheVariants.{Branch, Leaf, Whole}
use Rattle.shunt_proof.specs.declared.records.Certificate.{Certificate}
use Rattle.shunt_proof.specs.defs.Nodes.{node_at}
use Rattle.shunt_proof.specs.defs.Trees.{path_at, duals_at}
use Rattle.shunt_proof.specs.defs.Versions.{IsBoundIn}
use Rattle.shunt_checker.specs.declared.verdict.Reason.{Reason}
use Rattle.shunt_checker.specs.declared.verdict.Reason.TheVariants as reason
use Rattle.shunt_checker.specs.declared.cases.Break.{Break}
use Rattle.shunt_checker.specs.defs.Firsts.{Finds}
use Rattle.shunt_checker.specs.defs.Breaks.{IsBreak, BreakBefore}
use Rattle.shunt_checker.specs.defs.NodeFaults.{IsOtherKind, IsBroken, IsLow, IsFirstNodeFault}
use Rattle.shunt_checker.specs.defs.NodeSteps.{NodeFrom, Judges}
use Rattle.shunt_checker.proofs.Looked.{against}
use Rattle.shunt_checker.proofs.NodeOrder.{from_next, none_kind, none_broken, none_low, none_missing, kind_first, broken_first, leaf_first, whole_first}

whole_leaf : (kind : NodeKind) → kind ≡ Whole → kind ≡ Leaf → ⊥
whole_leaf kind a b = let e : Whole ≡ Leaf = sym a ∙ b in cc

pub whole_branch : (kind : NodeKind) → kind ≡ Whole → kind ≡ Branch → ⊥
whole_branch kind a b = let e : Whole ≡ Branch = sym a ∙ b in cc

pub leaf_branch : (kind : NodeKind) → kind ≡ Leaf → kind ≡ Branch → ⊥
leaf_branch kind a b = let e : Leaf ≡ Branch = sym a ∙ b in cc

pub on_none : {X : Type 0} (r : Option X) (P : Type 0) → P → IfNone r P
on_none None P p = p
on_none (Some x) P p = tt

one_reason : (a b : Block) (w x s t : ℤ) → a ≡ b → w ≡ x → s ≡ t → reason.DualBroken a w s ≡ reason.DualBroken b x t
one_reason a b w x s t ea ew es = cc

-- what the block of a choice weighs
weight_at : (night : Night) (x y : Case) (b : Block) (d : PathChoice) (w : ℤ) → y ≡ x → b ≡ chosen 0 d → w ≡ weight night x b → w ≡ weight_with night y d.shape d.option
weight_at night x y b d w ec eb is = subst (λ (z : Case). w ≡ weight_with night z d.shape d.option) (sym ec) (subst (λ (a : Block). w ≡ weight night x a) eb is)

over_at : (night : Night) (x y : Case) (s : Shape) (z : ℤ) → y ≡ x → z ≡ duals_over night x.duals s → z ≡ duals_over night y.duals s
over_at night x y s z ec is = subst (λ (w : Case). z ≡ duals_over night w.duals s) (sym ec) is

-- what is told of a break
module _ (night : Night) (cases : List Case) (found : Break) where
  abbrev told_of : ℕ → PathChoice → Reason
  told_of m d = reason.DualBroken (chosen 0 d) (weight_with night (case_at cases m) d.shape d.option) (duals_over night (case_at cases m).duals d.shape)

  pub told_is : (m : ℕ) (d : PathChoice) (x : Case) (b : Block) (s : Shape) (w z : ℤ) → m ≡ found.case → d ≡ found.offer → case_at cases m ≡ x → b ≡ chosen 0 d → s ≡ d.shape
      → w ≡ weight night x b → z ≡ duals_over night x.duals s
      → reason.DualBroken b w z ≡ reason.DualBroken (chosen 0 found.offer) (weight_with night (case_at cases found.case) found.offer.shape found.offer.option)
      (duals_over night (case_at cases found.case).duals found.offer.shape)
  told_is m d x b s w z em ed ex eb es ew ez =
      one_reason b (chosen 0 d) w (weight_with night (case_at cases m) d.shape d.option) z (duals_over night (case_at cases m).duals d.shape) eb
      (weight_at night x (case_at cases m) b d w ex eb ew)
      (over_at night x (case_at cases m) d.shape z ex (subst (λ (t : Shape). z ≡ duals_over night x.duals t) es ez))
      ∙ (ap (λ (n : ℕ). told_of n d) em ∙ ap (λ (o : PathChoice). told_of found.case o) ed)

module _ (night : Night) (c : Certificate) (k : ℕ) (path : List Block) where
  pub told : (a b d : ℕ) (r : Option Reason) (s : Reason) → r ≡ Some s → Judges night c k path a b r → Judges night c k path a d (Some s)
  told a b d r s e h = subst (Judges night c k path a b) e h

  pub joined : (a b d : ℕ) (r q : Option Reason) → r ≡ None → Judges night c k path a b r → Judges night c k path b d q → Judges night c k path a d q
  joined a b d r q e first next =
      let none : Judges night c k path a b None = subst (Judges night c k path a b) e first in
      λ start is from. next start is (none start is from)

  -- ---- the kind

  module _ (b : Bool) (kind : NodeKind) (next : Option ℕ) (covered : Masks) (test : IsTrue b ↔ IsOtherKind kind next) (ek : kind ≡ (node_at c.nodes k).kind)
      (en : next ≡ next_of covered) (ec : covered ≡ masks_of night path) where
    next_at : (start : List Block) → path ≡ path_at night start c.nodes k → next ≡ next_of (masks_of night (path_at night start c.nodes k))
    next_at start is = en ∙ (ap (λ (m : Masks). next_of m) ec ∙ ap (λ (p : List Block). next_of (masks_of night p)) is)

    pub kind_wrong : b ≡ true → Judges night c k path 4 5 (Some reason.WrongKind)
    kind_wrong t = λ start is from. kind_first night start c k from
        (subst (λ (w : NodeKind). IsOtherKind w (next_of (masks_of night (path_at night start c.nodes k)))) ek
        (subst (λ (o : Option ℕ). IsOtherKind kind o) (next_at start is) (test.0 t)))

    pub kind_right : b ≡ false → Judges night c k path 4 5 None
    kind_right f = λ start is from. from_next night start c k 4 from (none_kind night start c k (λ h. against b (IsOtherKind kind next) test f
        (subst (λ (o : Option ℕ). IsOtherKind kind o) (sym (next_at start is)) (subst (λ (w : NodeKind). IsOtherKind w (next_of (masks_of night (path_at night start c.nodes k))))
        (sym ek) h))))

  -- ---- the duals

  module _ (cases : List Case) (ed : cases ≡ duals_at c.nodes k) where
    here : (start : List Block) → path ≡ path_at night start c.nodes k → (m : ℕ) (d : PathChoice)
        → IsBroken c.version night (path_at night start c.nodes k) (duals_at c.nodes k) m d → IsBroken c.version night path cases m d
    here start is m d h = subst (λ (p : List Block). IsBroken c.version night p cases m d) (sym is)
        (subst (λ (cs : List Case). IsBroken c.version night (path_at night start c.nodes k) cs m d) (sym ed) h)

    there : (start : List Block) → path ≡ path_at night start c.nodes k → (m : ℕ) (d : PathChoice) → IsBroken c.version night path cases m d
        → IsBroken c.version night (path_at night start c.nodes k) (duals_at c.nodes k) m d
    there start is m d h = subst (λ (cs : List Case). IsBroken c.version night (path_at night start c.nodes k) cs m d) ed
        (subst (λ (p : List Block). IsBroken c.version night p cases m d) is h)

    module _ (covered : Masks) (ec : covered ≡ masks_of night path) (r : Option Break) (found : Finds (IsBreak c.version night covered cases) (BreakBefore night) r) where
      as_break : (m : ℕ) (d : PathChoice) → IsBroken c.version night path cases m d → IsBreak c.version night covered cases (record { case = m; offer = d })
      as_break m d h = subst (λ (w : Masks). IsBreak c.version night w cases (record { case = m; offer = d })) (sym ec)
          (record { there = h.case; light = record { shape = h.free.shape; holds = record { option = h.free.option; room = h.room; asked = h.asked; light = h.light } } })

      as_broken : (b : Break) → IsBreak c.version night covered cases b → IsBroken c.version night path cases b.case b.offer
      as_broken b h =
          let at : IsBreak c.version night (masks_of night path) cases b = subst (λ (w : Masks). IsBreak c.version night w cases b) ec h in
          record {
            case = at.there;
            free = record { shape = at.light.shape; option = at.light.holds.option };
            room = at.light.holds.room;
            asked = at.light.holds.asked;
            light =
                at.light.holds.light;
          }

      pub unbroken : r ≡ None → Judges night c k path 5 6 None
      unbroken e =
          let none : Finds (IsBreak c.version night covered cases) (BreakBefore night) None = subst (Finds (IsBreak c.version night covered cases) (BreakBefore night)) e found in
          λ start is from. from_next night start c k 5 from (none_broken night start c k (λ kind m d h. none (record { case = m; offer = d }) (as_break m d (here start is m d h))))

      pub is_break : (b : Break) → r ≡ Some b → IsBreak c.version night covered cases b
      is_break b e =
          let first : Finds (IsBreak c.version night covered cases) (BreakBefore night) (Some b) = subst
          (Finds (IsBreak c.version night covered cases) (BreakBefore night)) e found in
          first.is

      pub broke : (node_at c.nodes k).kind ≢ Whole → (b : Break) (s : Reason) → r ≡ Some b
          → s ≡ reason.DualBroken (chosen 0 b.offer) (weight_with night (case_at cases b.case) b.offer.shape b.offer.option)
          (duals_over night (case_at cases b.case).duals b.offer.shape)
          → Judges night c k path 5 6 (Some s)
      broke kind b s e es =
          let first : Finds (IsBreak c.version night covered cases) (BreakBefore night) (Some b) = subst
          (Finds (IsBreak c.version night covered cases) (BreakBefore night)) e found in
          let told_here : s ≡ reason.DualBroken (chosen 0 b.offer) (weight_with night (case_at (duals_at c.nodes k) b.case) b.offer.shape b.offer.option)
          (duals_over night (case_at (duals_at c.nodes k) b.case).duals b.offer.shape) =
          es ∙ ap (λ (cs : List Case). reason.DualBroken (chosen 0 b.offer) (weight_with night (case_at cs b.case) b.offer.shape b.offer.option)
          (duals_over night (case_at cs b.case).duals b.offer.shape)) ed in
          λ start is from. subst (IsFirstNodeFault night start c k) (sym told_here)
          (broken_first night start c k from kind b.case b.offer (there start is b.case b.offer (as_broken b first.is))
          (λ n d h before. first.first (record { case = n; offer = d }) (as_break n d (here start is n d h)) before))

    -- ---- a leaf

    module _ (bound : ℤ) (at : IsBoundIn c.version night path cases bound)
        (one : (p : List Block) (cs : List Case) (x y : ℤ) → IsBoundIn c.version night p cs x → IsBoundIn c.version night p cs y → x ≡ y)
        (kind : (node_at c.nodes k).kind ≡ Leaf) where
      moved : (start : List Block) → path ≡ path_at night start c.nodes k → IsBoundIn c.version night (path_at night start c.nodes k) (duals_at c.nodes k) bound
      moved start is = subst (λ (cs : List Case). IsBoundIn c.version night (path_at night start c.nodes k) cs bound) ed
          (subst (λ (p : List Block). IsBoundIn c.version night p cases bound) is at)

      not_low : (start : List Block) → path ≡ path_at night start c.nodes k → pos c.bound ≤ℤ bound → (b : ℤ)
          → IsLow c.version night (path_at night start c.nodes k) (duals_at c.nodes k) c.bound b → ⊥
      not_low start is high b h =
          let same : bound ≡ b = one (path_at night start c.nodes k) (duals_at c.nodes k) bound b (moved start is) h.is in
          let lt : b <ℤ pos c.bound = h.low in
          omega (arith, ints, high, same, lt)

      pub leaf_judged : (r : Option Reason) → IfSome r (λ s. (bound <ℤ pos c.bound) × (s ≡ reason.LeafLow bound (pos c.bound))) → IfNone r (pos c.bound ≤ℤ bound)
          → Judges night c k path 6 8 r
      leaf_judged None some none = λ start is from. from_next night start c k 7
          (from_next night start c k 6 from (none_low night start c k (λ e b h. not_low start is none b h) (λ e low. whole_leaf (node_at c.nodes k).kind e kind)))
          (none_missing night start c k (λ e d b h. leaf_branch (node_at c.nodes k).kind kind e))
      leaf_judged (Some s) some none = λ start is from. subst (IsFirstNodeFault night start c k) (sym some.1)
          (leaf_first night start c k from kind bound (record { is = moved start is; low = some.0 }))

  -- ---- a whole path

  module _ (cost : ℕ) (is_cost : cost ≡ total_cost night path) (kind : (node_at c.nodes k).kind ≡ Whole) where
    cost_at : (start : List Block) → path ≡ path_at night start c.nodes k → cost ≡ total_cost night (path_at night start c.nodes k)
    cost_at start is = is_cost ∙ ap (λ (p : List Block). total_cost night p) is

    from_six : (start : List Block) → NodeFrom night start c k 5 → NodeFrom night start c k 6
    from_six start from = from_next night start c k 5 from (none_broken night start c k (λ other m d h. absurd (other kind)))

    pub whole_judged : (r : Option Reason) → IfSome r (λ s. (cost < c.bound) × (s ≡ reason.WholeLow (pos cost) (pos c.bound))) → IfNone r (c.bound ≤ cost)
        → Judges night c k path 5 8 r
    whole_judged None some none = λ start is from. from_next night start c k 7
        (from_next night start c k 6 (from_six start from) (none_low night start c k (λ e b h. whole_leaf (node_at c.nodes k).kind kind e)
        (λ e low. let at = cost_at start is in omega (arith, none, low, at))))
        (none_missing night start c k (λ e d b h. whole_branch (node_at c.nodes k).kind kind e))
    whole_judged (Some s) some none = λ start is from. subst (IsFirstNodeFault night start c k)
        (sym (some.1 ∙ ap (λ (n : ℕ). reason.WholeLow (pos n) (pos c.bound)) (cost_at start is)))
        (whole_first night start c k (from_six start from) kind (subst (λ (n : ℕ). n < c.bound) (cost_at start is) some.0))
