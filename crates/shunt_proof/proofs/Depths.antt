-- Each node but the root has a parent, a branch that stands before it; so its path and its duals come from its parent's.
use Rattle.std.specs.Prelude.{◌≢◌, ◌==◌, cond, Option, Some, None}
use Rattle.std.proofs.Common.{◌≡◌, ⊎_elim, ℕ, zero, suc, ◌+◌, ◌-◌, ◌<◌, ◌≤◌, Bool, true, false, List, [], length, refl, sym, ap, subst, ◌∙◌, arith}
use Rattle.std.proofs.Math.Arith.{lt_of_le-ne}
use Rattle.std.proofs.lemmas.Bool.{cases_eq, eqb-true, eq-eqb}
use Rattle.shunt_base.specs.declared.duals.Case.{Case}
use Rattle.shunt_instance.specs.defs.Instance.{Night}
use Rattle.shunt_blocks.specs.declared.records.Block.{Block}
use Rattle.shunt_prices.specs.defs.Limits.{AreCases}
use Rattle.shunt_proof.specs.declared.records.Choice.{Choice}
use Rattle.shunt_proof.specs.declared.records.NodeKind.{NodeKind}
use Rattle.shunt_proof.specs.declared.records.NodeKind.TheVariants.{Branch, Leaf, Whole}
use Rattle.shunt_proof.specs.declared.records.NodeDuals.{NodeDuals}
use Rattle.shunt_proof.specs.declared.records.NodeDuals.TheVariants.{Same, New, Bare}
use Rattle.shunt_proof.specs.declared.records.Node.{Node}
use Rattle.shunt_proof.specs.defs.Nodes.{node_at, FitsChoice, FitsDepth, FitDuals, FitsNode, Follows, AreNodes}
use Rattle.shunt_proof.specs.defs.Trees.{depth_at, nearest, parent, IsChildOf, longer_with, path_down, path_at, cases_or, duals_down, duals_at}

-- ---- kinds

-- not whole
abbrev Goes : NodeKind → Type 0
Goes Whole = ⊥
Goes Branch = Unit {0}
Goes Leaf = Unit {0}

pub branch_goes : (kind : NodeKind) → kind ≡ Branch → kind ≢ Whole
branch_goes kind e w = subst Goes (sym e ∙ w) tt

pub leaf_goes : Leaf ≢ Whole
leaf_goes w = subst Goes w tt

-- ---- the nearest node of a depth

-- the last node of a depth before a number is a branch
pub record IsFound (nodes : List Node) (wanted k j : ℕ) : Type 0 where
  pub before : j < k
  pub depth : depth_at nodes j ≡ wanted
  pub branch : (node_at nodes j).kind ≡ Branch

pub nearest_here : (nodes : List Node) (depth k : ℕ) → depth_at nodes k ≡ depth → nearest nodes depth (suc k) ≡ k
nearest_here nodes depth k e = ap {B = ℕ} (λ b. cond b k (nearest nodes depth k)) (eq-eqb (depth_at nodes k) depth e)

pub nearest_before : (nodes : List Node) (depth k : ℕ) → (depth_at nodes k ≡ depth → ⊥) → nearest nodes depth (suc k) ≡ nearest nodes depth k
nearest_before nodes depth k other = at (depth_at nodes k == depth) refl
  where
    at : (b : Bool) → (depth_at nodes k == depth) ≡ b → cond b k (nearest nodes depth k) ≡ nearest nodes depth k
    at true e = absurd (other (eqb-true (depth_at nodes k) depth e))
    at false e = refl

pub nearest_low : (nodes : List Node) (depth k : ℕ) → nearest nodes depth k ≤ k
nearest_low nodes depth zero = omega arith
nearest_low nodes depth (suc k) = ⊎_elim
    (λ e. omega (arith, nearest_here nodes depth k e))
    (λ other. omega (arith, nearest_before nodes depth k other, nearest_low nodes depth k))
    (cases_eq (depth_at nodes k) depth)

module _ (night : Night) (nodes : List Node) (h : AreNodes night nodes) where
  fits : (k : ℕ) → k < length nodes → FitsNode night (node_at nodes k)
  fits k lt = h.each k _ lt

  root_depth : 0 < length nodes → depth_at nodes 0 ≡ 0
  root_depth lt = h.root lt

  pub follows : (k : ℕ) → suc k < length nodes → Follows (node_at nodes k) (node_at nodes (suc k))
  follows k lt = let e : k + 1 ≡ suc k = omega arith in subst (λ (i : ℕ). Follows (node_at nodes k) (node_at nodes i)) e (h.follow k (omega (arith, lt)))

  pub found : (k : ℕ) → k < length nodes → (depth : ℕ) → depth < depth_at nodes k → IsFound nodes depth k (nearest nodes depth k)
  found zero lt depth low = absurd (omega (arith, low, root_depth lt))
  found (suc k) lt depth low =
      let f = follows k lt in
      ⊎_elim
      (λ e. subst (IsFound nodes depth (suc k)) (sym (nearest_here nodes depth k e))
      (record { before = omega arith; depth = e; branch = f.branch (omega (arith, f.most, low, e)) }))
      (λ other. let up = found k (omega (arith, lt)) depth (lt_of_le-ne (omega (arith, f.most, low)) (λ e. other (sym e))) in
      subst (IsFound nodes depth (suc k)) (sym (nearest_before nodes depth k other)) (record { before = omega (arith, up.before); depth = up.depth; branch = up.branch }))
      (cases_eq (depth_at nodes k) depth)

  -- ---- what comes from the parent

  pub deep : (k : ℕ) → 1 ≤ k → k < length nodes → 1 ≤ depth_at nodes k
  deep zero some lt = absurd (omega (arith, some))
  deep (suc k) some lt = (follows k lt).some

  -- one less, of what is at least 1
  pub above : (d : ℕ) → 1 ≤ d → (e : ℕ) × (d ≡ suc e)
  above zero some = absurd (omega (arith, some))
  above (suc e) some = (e, refl)

  pub parent_is : (k e : ℕ) → depth_at nodes k ≡ suc e → parent nodes k ≡ nearest nodes e k
  parent_is k e is = let less : depth_at nodes k - 1 ≡ e = omega (arith, is) in ap (λ (d : ℕ). nearest nodes d k) less

  pub parent_found : (k : ℕ) → 1 ≤ k → k < length nodes → IsFound nodes (depth_at nodes k - 1) k (parent nodes k)
  parent_found k some lt = found k lt (depth_at nodes k - 1) (omega (arith, deep k some lt))

  pub its_child : (k : ℕ) → 1 ≤ k → k < length nodes → IsChildOf nodes (parent nodes k) k
  its_child k some lt = record { there = lt; depth = omega (arith, (parent_found k some lt).depth, deep k some lt); parent = refl }

  pub child_later : (k j : ℕ) → IsChildOf nodes k j → k < j
  child_later k j c = let f = found j c.there (depth_at nodes j - 1) (omega (arith, c.depth)) in omega (arith, f.before, c.parent)

  module _ (start : List Block) where
    path_from : (k e : ℕ) → k < length nodes → depth_at nodes k ≡ suc e → path_at night start nodes k
        ≡ longer_with night (path_at night start nodes (parent nodes k)) (node_at nodes k).choice
    path_from k e lt is =
        let f = found k lt e (omega (arith, is)) in
        let up : path_at night start nodes (parent nodes k) ≡ path_down night start nodes e (nearest nodes e k) = ap (path_at night start nodes) (parent_is k e is)
        ∙ ap (λ (d : ℕ). path_down night start nodes d (nearest nodes e k)) f.depth in
        let down : path_at night start nodes k ≡ path_down night start nodes (suc e) k = ap (λ (d : ℕ). path_down night start nodes d k) is in
        down ∙ ap (λ (p : List Block). longer_with night p (node_at nodes k).choice) (sym up)

    -- the path of a node is its parent's with its choice
    pub child_path : (k : ℕ) → 1 ≤ k → k < length nodes → path_at night start nodes k ≡ longer_with night (path_at night start nodes (parent nodes k)) (node_at nodes k).choice
    child_path k some lt = let d = above (depth_at nodes k) (deep k some lt) in path_from k d.0 lt d.1

    pub root_path : 0 < length nodes → path_at night start nodes 0 ≡ start
    root_path lt = ap (λ (d : ℕ). path_down night start nodes d 0) (root_depth lt)

  duals_from : (k e : ℕ) → k < length nodes → depth_at nodes k ≡ suc e → duals_at nodes k ≡ cases_or (node_at nodes k).duals (duals_at nodes (parent nodes k))
  duals_from k e lt is =
      let f = found k lt e (omega (arith, is)) in
      let up : duals_at nodes (parent nodes k) ≡ duals_down nodes e (nearest nodes e k) = ap (duals_at nodes) (parent_is k e is)
      ∙ ap (λ (d : ℕ). duals_down nodes d (nearest nodes e k)) f.depth in
      let down : duals_at nodes k ≡ duals_down nodes (suc e) k = ap (λ (d : ℕ). duals_down nodes d k) is in
      down ∙ ap (λ (cs : List Case). cases_or (node_at nodes k).duals cs) (sym up)

  -- the cases of a node are its own or its parent's
  pub child_duals : (k : ℕ) → 1 ≤ k → k < length nodes → duals_at nodes k ≡ cases_or (node_at nodes k).duals (duals_at nodes (parent nodes k))
  child_duals k some lt = let d = above (depth_at nodes k) (deep k some lt) in duals_from k d.0 lt d.1

  pub root_duals : 0 < length nodes → duals_at nodes 0 ≡ cases_or (node_at nodes 0).duals []
  root_duals lt = ap (λ (d : ℕ). duals_down nodes d 0) (root_depth lt)

  -- ---- and they are cases

  own_cases : (depth : ℕ) (kind : NodeKind) (duals : NodeDuals) (cases : List Case) → FitDuals night depth kind duals → kind ≢ Whole → (1 ≤ depth → AreCases night cases)
      → AreCases night (cases_or duals cases)
  own_cases depth kind Same cases f other up = up f.1
  own_cases depth kind (New own) cases f other up = f.1.within
  own_cases depth kind Bare cases f other up = absurd (other f)

  cases_down : (depth k : ℕ) → k < length nodes → depth_at nodes k ≡ depth → (node_at nodes k).kind ≢ Whole → AreCases night (duals_down nodes depth k)
  cases_down zero k lt is other = own_cases (depth_at nodes k) (node_at nodes k).kind (node_at nodes k).duals [] (fits k lt).duals other (λ some. absurd (omega (arith, some, is)))
  cases_down (suc depth) k lt is other =
      let f = found k lt depth (omega (arith, is)) in
      own_cases (depth_at nodes k) (node_at nodes k).kind (node_at nodes k).duals (duals_down nodes depth (nearest nodes depth k)) (fits k lt).duals other
      (λ some. cases_down depth (nearest nodes depth k) (omega (arith, lt, f.before)) f.depth (branch_goes _ f.branch))

  pub cases_there : (k : ℕ) → k < length nodes → (node_at nodes k).kind ≢ Whole → AreCases night (duals_at nodes k)
  cases_there k lt other = cases_down (depth_at nodes k) k lt refl other

  -- ---- choices are there

  chosen_one : (depth : ℕ) (choice : Option Choice) → FitsDepth night depth choice → 1 ≤ depth → (c : Choice) × (choice ≡ Some c) × FitsChoice night c
  chosen_one depth None f some = absurd (omega (arith, some, f))
  chosen_one depth (Some c) f some = (c, refl, f.1)

  pub child_choice : (k : ℕ) → 1 ≤ k → k < length nodes → (c : Choice) × ((node_at nodes k).choice ≡ Some c) × FitsChoice night c
  child_choice k some lt = chosen_one (depth_at nodes k) (node_at nodes k).choice (fits k lt).choice (deep k some lt)
