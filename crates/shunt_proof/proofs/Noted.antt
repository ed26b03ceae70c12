-- A node that is appended: its path, its duals and where it is placed; and a choice is listed where a node has its path.
use Rattle.std.specs.Prelude.{◌<ℤ◌, ◌≢◌, take, map, Option, Some}
use Rattle.std.proofs.Common.{◌≡◌, ℕ, suc, ◌+◌, ◌-◌, ◌<◌, ◌≤◌, List, [], ◌∷◌, ◌++◌, length, ℤ, pos, sym, ap, subst, ◌∙◌, arith, length-append}
use Rattle.shunt_base.specs.declared.duals.Case.{Case}
use Rattle.shunt_instance.specs.defs.Instance.{Night, IsInstance}
use Rattle.shunt_blocks.specs.declared.records.Block.{Block}
use Rattle.shunt_blocks.specs.defs.Lists.{RunsThrough, placed, total_cost}
use Rattle.shunt_blocks.specs.defs.Pins.{without_id}
use Rattle.shunt_choices.specs.defs.Choices.{Choice as PathChoice, IsChoiceAt, longer_by}
use Rattle.shunt_proof.specs.declared.records.Choice.{Choice}
use Rattle.shunt_proof.specs.declared.records.Node.{Node}
use Rattle.shunt_proof.specs.declared.records.Version.{Version}
use Rattle.shunt_proof.specs.declared.records.Version.TheVariants.{Prices}
use Rattle.shunt_proof.specs.defs.Nodes.{node_at, AreNodes}
use Rattle.shunt_proof.specs.defs.Trees.{depth_at, nearest, parent, IsChildOf, choice_from, stated_choice, longer_with, path_at, cases_or, duals_at, best_with, best_before}
use Rattle.shunt_proof.specs.defs.Versions.{IsStepBoundIn}
use Rattle.shunt_proof.specs.defs.Accepted.{IsLeanIn, IsLeanAt}
use Rattle.shunt_prices.specs.defs.Bounds.{IsCasesBound}
use Rattle.shunt_proof.specs.defs.Proves.{IsListed, IsPlaced}
use Rattle.shunt_proof.proofs.Depths.{above, parent_found, its_child, child_path, child_duals}
use Rattle.shunt_proof.proofs.Fronts.{depth_front, path_front, duals_front, best_front, node_last}
use Rattle.shunt_proof.proofs.Ancestors.{front_path, path_size, not_root}
use Rattle.shunt_proof.proofs.LongerLists.{front_nodes, last_parent}
use Rattle.shunt_proof.proofs.Few.{CountLaws, length_longer, one_path, longer}

-- ---- the node that is appended

module _ (night : Night) (nodes : List Node) (n : Node) (h : AreNodes night (nodes ++ n ∷ [])) (some : 1 ≤ length nodes) where
  there : length nodes < length (nodes ++ n ∷ [])
  there = omega (arith, length-append nodes (n ∷ []))

  own_depth : depth_at (nodes ++ n ∷ []) (length nodes) ≡ n.depth
  own_depth = ap (λ (m : Node). m.depth) (node_last nodes n)

  -- its parent is one of the nodes before it
  pub parent_in : nearest nodes (n.depth - 1) (length nodes) < length nodes
  parent_in = let f = parent_found night (nodes ++ n ∷ []) h (length nodes) some there in omega (arith, f.before, last_parent nodes n)

  shallow : n.depth - 1 ≤ depth_at nodes (length nodes - 1)
  shallow =
      let k = length nodes - 1 in
      let at : k + 1 ≡ length nodes = omega (arith, some) in
      let below : depth_at (nodes ++ n ∷ []) (k + 1) ≤ depth_at (nodes ++ n ∷ []) k + 1 = (h.follow k (omega (arith, at, there))).most in
      omega (arith, below, ap (depth_at (nodes ++ n ∷ [])) at, own_depth, depth_front nodes (n ∷ []) k (omega (arith, some)))

  module _ (start : List Block) where
    abbrev pub above_last : List Block
    above_last = take (length start + (n.depth - 1)) (path_at night start nodes (length nodes - 1))

    -- its parent's path is a front of the path of the node before it
    pub parent_path : path_at night start (nodes ++ n ∷ []) (parent (nodes ++ n ∷ []) (length nodes)) ≡ above_last
    parent_path =
        let k = length nodes - 1 in
        let at : suc k ≡ length nodes = omega (arith, some) in
        ap (path_at night start (nodes ++ n ∷ [])) (last_parent nodes n)
        ∙ path_front nodes (n ∷ []) night start (nearest nodes (n.depth - 1) (length nodes)) parent_in
        ∙ ap (λ (j : ℕ). path_at night start nodes (nearest nodes (n.depth - 1) j)) (sym at)
        ∙ front_path night nodes (front_nodes nodes (n ∷ []) night h) start (n.depth - 1) k (omega (arith, some)) shallow

    pub last_path : path_at night start (nodes ++ n ∷ []) (length nodes) ≡ longer_with night above_last n.choice
    last_path =
        child_path night (nodes ++ n ∷ []) h start (length nodes) some there
        ∙ ap (λ (m : Node). longer_with night (path_at night start (nodes ++ n ∷ []) (parent (nodes ++ n ∷ []) (length nodes))) m.choice) (node_last nodes n)
        ∙ ap (λ (p : List Block). longer_with night p n.choice) parent_path

  pub last_duals : duals_at (nodes ++ n ∷ []) (length nodes) ≡ cases_or n.duals (duals_at nodes (nearest nodes (n.depth - 1) (length nodes)))
  last_duals =
      child_duals night (nodes ++ n ∷ []) h (length nodes) some there
      ∙ ap (λ (m : Node). cases_or m.duals (duals_at (nodes ++ n ∷ []) (parent (nodes ++ n ∷ []) (length nodes)))) (node_last nodes n)
      ∙ ap (λ (j : ℕ). cases_or n.duals (duals_at (nodes ++ n ∷ []) j)) (last_parent nodes n)
      ∙ ap (λ (cs : List Case). cases_or n.duals cs) (duals_front nodes (n ∷ []) (nearest nodes (n.depth - 1) (length nodes)) parent_in)

-- the best cost after it
pub last_best : (night : Night) (start : List Block) (nodes : List Node) (n : Node)
    → best_before night start (nodes ++ n ∷ []) (suc (length nodes)) ≡ best_with n.kind (total_cost night (path_at night start (nodes ++ n ∷ []) (length nodes)))
    (best_before night start nodes (length nodes))
last_best night start nodes n =
    ap (λ (m : Node). best_with m.kind (total_cost night (path_at night start (nodes ++ n ∷ []) (length nodes))) (best_before night start (nodes ++ n ∷ []) (length nodes)))
    (node_last nodes n)
    ∙ ap (λ (b : ℕ). best_with n.kind (total_cost night (path_at night start (nodes ++ n ∷ []) (length nodes))) b)
    (best_front nodes (n ∷ []) night start (length nodes) (omega arith))

-- it is lean where the bound of its path by its parent's duals is below the best cost before it
pub last_leans : (version : Version) (night : Night) (start : List Block) (nodes : List Node) (n : Node) (bound : ℤ) → AreNodes night (nodes ++ n ∷ []) → 1 ≤ length nodes
    → IsStepBoundIn version night (take (length start + (n.depth - 1)) (path_at night start nodes (length nodes - 1))) (path_at night start (nodes ++ n ∷ []) (length nodes))
    (duals_at nodes (nearest nodes (n.depth - 1) (length nodes))) bound
    → bound <ℤ pos (best_before night start nodes (length nodes)) → IsLeanIn version night start (nodes ++ n ∷ []) (length nodes)
last_leans version night start nodes n bound h some is below =
    let own = path_at night start (nodes ++ n ∷ []) (length nodes) in
    let same : duals_at (nodes ++ n ∷ []) (parent (nodes ++ n ∷ []) (length nodes)) ≡ duals_at nodes (nearest nodes (n.depth - 1) (length nodes)) =
    ap (duals_at (nodes ++ n ∷ [])) (last_parent nodes n) ∙ duals_front nodes (n ∷ []) (nearest nodes (n.depth - 1) (length nodes)) (parent_in night nodes n h some) in
    record {
      bound = bound;
      is =
          subst (λ (p : List Block). IsStepBoundIn version night p own (duals_at (nodes ++ n ∷ []) (parent (nodes ++ n ∷ []) (length nodes))) bound)
          (sym (parent_path night nodes n h some start))
          (subst (λ (cs : List Case). IsStepBoundIn version night (above_last night nodes n h some start) own cs bound) (sym same) is);
      below = subst (λ (b : ℕ). bound <ℤ pos b) (sym (best_front nodes (n ∷ []) night start (length nodes) (omega arith))) below;
    }

pub last_lean : (night : Night) (start : List Block) (nodes : List Node) (n : Node) (bound : ℤ) → AreNodes night (nodes ++ n ∷ []) → 1 ≤ length nodes
    → IsCasesBound night (path_at night start (nodes ++ n ∷ []) (length nodes)) (duals_at nodes (nearest nodes (n.depth - 1) (length nodes))) bound
    → bound <ℤ pos (best_before night start nodes (length nodes))
    → IsLeanAt night start (nodes ++ n ∷ []) (length nodes)
last_lean night start nodes n bound h some is below = last_leans Prices night start nodes n bound h some is below

-- ---- nodes that are known by their paths

-- a node is placed where no earlier one has its path
pub new_path : (night : Night) (start : List Block) (nodes : List Node) (k : ℕ) (c : Choice) → AreNodes night nodes → 1 ≤ k → k < length nodes → (node_at nodes k).choice ≡ Some c
    → IsChoiceAt night (path_at night start nodes (parent nodes k)) (choice_from night (path_at night start nodes (parent nodes k)) c)
    → RunsThrough night (placed (path_at night start nodes k))
    → ((j : ℕ) → j < k → path_at night start nodes j ≢ path_at night start nodes k) → IsPlaced night start nodes k
new_path night start nodes k c h some lt is there through new = record {
  choice = c;
  is = is;
  there = there;
  through = through;
  once = λ j less child same.
      let first : 1 ≤ j = not_root night nodes h j (depth_at nodes (parent nodes k)) child.there (omega (arith, child.depth)) in
      new j less (
      child_path night nodes h start j first child.there
      ∙ ap (λ (p : ℕ). longer_with night (path_at night start nodes p) (node_at nodes j).choice) child.parent
      ∙ ap (λ (o : Option Choice). longer_with night (path_at night start nodes (parent nodes k)) o) (same ∙ sym is)
      ∙ sym (child_path night nodes h start k some lt));
}

-- the node that is appended is placed where no node before it has its path
pub last_placed : (night : Night) (start : List Block) (nodes : List Node) (n : Node) (c : Choice) (path : List Block) → AreNodes night (nodes ++ n ∷ []) → 1 ≤ length nodes
    → n.choice ≡ Some c
    → path ≡ take (length start + (n.depth - 1)) (path_at night start nodes (length nodes - 1)) → IsChoiceAt night path (choice_from night path c)
    → RunsThrough night (placed (longer_by path (choice_from night path c)))
    → ((j : ℕ) → j < length nodes → path_at night start nodes j ≢ longer_by path (choice_from night path c)) → IsPlaced night start (nodes ++ n ∷ []) (length nodes)
last_placed night start nodes n c path h some is up at through new =
    let here : path ≡ path_at night start (nodes ++ n ∷ []) (parent (nodes ++ n ∷ []) (length nodes)) = up ∙ sym (parent_path night nodes n h some start) in
    let own : path_at night start (nodes ++ n ∷ []) (length nodes) ≡ longer_by path (choice_from night path c) =
    last_path night nodes n h some start ∙ ap (λ (p : List Block). longer_with night p n.choice) (sym up) ∙ ap (longer_with night path) is in
    new_path night start (nodes ++ n ∷ []) (length nodes) c h some (there night nodes n h some) (ap (λ (m : Node). m.choice) (node_last nodes n) ∙ is)
    (subst (λ (p : List Block). IsChoiceAt night p (choice_from night p c)) here at)
    (subst (λ (p : List Block). RunsThrough night (placed p)) (sym own) through)
    (λ j less same. new j less (sym (path_front nodes (n ∷ []) night start j less) ∙ same ∙ own))

-- a choice is listed where a node has the path with it
pub known_listed : (laws : CountLaws) (night : Night) (i : IsInstance night) (start : List Block) (nodes : List Node) (h : AreNodes night nodes) (all : (k : ℕ) → 1 ≤ k
    → k < length nodes → IsPlaced night start nodes k)
    (k j : ℕ) (c : PathChoice) → k < length nodes → j < length nodes → path_at night start nodes j ≡ longer_by (path_at night start nodes k) c → IsListed night start nodes k c
known_listed laws night i start nodes h all k j c lk lj same =
    let size : 1 ≤ depth_at nodes j = omega (
      arith,
      path_size night nodes h start j lj,
      path_size night nodes h start k lk,
      ap length same,
      length_longer (path_at night start nodes k) c,
    ) in
    let some : 1 ≤ j = deeper size in
    let p = parent nodes j in
    let own = choice_from night (path_at night start nodes p) (all j some lj).choice in
    let two = laws.once (path_at night start nodes p) (path_at night start nodes k) own c (ap (map without_id) (sym (longer laws night i start nodes h all j some lj) ∙ same)) in
    let up : p ≡ k = one_path laws night i start nodes h all p k (omega (arith, (parent_found night nodes h j some lj).before, lj)) lk two.0 in
    record {
      child = j;
      below = subst (λ (q : ℕ). IsChildOf nodes q j) up (its_child night nodes h j some lj);
      states =
          ap (stated_choice night (path_at night start nodes k)) (all j some lj).is
          ∙ ap (λ (q : ℕ). Some (choice_from night (path_at night start nodes q) (all j some lj).choice)) (sym up)
          ∙ ap Some two.1;
    }
  where
    deeper : 1 ≤ depth_at nodes j → 1 ≤ j
    deeper size = let d = above night nodes h (depth_at nodes j) size in not_root night nodes h j d.0 lj d.1
