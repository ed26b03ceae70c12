-- The children of a node are the nodes one deeper that come before the next one that is no deeper than it.
use Rattle.std.proofs.Common.{◌≡◌, ⊎_elim, ℕ, zero, suc, ◌+◌, ◌-◌, ◌<◌, List, length, sym, subst, ◌∙◌, arith}
use Rattle.std.proofs.Math.Arith.{lt_of_le-ne}
use Rattle.std.proofs.lemmas.Bool.{cases_eq}
use Rattle.shunt_instance.specs.defs.Instance.{Night}
use Rattle.shunt_proof.specs.declared.records.Node.{Node}
use Rattle.shunt_proof.specs.defs.Nodes.{AreNodes}
use Rattle.shunt_proof.specs.defs.Trees.{depth_at, nearest, IsChildOf}
use Rattle.shunt_proof.proofs.Depths.{nearest_here, nearest_before, follows}

-- the last node of a depth, where there is no later one
pub nearest_is : (nodes : List Node) (depth k j : ℕ) → k < j → depth_at nodes k ≡ depth → ((i : ℕ) → k < i → i < j → depth_at nodes i ≡ depth → ⊥) → nearest nodes depth j ≡ k
nearest_is nodes depth k zero lt e none = absurd (omega (arith, lt))
nearest_is nodes depth k (suc j) lt e none = ⊎_elim
    (λ same. nearest_here nodes depth j (subst (λ (i : ℕ). depth_at nodes i ≡ depth) same e) ∙ sym same)
    (λ other.
    let less : k < j = lt_of_le-ne (omega (arith, lt)) other in
    nearest_before nodes depth j (none j less (omega arith)) ∙ nearest_is nodes depth k j less e (λ i low high. none i low (omega (arith, high))))
    (cases_eq k j)

-- between the last node of a depth and a deeper one all are deeper than that
pub deeper_between : (night : Night) (nodes : List Node) → AreNodes night nodes → (depth j i : ℕ) → j < length nodes → depth < depth_at nodes j → nearest nodes depth j < i → i < j
    → depth < depth_at nodes i
deeper_between night nodes h depth zero i lt low after before = absurd (omega (arith, before))
deeper_between night nodes h depth (suc j) i lt low after before =
    let f = follows night nodes h j lt in
    ⊎_elim
    (λ here. absurd (omega (arith, after, before, nearest_here nodes depth j here)))
    (λ other.
    let less : depth < depth_at nodes j = lt_of_le-ne (omega (arith, f.most, low)) (λ e. other (sym e)) in
    ⊎_elim
    (λ same. subst (λ (k : ℕ). depth < depth_at nodes k) (sym same) less)
    (λ differ. deeper_between night nodes h depth j i (omega (arith, lt)) less (omega (arith, after, nearest_before nodes depth j other))
    (lt_of_le-ne (omega (arith, before)) differ))
    (cases_eq i j))
    (cases_eq (depth_at nodes j) depth)

module _ (night : Night) (nodes : List Node) (h : AreNodes night nodes) where
  pub is_child : (k j : ℕ) → k < j → j < length nodes → depth_at nodes j ≡ depth_at nodes k + 1 → ((i : ℕ) → k < i → i < j → depth_at nodes k < depth_at nodes i)
      → IsChildOf nodes k j
  is_child k j lt there depth deeper = record {
    there = there;
    depth = depth;
    parent = nearest_is nodes (depth_at nodes j - 1) k j lt (omega (arith, depth)) (λ i low high e. omega (arith, deeper i low high, e, depth));
  }

  pub child_between : (k j i : ℕ) → IsChildOf nodes k j → k < i → i < j → depth_at nodes k < depth_at nodes i
  child_between k j i c low high =
      let d : depth_at nodes j - 1 ≡ depth_at nodes k = omega (arith, c.depth) in
      let deep = deeper_between night nodes h (depth_at nodes j - 1) j i c.there (omega (arith, c.depth)) (omega (arith, c.parent, low)) high in
      omega (arith, d, deep)
