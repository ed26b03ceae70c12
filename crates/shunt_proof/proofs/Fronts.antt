-- What is said of a node depends on it and on earlier ones alone.
use Rattle.std.specs.Prelude.{◌==◌, cond}
use Rattle.std.proofs.Common.{◌≡◌, ℕ, zero, suc, ◌-◌, ◌<◌, ◌≤◌, List, [], ◌∷◌, ◌++◌, length, refl, ap, ◌∙◌, arith}
use Rattle.std.proofs.lemmas.List.{get_or_append_left}
use Rattle.std.proofs.Math.Seq.{get_or-append_seam}
use Rattle.shunt_base.specs.declared.duals.Case.{Case}
use Rattle.shunt_instance.specs.defs.Instance.{Night}
use Rattle.shunt_blocks.specs.declared.records.Block.{Block}
use Rattle.shunt_blocks.specs.defs.Lists.{total_cost}
use Rattle.shunt_proof.specs.declared.records.Node.{Node}
use Rattle.shunt_proof.specs.defs.Nodes.{node_at}
use Rattle.shunt_proof.specs.defs.Trees.{depth_at, nearest, parent, longer_with, path_down, path_at, cases_or, duals_down, duals_at, best_with, best_before}
use Rattle.shunt_proof.proofs.Depths.{nearest_low}

module _ (nodes more : List Node) where
  pub node_front : (k : ℕ) → k < length nodes → node_at (nodes ++ more) k ≡ node_at nodes k
  node_front k lt = get_or_append_left nodes more _ k lt

  pub depth_front : (k : ℕ) → k < length nodes → depth_at (nodes ++ more) k ≡ depth_at nodes k
  depth_front k lt = ap (λ (n : Node). n.depth) (node_front k lt)

  pub nearest_front : (depth k : ℕ) → k ≤ length nodes → nearest (nodes ++ more) depth k ≡ nearest nodes depth k
  nearest_front depth zero le = refl
  nearest_front depth (suc k) le =
      ap {B = ℕ} (λ d. cond (d == depth) k (nearest (nodes ++ more) depth k)) (depth_front k (omega (arith, le)))
      ∙ ap {B = ℕ} (λ j. cond (depth_at nodes k == depth) k j) (nearest_front depth k (omega (arith, le)))

  pub parent_front : (k : ℕ) → k < length nodes → parent (nodes ++ more) k ≡ parent nodes k
  parent_front k lt = ap (λ (d : ℕ). nearest (nodes ++ more) (d - 1) k) (depth_front k lt) ∙ nearest_front (depth_at nodes k - 1) k (omega (arith, lt))

  near : (depth k : ℕ) → k < length nodes → nearest nodes depth k < length nodes
  near depth k lt = omega (arith, lt, nearest_low nodes depth k)

  duals_down_front : (depth k : ℕ) → k < length nodes → duals_down (nodes ++ more) depth k ≡ duals_down nodes depth k
  duals_down_front zero k lt = ap (λ (n : Node). cases_or n.duals []) (node_front k lt)
  duals_down_front (suc depth) k lt =
      ap (λ (n : Node). cases_or n.duals (duals_down (nodes ++ more) depth (nearest (nodes ++ more) depth k))) (node_front k lt)
      ∙ ap (λ (j : ℕ). cases_or (node_at nodes k).duals (duals_down (nodes ++ more) depth j)) (nearest_front depth k (omega (arith, lt)))
      ∙ ap (λ (cs : List Case). cases_or (node_at nodes k).duals cs) (duals_down_front depth (nearest nodes depth k) (near depth k lt))

  pub duals_front : (k : ℕ) → k < length nodes → duals_at (nodes ++ more) k ≡ duals_at nodes k
  duals_front k lt = ap (λ (d : ℕ). duals_down (nodes ++ more) d k) (depth_front k lt) ∙ duals_down_front (depth_at nodes k) k lt

  module _ (night : Night) (start : List Block) where
    path_down_front : (depth k : ℕ) → k < length nodes → path_down night start (nodes ++ more) depth k ≡ path_down night start nodes depth k
    path_down_front zero k lt = refl
    path_down_front (suc depth) k lt =
        ap (λ (n : Node). longer_with night (path_down night start (nodes ++ more) depth (nearest (nodes ++ more) depth k)) n.choice) (node_front k lt)
        ∙ ap (λ (j : ℕ). longer_with night (path_down night start (nodes ++ more) depth j) (node_at nodes k).choice) (nearest_front depth k (omega (arith, lt)))
        ∙ ap (λ (p : List Block). longer_with night p (node_at nodes k).choice) (path_down_front depth (nearest nodes depth k) (near depth k lt))

    pub path_front : (k : ℕ) → k < length nodes → path_at night start (nodes ++ more) k ≡ path_at night start nodes k
    path_front k lt = ap (λ (d : ℕ). path_down night start (nodes ++ more) d k) (depth_front k lt) ∙ path_down_front (depth_at nodes k) k lt

    pub best_front : (k : ℕ) → k ≤ length nodes → best_before night start (nodes ++ more) k ≡ best_before night start nodes k
    best_front zero le = refl
    best_front (suc k) le =
        ap (λ (n : Node). best_with n.kind (total_cost night (path_at night start (nodes ++ more) k)) (best_before night start (nodes ++ more) k))
        (node_front k (omega (arith, le)))
        ∙ ap (λ (p : List Block). best_with (node_at nodes k).kind (total_cost night p) (best_before night start (nodes ++ more) k)) (path_front k (omega (arith, le)))
        ∙ ap (λ (b : ℕ). best_with (node_at nodes k).kind (total_cost night (path_at night start nodes k)) b) (best_front k (omega (arith, le)))

-- the node that is appended
pub node_last : (nodes : List Node) (n : Node) → node_at (nodes ++ n ∷ []) (length nodes) ≡ n
node_last nodes n = get_or-append_seam nodes n [] _
