-- The best cost that is known before a node.
use Rattle.std.specs.Prelude.{min, ◌⊎◌}
use Rattle.std.proofs.Common.{◌≡◌, ⊎_elim, inl, inr, ℕ, zero, suc, ◌+◌, ◌-◌, ◌<◌, ◌≤◌, List, refl, ap, ◌∙◌, arith}
use Rattle.std.proofs.lemmas.Int.{clamps}
use Rattle.std.proofs.lemmas.Bool.{cases_lt}
use Rattle.shunt_instance.specs.defs.Instance.{Night}
use Rattle.shunt_blocks.specs.declared.records.Block.{Block}
use Rattle.shunt_blocks.specs.defs.Lists.{total_cost}
use Rattle.shunt_blocks.specs.defs.Pins.{opening_cost}
use Rattle.shunt_proof.specs.declared.records.NodeKind.{NodeKind}
use Rattle.shunt_proof.specs.declared.records.NodeKind.TheVariants.{Branch, Leaf, Whole}
use Rattle.shunt_proof.specs.declared.records.Node.{Node}
use Rattle.shunt_proof.specs.defs.Nodes.{node_at}
use Rattle.shunt_proof.specs.defs.Trees.{path_at, best_with, best_before}

no_more : (kind : NodeKind) (cost best : ℕ) → best_with kind cost best ≤ best
no_more Whole cost best = omega (arith, clamps)
no_more Leaf cost best = omega arith
no_more Branch cost best = omega arith

at_whole : (kind : NodeKind) (cost best : ℕ) → kind ≡ Whole → best_with kind cost best ≤ cost
at_whole kind cost best e = let is : best_with kind cost best ≡ min best cost = ap {B = ℕ} (λ k. best_with k cost best) e in omega (arith, clamps, is)

one_of : (kind : NodeKind) (cost best : ℕ) → (best_with kind cost best ≡ best) ⊎ ((kind ≡ Whole) × (best_with kind cost best ≡ cost))
one_of Whole cost best = ⊎_elim (λ less. inr (refl, omega (arith, clamps, less))) (λ le. inl (omega (arith, clamps, le))) (cases_lt cost best)
one_of Leaf cost best = inl refl
one_of Branch cost best = inl refl

module _ (night : Night) (start : List Block) (nodes : List Node) where
  -- it never rises
  pub best_falls : (k m : ℕ) → best_before night start nodes (k + m) ≤ best_before night start nodes k
  best_falls k zero = omega (arith, ap (best_before night start nodes) (with_none k))
    where
      with_none : (n : ℕ) → n + 0 ≡ n
      with_none n = omega arith
  best_falls k (suc m) =
      let at : k + suc m ≡ suc (k + m) = omega arith in
      omega (
        arith,
        ap (best_before night start nodes) at,
        no_more (node_at nodes (k + m)).kind (total_cost night (path_at night start nodes (k + m)))
            (best_before night start nodes (k + m)),
        best_falls k m,
      )

  pub best_at_whole : (j k : ℕ) → j < k → (node_at nodes j).kind ≡ Whole → best_before night start nodes k ≤ total_cost night (path_at night start nodes j)
  best_at_whole j k lt e =
      let at : suc j + (k - suc j) ≡ k = omega (arith, lt) in
      omega (
        arith,
        ap (best_before night start nodes) at,
        best_falls (suc j) (k - suc j),
        at_whole (node_at nodes j).kind (total_cost night (path_at night start nodes j)) (best_before night start nodes j) e,
      )

  -- a whole node before it whose path has this cost
  abbrev pub IsBestOf : ℕ → ℕ → Type 0
  IsBestOf k best = (j : ℕ) × (j < k) × ((node_at nodes j).kind ≡ Whole) × (best ≡ total_cost night (path_at night start nodes j))

  pub best_is : (k : ℕ) → (best_before night start nodes k ≡ opening_cost night start) ⊎ IsBestOf k (best_before night start nodes k)
  best_is zero = inl refl
  best_is (suc k) = ⊎_elim
      (λ same. ⊎_elim
      (λ e. inl (same ∙ e))
      (λ x. inr (x.0, omega (arith, x.1), x.2, same ∙ x.3))
      (best_is k))
      (λ own. inr (k, omega arith, own.0, own.1))
      (one_of (node_at nodes k).kind (total_cost night (path_at night start nodes k)) (best_before night start nodes k))

  pub best_low : (k : ℕ) → best_before night start nodes k ≤ opening_cost night start
  best_low zero = omega arith
  best_low (suc k) = omega (arith, best_low k, no_more (node_at nodes k).kind (total_cost night (path_at night start nodes k)) (best_before night start nodes k))
