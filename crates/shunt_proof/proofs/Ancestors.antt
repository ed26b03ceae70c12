-- The nodes above a node: their paths are fronts of its path.
use Rattle.std.specs.Prelude.{take, Option, Some, None}
use Rattle.std.proofs.Common.{◌≡◌, ⊎_elim, ℕ, zero, suc, ◌+◌, ◌-◌, ◌<◌, ◌≤◌, List, [], ◌∷◌, length, refl, sym, ap, ◌∙◌, arith, length-append}
use Rattle.std.proofs.Math.Arith.{lt_of_le-ne}
use Rattle.std.proofs.lemmas.Bool.{cases_eq, cases_lt}
use Rattle.std.proofs.lemmas.List.{take_all, take-append-le}
use Rattle.shunt_instance.specs.defs.Instance.{Night}
use Rattle.shunt_blocks.specs.declared.records.Block.{Block}
use Rattle.shunt_choices.specs.defs.Choices.{chosen}
use Rattle.shunt_proof.specs.declared.records.Choice.{Choice}
use Rattle.shunt_proof.specs.declared.records.Node.{Node}
use Rattle.shunt_proof.specs.defs.Nodes.{node_at, AreNodes}
use Rattle.shunt_proof.specs.defs.Trees.{depth_at, nearest, parent, choice_from, longer_with, path_at}
use Rattle.shunt_proof.proofs.Depths.{nearest_here, nearest_before, found, follows, deep, parent_found, child_path, root_path, child_choice}

length_with : (night : Night) (path : List Block) (o : Option Choice) (c : Choice) → o ≡ Some c → length (longer_with night path o) ≡ length path + 1
length_with night path o c e = ap (λ (k : Option Choice). length (longer_with night path k)) e ∙ length-append path (chosen (length path + 1) (choice_from night path c) ∷ [])

module _ (night : Night) (nodes : List Node) (h : AreNodes night nodes) where
  pub root_only : (k : ℕ) → k < length nodes → depth_at nodes k ≡ 0 → k ≡ 0
  root_only k lt e = ⊎_elim (λ less. omega (arith, less)) (λ some. absurd (omega (arith, e, deep night nodes h k some lt))) (cases_lt k 1)

  pub not_root : (k d : ℕ) → k < length nodes → depth_at nodes k ≡ suc d → 1 ≤ k
  not_root zero d lt e = absurd (omega (arith, e, h.root lt))
  not_root (suc k) d lt e = omega arith

  -- the nearest node of a depth is the nearest before the nearest of a greater one
  chain : (d e k : ℕ) → d ≤ e → k < length nodes → e < depth_at nodes k → nearest nodes d k ≡ nearest nodes d (suc (nearest nodes e k))
  chain d e zero le lt low = absurd (omega (arith, low, h.root lt))
  chain d e (suc k) le lt low =
      let f = follows night nodes h k lt in
      ⊎_elim
      (λ here. ap (λ (j : ℕ). nearest nodes d (suc j)) (sym (nearest_here nodes e k here)))
      (λ other.
      let less = lt_of_le-ne (omega (arith, f.most, low)) (λ same. other (sym same)) in
      nearest_before nodes d k (λ same. absurd (omega (arith, same, le, less)))
      ∙ chain d e k le (omega (arith, lt)) less
      ∙ ap (λ (j : ℕ). nearest nodes d (suc j)) (sym (nearest_before nodes e k other)))
      (cases_eq (depth_at nodes k) e)

  -- a parent's parent is the nearest of its depth, too
  pub chain_up : (d k : ℕ) → k < length nodes → d + 1 < depth_at nodes k → nearest nodes d (nearest nodes (d + 1) k) ≡ nearest nodes d k
  chain_up d k lt low =
      let f = found night nodes h k lt (d + 1) low in
      sym (chain d (d + 1) k (omega arith) lt low ∙ nearest_before nodes d (nearest nodes (d + 1) k) (λ e. absurd (omega (arith, e, f.depth))))

  module _ (start : List Block) where
    abbrev path : ℕ → List Block
    path k = path_at night start nodes k

    size_down : (depth k : ℕ) → k < length nodes → depth_at nodes k ≡ depth → length (path k) ≡ length start + depth
    size_down zero k lt e = ap (λ (j : ℕ). length (path j)) (root_only k lt e) ∙ ap length (root_path night nodes h start (omega (arith, lt))) ∙ omega arith
    size_down (suc depth) k lt e =
        let some = not_root k depth lt e in
        let f = parent_found night nodes h k some lt in
        let c = child_choice night nodes h k some lt in
        omega (
          arith,
          ap length (child_path night nodes h start k some lt),
          length_with night (path (parent nodes k)) (node_at nodes k).choice c.0 c.1,
          size_down depth (parent nodes k) (omega (arith, f.before, lt)) (omega (arith, f.depth, e)),
        )

    -- a path is as much longer than the start as its node is deep
    pub path_size : (k : ℕ) → k < length nodes → length (path k) ≡ length start + depth_at nodes k
    path_size k lt = size_down (depth_at nodes k) k lt refl

    all_taken : (n : ℕ) (xs : List Block) → length xs ≡ n → take n xs ≡ xs
    all_taken n xs e = take_all n xs (omega (arith, e))

    front_of_child : (n : ℕ) (xs : List Block) (o : Option Choice) → n ≤ length xs → take n (longer_with night xs o) ≡ take n xs
    front_of_child n xs None le = refl
    front_of_child n xs (Some c) le = take-append-le n xs (chosen (length xs + 1) (choice_from night xs c) ∷ []) le

    front_down : (m d k : ℕ) → k < length nodes → depth_at nodes k ≡ d + m → path (nearest nodes d (suc k)) ≡ take (length start + d) (path k)
    front_down zero d k lt e =
        ap path (nearest_here nodes d k (omega (arith, e))) ∙ sym (all_taken (length start + d) (path k) (omega (arith, path_size k lt, e)))
    front_down (suc m) d k lt e =
        let some = not_root k (d + m) lt (omega (arith, e)) in
        let f = parent_found night nodes h k some lt in
        let up = front_down m d (parent nodes k) (omega (arith, f.before, lt)) (omega (arith, f.depth, e)) in
        ap path (nearest_before nodes d k (λ same. absurd (omega (arith, same, e))) ∙ chain d (depth_at nodes k - 1) k (omega (arith, e)) lt (omega (arith, e)))
        ∙ up
        ∙ sym (ap (take (length start + d)) (child_path night nodes h start k some lt)
        ∙ front_of_child (length start + d) (path (parent nodes k)) (node_at nodes k).choice
        (omega (arith, path_size (parent nodes k) (omega (arith, f.before, lt)), f.depth, e)))

    -- the path of the last node of a depth, up to a node that is as deep or deeper, is a front of that node's path
    pub front_path : (d k : ℕ) → k < length nodes → d ≤ depth_at nodes k → path (nearest nodes d (suc k)) ≡ take (length start + d) (path k)
    front_path d k lt le = front_down (depth_at nodes k - d) d k lt (omega (arith, le))
