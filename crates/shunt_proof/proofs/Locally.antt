-- The root proves L exactly when each node is locally right for L, which is easier where L is less.
use Rattle.std.specs.Prelude.{◌↔◌, ◌≤ℤ◌}
use Rattle.std.proofs.Common.{◌≡◌, ⊎_elim, inl, inr, ℕ, zero, suc, ◌+◌, ◌<◌, ◌≤◌, List, length, ℤ, sym, subst, arith}
use Rattle.std.proofs.lemmas.Int.{ints}
use Rattle.std.proofs.lemmas.Bool.{cases_lt}
use Rattle.shunt_base.specs.declared.duals.Case.{Case}
use Rattle.shunt_instance.specs.defs.Instance.{Night}
use Rattle.shunt_blocks.specs.declared.records.Block.{Block}
use Rattle.shunt_choices.specs.defs.Choices.{Choice as PathChoice}
use Rattle.shunt_proof.specs.declared.records.NodeKind.{NodeKind}
use Rattle.shunt_proof.specs.declared.records.NodeKind.TheVariants.{Branch, Leaf, Whole}
use Rattle.shunt_proof.specs.declared.records.Node.{Node}
use Rattle.shunt_proof.specs.declared.records.Version.{Version}
use Rattle.shunt_proof.specs.defs.Nodes.{node_at, AreNodes}
use Rattle.shunt_proof.specs.defs.Trees.{depth_at, parent, IsChildOf, path_at, duals_at}
use Rattle.shunt_proof.specs.defs.Versions.{ReachesIn, StepReachesIn}
use Rattle.shunt_proof.specs.defs.Proves.{ShowsIn, IsListed, IsPlaced, ProvesIn, by_tree, IsRightIn, AreRightIn}
use Rattle.shunt_proof.proofs.Depths.{parent_found, deep, its_child, child_later}

-- ---- a lesser L

pub lower : (version : Version) (night : Night) (path : List Block) (cases : List Case) (L M : ℤ) → M ≤ℤ L → ReachesIn version night path cases L
    → ReachesIn version night path cases M
lower version night path cases L M le r = (r.0, r.1, omega (arith, ints, le, r.2))

pub step_lower : (version : Version) (night : Night) (path longer : List Block) (cases : List Case) (L M : ℤ) → M ≤ℤ L → StepReachesIn version night path longer cases L
    → StepReachesIn version night path longer cases M
step_lower version night path longer cases L M le r = (r.0, r.1, omega (arith, ints, le, r.2))

-- a node shows what is less, and with more that is known
pub shows_less : (version : Version) (night : Night) (path : List Block) (cases : List Case) (kind : NodeKind) (IsKnown IsKnownToo : PathChoice → Type 0) (L M : ℤ)
    → ((c : PathChoice) → IsKnown c → IsKnownToo c) → M ≤ℤ L
    → ShowsIn version night path cases kind IsKnown L → ShowsIn version night path cases kind IsKnownToo M
shows_less version night path cases Whole IsKnown IsKnownToo L M more le s = record { covers = s.covers; cost = omega (arith, ints, le, s.cost) }
shows_less version night path cases Leaf IsKnown IsKnownToo L M more le s = record
    { unfinished = s.unfinished; holds = s.holds; bound = lower version night path cases L M le s.bound }
shows_less version night path cases Branch IsKnown IsKnownToo L M more le s = record {
  unfinished = s.unfinished;
  holds = s.holds;
  each = λ c there through. ⊎_elim (λ r. inl (step_lower version night path _ cases L M le r)) (λ k. inr (more c k)) (s.each c there through);
}

pub right_less : (version : Version) (night : Night) (start : List Block) (nodes : List Node) (k : ℕ) (L M : ℤ) → M ≤ℤ L → IsRightIn version night start nodes k L
    → IsRightIn version night start nodes k M
right_less version night start nodes k L M le r = record {
  placed = r.placed;
  shows = shows_less version night (path_at night start nodes k) (duals_at nodes k) (node_at nodes k).kind (IsListed night start nodes k) (IsListed night start nodes k) L M
      (λ c i. i) le r.shows;
}

-- ---- what a node proves

pub record IsOpened (version : Version) (night : Night) (start : List Block) (nodes : List Node) (L : ℤ) (k : ℕ) : Type 0 where
  pub shows : ShowsIn version night (path_at night start nodes k) (duals_at nodes k) (node_at nodes k).kind (IsListed night start nodes k) L
  pub placed : (j : ℕ) → IsChildOf nodes k j → IsPlaced night start nodes j
  pub below : (j : ℕ) → IsChildOf nodes k j → ProvesIn version night start nodes L j

pub opened : (version : Version) (night : Night) (start : List Block) (nodes : List Node) (L : ℤ) (k : ℕ) → ProvesIn version night start nodes L k
    → IsOpened version night start nodes L k
opened version night start nodes L _ (by_tree k shows placed below) = record { shows = shows; placed = placed; below = below }

module _ (version : Version) (night : Night) (start : List Block) (nodes : List Node) (h : AreNodes night nodes) (L : ℤ) where
  -- each node proves L where all are right: the later ones do
  pub right_proves : (all : AreRightIn version night start nodes L) → (m k : ℕ) → length nodes ≤ k + m → k < length nodes → ProvesIn version night start nodes L k
  right_proves all zero k le lt = absurd (omega (arith, le, lt))
  right_proves all (suc m) k le lt = by_tree k (all k lt).shows
      (λ j c. (all j c.there).placed (omega (arith, child_later night nodes h k j c)))
      (λ j c. right_proves all m j (omega (arith, le, child_later night nodes h k j c)) c.there)

  -- each node proves L and is placed where the root proves it: the less deep ones do
  record IsReached (k : ℕ) : Type 0 where
    proves : ProvesIn version night start nodes L k
    placed : 1 ≤ k → IsPlaced night start nodes k

  from_root : (k : ℕ) → k ≡ 0 → ProvesIn version night start nodes L 0 → IsReached k
  from_root k e root = record { proves = subst (λ (i : ℕ). ProvesIn version night start nodes L i) (sym e) root; placed = λ some. absurd (omega (arith, some, e)) }

  from_parent : (k : ℕ) → 1 ≤ k → (lt : k < length nodes) → IsReached (parent nodes k) → IsReached k
  from_parent k some lt up =
      let o = opened version night start nodes L (parent nodes k) up.proves in
      let c = its_child night nodes h k some lt in
      record { proves = o.below k c; placed = λ _. o.placed k c }

  reached : (root : ProvesIn version night start nodes L 0) → (depth k : ℕ) → k < length nodes → depth_at nodes k ≤ depth → IsReached k
  reached root zero k lt le = ⊎_elim
      (λ less. from_root k (omega (arith, less)) root)
      (λ some. absurd (omega (arith, le, deep night nodes h k some lt)))
      (cases_lt k 1)
  reached root (suc depth) k lt le = ⊎_elim
      (λ less. from_root k (omega (arith, less)) root)
      (λ some. let f = parent_found night nodes h k some lt in from_parent k some lt
      (reached root depth (parent nodes k) (omega (arith, f.before, lt)) (omega (arith, f.depth, le))))
      (cases_lt k 1)

  pub root_right : ProvesIn version night start nodes L 0 → AreRightIn version night start nodes L
  root_right root k lt =
      let r = reached root (depth_at nodes k) k lt (omega arith) in
      record { placed = r.placed; shows = (opened version night start nodes L k r.proves).shows }

  pub root_exactly : 1 ≤ length nodes → ProvesIn version night start nodes L 0 ↔ AreRightIn version night start nodes L
  root_exactly some = (root_right, λ all. right_proves all (length nodes) 0 (omega arith) some)
