-- Nodes whose own cases bound no less than their parents', and walks of which no node more gives a lower bound.
use Rattle.std.specs.Prelude.{◌≡◌, ◌≢◌, ◌⊎◌, ℕ, ◌+◌, ◌<◌, ◌≤◌, ℤ, pos, List, take, length}
use Rattle.shunt_lists.specs.defs.Members.{In}
use Rattle.shunt_base.specs.declared.duals.Case.{Case}
use Rattle.shunt_instance.specs.defs.Instance.{Night}
use Rattle.shunt_blocks.specs.declared.records.Block.{Block}
use Rattle.shunt_blocks.specs.defs.Lists.{RunsThrough, placed}
use Rattle.shunt_choices.specs.defs.Choices.{Choice as PathChoice, IsChoiceAt, longer_by}
use Rattle.shunt_proof.specs.declared.records.NodeKind.TheVariants.{Branch}
use Rattle.shunt_proof.specs.declared.records.Node.{Node}
use Rattle.shunt_proof.specs.declared.records.Version.{Version}
use Rattle.shunt_proof.specs.defs.Nodes.{node_at}
use Rattle.shunt_proof.specs.defs.Trees.{parent, path_at, duals_at}
use Rattle.shunt_proof.specs.defs.Versions.{IsStepBoundIn, StepReachesIn}
use Rattle.shunt_search.specs.declared.walk_stack.Pending.{Pending}
use Rattle.shunt_search.specs.defs.WalkStates.{kept, goal_of}

-- some cases are no worse at a path than others: by them each choice there that gives a partial plan has at least the bound that the
-- others give the path as one with a block more than another, or at least a cost
pub record AreNoWorse (version : Version) (night : Night) (above path : List Block) (others own : List Case) (cost : ℕ) : Type 0 where
  pub bound : ℤ
  pub is : IsStepBoundIn version night above path others bound
  pub each : (c : PathChoice) → IsChoiceAt night path c → RunsThrough night (placed (longer_by path c))
      → StepReachesIn version night path (longer_by path c) own bound ⊎ StepReachesIn version night path (longer_by path c) own (pos cost)

-- each branch but the root has cases that are no worse at its path than its parent's
abbrev pub KeepBounds : Version → Night → List Block → List Node → ℕ → Type 0
KeepBounds version night start nodes cost = (k : ℕ) → 1 ≤ k → k < length nodes → (node_at nodes k).kind ≡ Branch
    → AreNoWorse version night (path_at night start nodes (parent nodes k)) (path_at night start nodes k) (duals_at nodes (parent nodes k)) (duals_at nodes k) cost

-- a choice of a branch that gives a partial plan was passed over: this is its bound, no node has its path, and none that is still to be
-- walked to stands above it
pub record IsPassed (version : Version) (night : Night) (start : List Block) (nodes : List Node) (path : List Block) (waiting : List Pending) (bound : ℤ) : Type 0 where
  pub above : ℕ
  pub choice : PathChoice
  pub goal : List Block
  pub there : above < length nodes
  pub branch : (node_at nodes above).kind ≡ Branch
  pub next : IsChoiceAt night (path_at night start nodes above) choice
  pub goal_is : goal ≡ longer_by (path_at night start nodes above) choice
  pub through : RunsThrough night (placed goal)
  pub is : IsStepBoundIn version night (path_at night start nodes above) goal (duals_at nodes above) bound
  pub new : (j : ℕ) → j < length nodes → path_at night start nodes j ≢ goal
  pub apart : (t : Pending) → In t waiting → take (kept t.child + 1) goal ≢ goal_of path t.child

-- the nodes keep bounds, and the low bound is the best cost, or the bound of what was passed over
pub record IsSteady (version : Version) (night : Night) (start : List Block) (nodes : List Node) (path : List Block) (waiting : List Pending) (best : ℕ) (low : ℤ) : Type 0 where
  pub keep : KeepBounds version night start nodes best
  pub least : (low ≡ pos best) ⊎ IsPassed version night start nodes path waiting low
