-- The tree of a list of nodes: parents, paths, duals, and the best cost that is known before a node.
use Rattle.std.specs.Prelude.{◌≡◌, ℕ, zero, suc, ◌+◌, ◌-◌, ◌<◌, ◌==◌, min, if◌then◌else◌, unwrap_or, length, List, [], Option, Some, None, IsPermutation}
use Rattle.shunt_base.specs.declared.duals.Case.{Case}
use Rattle.shunt_instance.specs.declared.records.Unit.{Unit as TrainUnit}
use Rattle.shunt_instance.specs.defs.Instance.{Night, unit_at}
use Rattle.shunt_blocks.specs.declared.records.Block.{Block}
use Rattle.shunt_blocks.specs.defs.Lists.{total_cost}
use Rattle.shunt_blocks.specs.defs.Pins.{opening_cost}
use Rattle.shunt_choices.specs.defs.Paths.{masks_of, next_of, AreInOrder}
use Rattle.shunt_choices.specs.defs.Choices.{Choice as PathChoice, longer_by}
use Rattle.shunt_proof.specs.declared.records.Choice.{Choice}
use Rattle.shunt_proof.specs.declared.records.NodeKind.{NodeKind}
use Rattle.shunt_proof.specs.declared.records.NodeKind.TheVariants.{Branch, Leaf, Whole}
use Rattle.shunt_proof.specs.declared.records.NodeDuals.{NodeDuals}
use Rattle.shunt_proof.specs.declared.records.NodeDuals.TheVariants.{Same, New, Bare}
use Rattle.shunt_proof.specs.declared.records.Node.{Node}
use Rattle.shunt_proof.specs.defs.Nodes.{node_at}

-- the pins in the order of their first units
pub record IsStart (night : Night) (pins start : List Block) : Type 0 where
  pub same : IsPermutation pins start
  pub rises : AreInOrder night start

-- ---- parents

-- how many nodes stand above a node
abbrev pub depth_at : List Node → ℕ → ℕ
depth_at nodes k = (node_at nodes k).depth

-- the last node of a depth among those before a number; the first node where there is none
abbrev pub nearest : List Node → ℕ → ℕ → ℕ
nearest nodes depth zero = 0
nearest nodes depth (suc k) = if depth_at nodes k == depth then k else nearest nodes depth k

-- the nearest earlier node whose depth is one less
abbrev pub parent : List Node → ℕ → ℕ
parent nodes k = nearest nodes (depth_at nodes k - 1) k

-- the second node is a child of the first
pub record IsChildOf (nodes : List Node) (k j : ℕ) : Type 0 where
  pub there : j < length nodes
  pub depth : depth_at nodes j ≡ depth_at nodes k + 1
  pub parent : parent nodes j ≡ k

-- ---- paths

-- the least uncovered unit of a path; 0 where all are covered
abbrev pub next_unit : Night → List Block → ℕ
next_unit night path = unwrap_or (next_of (masks_of night path)) 0

-- a choice that begins at a unit
abbrev pub choice_at : TrainUnit → Choice → PathChoice
choice_at first c = record { shape = record { arr = first.train; p = first.place; n = c.n; dep = c.dep; q = c.q }; option = c.park }

-- what a node's choice adds to a path: a shape that begins at the path's next unit, with its option
abbrev pub choice_from : Night → List Block → Choice → PathChoice
choice_from night path c = choice_at (unit_at night (next_unit night path)) c

-- the same of a choice that may be absent
abbrev pub stated_choice : Night → List Block → Option Choice → Option PathChoice
stated_choice night path None = None
stated_choice night path (Some c) = Some (choice_from night path c)

-- a path with the block of a node's choice
abbrev pub longer_with : Night → List Block → Option Choice → List Block
longer_with night path None = path
longer_with night path (Some c) = longer_by path (choice_from night path c)

-- the path of a node of this depth: the start for the root, and for any other one its parent's path with its choice
abbrev pub path_down : Night → List Block → List Node → ℕ → ℕ → List Block
path_down night start nodes zero k = start
path_down night start nodes (suc depth) k = longer_with night (path_down night start nodes depth (nearest nodes depth k)) (node_at nodes k).choice

-- the path of a node
abbrev pub path_at : Night → List Block → List Node → ℕ → List Block
path_at night start nodes k = path_down night start nodes (depth_at nodes k) k

-- ---- duals

-- a node's own cases, or those above it
abbrev pub cases_or : NodeDuals → List Case → List Case
cases_or Same above = above
cases_or (New cases) above = cases
cases_or Bare above = []

-- the cases of a node of this depth: its own, or its parent's
abbrev pub duals_down : List Node → ℕ → ℕ → List Case
duals_down nodes zero k = cases_or (node_at nodes k).duals []
duals_down nodes (suc depth) k = cases_or (node_at nodes k).duals (duals_down nodes depth (nearest nodes depth k))

-- the cases of a node
abbrev pub duals_at : List Node → ℕ → List Case
duals_at nodes k = duals_down nodes (depth_at nodes k) k

-- ---- the best cost

-- the lesser of a cost and that of a path that is whole
abbrev pub best_with : NodeKind → ℕ → ℕ → ℕ
best_with Whole cost best = min best cost
best_with Leaf cost best = best
best_with Branch cost best = best

-- the least of the opening cost and the costs of the whole paths before a number
abbrev pub best_before : Night → List Block → List Node → ℕ → ℕ
best_before night start nodes zero = opening_cost night start
best_before night start nodes (suc k) = best_with (node_at nodes k).kind (total_cost night (path_at night start nodes k)) (best_before night start nodes k)
