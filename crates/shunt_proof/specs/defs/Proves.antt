-- What nodes prove.
use Rattle.std.specs.Prelude.{◌≡◌, ◌≢◌, ◌⊎◌, ℕ, ◌≤◌, ◌<◌, ℤ, pos, ◌≤ℤ◌, length, IsSome, List, Some, None}
use Rattle.shunt_base.specs.declared.duals.Case.{Case}
use Rattle.shunt_instance.specs.defs.Instance.{Night}
use Rattle.shunt_blocks.specs.declared.records.Block.{Block}
use Rattle.shunt_blocks.specs.defs.Lists.{RunsThrough, placed, total_cost}
use Rattle.shunt_choices.specs.defs.Paths.{masks_of, next_of}
use Rattle.shunt_choices.specs.defs.Choices.{Choice as PathChoice, IsChoiceAt, longer_by}
use Rattle.shunt_proof.specs.declared.records.Choice.{Choice}
use Rattle.shunt_proof.specs.declared.records.NodeKind.{NodeKind}
use Rattle.shunt_proof.specs.declared.records.NodeKind.TheVariants.{Branch, Leaf, Whole}
use Rattle.shunt_proof.specs.declared.records.Node.{Node}
use Rattle.shunt_proof.specs.declared.records.Version.{Version}
use Rattle.shunt_proof.specs.declared.records.Version.TheVariants.{Prices}
use Rattle.shunt_proof.specs.defs.Nodes.{node_at}
use Rattle.shunt_proof.specs.defs.Trees.{parent, IsChildOf, choice_from, stated_choice, path_at, duals_at}
use Rattle.shunt_proof.specs.defs.Versions.{HoldIn, ReachesIn, StepReachesIn}

-- the path covers all units, and costs at least L
pub record ShowsWhole (night : Night) (path : List Block) (L : ℤ) : Type 0 where
  pub covers : next_of (masks_of night path) ≡ None
  pub cost : L ≤ℤ pos (total_cost night path)

-- a unit is uncovered, the cases hold, and their bound is at least L
pub record ShowsByDualsIn (version : Version) (night : Night) (path : List Block) (cases : List Case) (L : ℤ) : Type 0 where
  pub unfinished : IsSome (next_of (masks_of night path))
  pub holds : HoldIn version night path cases
  pub bound : ReachesIn version night path cases L

-- a unit is uncovered, the cases hold, and each choice there gives no partial plan, or a bound of at least L, or is known
pub record ShowsByChoicesIn (version : Version) (night : Night) (path : List Block) (cases : List Case) (IsKnown : PathChoice → Type 0) (L : ℤ) : Type 0 where
  pub unfinished : IsSome (next_of (masks_of night path))
  pub holds : HoldIn version night path cases
  pub each : (c : PathChoice) → IsChoiceAt night path c → RunsThrough night (placed (longer_by path c)) → StepReachesIn version night path (longer_by path c) cases L ⊎ IsKnown c

-- what a node of a kind has to show at its path, by its cases and by what it lists
abbrev pub ShowsIn : Version → Night → List Block → List Case → NodeKind → (PathChoice → Type 0) → ℤ → Type 0
ShowsIn version night path cases Whole IsKnown L = ShowsWhole night path L
ShowsIn version night path cases Leaf IsKnown L = ShowsByDualsIn version night path cases L
ShowsIn version night path cases Branch IsKnown L = ShowsByChoicesIn version night path cases IsKnown L

-- a node lists a choice: one of its children states it
pub record IsListed (night : Night) (start : List Block) (nodes : List Node) (k : ℕ) (c : PathChoice) : Type 0 where
  pub child : ℕ
  pub below : IsChildOf nodes k child
  pub states : stated_choice night (path_at night start nodes k) (node_at nodes child).choice ≡ Some c

-- a node's choice is one at its parent's path, it gives a partial plan, and no earlier child of the parent has it
pub record IsPlaced (night : Night) (start : List Block) (nodes : List Node) (k : ℕ) : Type 0 where
  pub choice : Choice
  pub is : (node_at nodes k).choice ≡ Some choice
  pub there : IsChoiceAt night (path_at night start nodes (parent nodes k)) (choice_from night (path_at night start nodes (parent nodes k)) choice)
  pub through : RunsThrough night (placed (path_at night start nodes k))
  pub once : (j : ℕ) → j < k → IsChildOf nodes (parent nodes k) j → (node_at nodes j).choice ≢ Some choice

-- a node shows L, and each of its children is placed and proves L
pub data ProvesIn (version : Version) (night : Night) (start : List Block) (nodes : List Node) (L : ℤ) : ℕ → Type 0 where
  by_tree : (k : ℕ) → ShowsIn version night (path_at night start nodes k) (duals_at nodes k) (node_at nodes k).kind (IsListed night start nodes k) L
      → ((j : ℕ) → IsChildOf nodes k j → IsPlaced night start nodes j) → ((j : ℕ) → IsChildOf nodes k j → ProvesIn version night start nodes L j)
      → ProvesIn version night start nodes L k

-- a node is locally right for L: it is placed where it isn't the root, and shows L
pub record IsRightIn (version : Version) (night : Night) (start : List Block) (nodes : List Node) (k : ℕ) (L : ℤ) : Type 0 where
  pub placed : 1 ≤ k → IsPlaced night start nodes k
  pub shows : ShowsIn version night (path_at night start nodes k) (duals_at nodes k) (node_at nodes k).kind (IsListed night start nodes k) L

-- each node is locally right for L
abbrev pub AreRightIn : Version → Night → List Block → List Node → ℤ → Type 0
AreRightIn version night start nodes L = (k : ℕ) → k < length nodes → IsRightIn version night start nodes k L

-- ---- the same in version 1

abbrev pub Reaches : Night → List Block → List Case → ℤ → Type 0
Reaches night path cases L = ReachesIn Prices night path cases L

abbrev pub ShowsByDuals : Night → List Block → List Case → ℤ → Type 0
ShowsByDuals night path cases L = ShowsByDualsIn Prices night path cases L

abbrev pub ShowsByChoices : Night → List Block → List Case → (PathChoice → Type 0) → ℤ → Type 0
ShowsByChoices night path cases IsKnown L = ShowsByChoicesIn Prices night path cases IsKnown L

abbrev pub Shows : Night → List Block → List Case → NodeKind → (PathChoice → Type 0) → ℤ → Type 0
Shows night path cases kind IsKnown L = ShowsIn Prices night path cases kind IsKnown L

abbrev pub Proves : Night → List Block → List Node → ℤ → ℕ → Type 0
Proves night start nodes L k = ProvesIn Prices night start nodes L k

abbrev pub IsRight : Night → List Block → List Node → ℕ → ℤ → Type 0
IsRight night start nodes k L = IsRightIn Prices night start nodes k L

abbrev pub AreRight : Night → List Block → List Node → ℤ → Type 0
AreRight night start nodes L = AreRightIn Prices night start nodes L
