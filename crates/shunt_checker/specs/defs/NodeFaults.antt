-- What is wrong with a node of a certificate, and what of it comes first.
use Rattle.std.specs.Prelude.{◌≡◌, ◌≢◌, ◌⊎◌, ℕ, ◌<◌, ◌≤◌, ℤ, pos, ◌≤ℤ◌, ◌<ℤ◌, IsSome, length, List, Option, Some, None}
use Rattle.shunt_base.specs.declared.duals.Case.{Case}
use Rattle.shunt_instance.specs.defs.Instance.{Night}
use Rattle.shunt_blocks.specs.declared.records.Block.{Block}
use Rattle.shunt_blocks.specs.defs.Shapes.{unit_from}
use Rattle.shunt_blocks.specs.defs.Lists.{RunsThrough, placed, total_cost}
use Rattle.shunt_choices.specs.defs.Paths.{masks_of, next_of}
use Rattle.shunt_choices.specs.defs.Choices.{Choice as PathChoice, IsChoiceAt, LaterBefore, OptionBefore, longer_by, chosen}
use Rattle.shunt_prices.specs.defs.Limits.{case_at}
use Rattle.shunt_prices.specs.defs.Cases.{IsFreeBlock, HasRoom, weight_with, duals_over}
use Rattle.shunt_proof.specs.declared.records.Choice.{Choice}
use Rattle.shunt_proof.specs.declared.records.NodeKind.{NodeKind}
use Rattle.shunt_proof.specs.declared.records.NodeKind.TheVariants.{Branch, Leaf, Whole}
use Rattle.shunt_proof.specs.declared.records.Node.{Node}
use Rattle.shunt_proof.specs.declared.records.Version.{Version}
use Rattle.shunt_proof.specs.declared.records.Certificate.{Certificate}
use Rattle.shunt_proof.specs.defs.Nodes.{node_at}
use Rattle.shunt_proof.specs.defs.Trees.{parent, IsChildOf, choice_from, path_at, duals_at, best_before}
use Rattle.shunt_proof.specs.defs.Versions.{IsBoundIn, IsStepBoundIn}
use Rattle.shunt_proof.specs.defs.Proves.{IsListed}
use Rattle.shunt_checker.specs.declared.verdict.Reason.{Reason}
use Rattle.shunt_checker.specs.declared.verdict.Reason.TheVariants as reason
use Rattle.shunt_checker.specs.defs.Asked.{IsAsked}

-- what can be wrong with a node: its choice isn't there; an earlier child has it; its bound isn't lean; its kind isn't that of its
-- path; in the case with a number a shape with an option weighs less than its duals; a leaf's bound or a whole path's cost is too
-- low; a choice isn't listed
pub data NodeFault : Type 0 where
  NotThere : NodeFault
  Twice : NodeFault
  NotLean : NodeFault
  OtherKind : NodeFault
  Broken : ℕ → PathChoice → NodeFault
  LowLeaf : NodeFault
  LowWhole : NodeFault
  Missing : PathChoice → NodeFault

-- a node's choice is one at its parent's path, and the longer path is a partial plan
pub record IsThere (night : Night) (start : List Block) (nodes : List Node) (k : ℕ) (choice : Choice) : Type 0 where
  pub there : IsChoiceAt night (path_at night start nodes (parent nodes k)) (choice_from night (path_at night start nodes (parent nodes k)) choice)
  pub through : RunsThrough night (placed (path_at night start nodes k))

-- an earlier child of the node's parent has this choice
pub record HasTwin (nodes : List Node) (k : ℕ) (choice : Choice) : Type 0 where
  pub twin : ℕ
  pub before : twin < k
  pub below : IsChildOf nodes (parent nodes k) twin
  pub same : (node_at nodes twin).choice ≡ Some choice

-- the bound of a node's path by its parent's duals, which isn't below the best cost before the node
pub record IsNotLean (version : Version) (night : Night) (start : List Block) (nodes : List Node) (k : ℕ) (bound : ℤ) : Type 0 where
  pub some : 1 ≤ k
  pub is : IsStepBoundIn version night (path_at night start nodes (parent nodes k)) (path_at night start nodes k) (duals_at nodes (parent nodes k)) bound
  pub high : pos (best_before night start nodes k) ≤ℤ bound

-- a whole path where a unit is uncovered, or another node where none is
abbrev pub IsOtherKind : NodeKind → Option ℕ → Type 0
IsOtherKind Whole next = IsSome next
IsOtherKind Leaf next = next ≡ None
IsOtherKind Branch next = next ≡ None

-- in the case with a number, a free shape with an option that has room and is asked weighs less than its duals
pub record IsBroken (version : Version) (night : Night) (path : List Block) (cases : List Case) (m : ℕ) (c : PathChoice) : Type 0 where
  pub case : m < length cases
  pub free : IsFreeBlock night (masks_of night path) c.shape c.option
  pub room : HasRoom night c.shape c.option
  pub asked : IsAsked version c.option
  pub light : weight_with night (case_at cases m) c.shape c.option <ℤ duals_over night (case_at cases m).duals c.shape

-- the bound of a path by cases, which is below L
pub record IsLow (version : Version) (night : Night) (path : List Block) (cases : List Case) (L : ℕ) (bound : ℤ) : Type 0 where
  pub is : IsBoundIn version night path cases bound
  pub low : bound <ℤ pos L

-- the bound by cases of a path that has one block more than another, which is below L
pub record IsStepLow (version : Version) (night : Night) (path longer : List Block) (cases : List Case) (L : ℕ) (bound : ℤ) : Type 0 where
  pub is : IsStepBoundIn version night path longer cases bound
  pub low : bound <ℤ pos L

-- a choice at a node's path that gives a partial plan with a bound below L, by the node's duals, and that the node doesn't list
pub record IsMissing (version : Version) (night : Night) (start : List Block) (nodes : List Node) (k L : ℕ) (c : PathChoice) (bound : ℤ) : Type 0 where
  pub there : IsChoiceAt night (path_at night start nodes k) c
  pub through : RunsThrough night (placed (longer_by (path_at night start nodes k) c))
  pub low : IsStepLow version night (path_at night start nodes k) (longer_by (path_at night start nodes k) c) (duals_at nodes k) L bound
  pub unlisted : IsListed night start nodes k c → ⊥

-- something is wrong with a node, and it is told so, with these values
abbrev pub IsNodeFault : Night → List Block → Certificate → ℕ → NodeFault → Reason → Type 0
IsNodeFault night start c k NotThere r = (choice : Choice) × ((node_at c.nodes k).choice ≡ Some choice) × (IsThere night start c.nodes k choice → ⊥)
    × (r ≡ reason.ChildNotThere choice)
IsNodeFault night start c k Twice r = (choice : Choice) × ((node_at c.nodes k).choice ≡ Some choice) × HasTwin c.nodes k choice × (r ≡ reason.ChildTwice choice)
IsNodeFault night start c k NotLean r = (bound : ℤ) × IsNotLean c.version night start c.nodes k bound × (r ≡ reason.ChildNotLean bound (pos (best_before night start c.nodes k)))
IsNodeFault night start c k OtherKind r = IsOtherKind (node_at c.nodes k).kind (next_of (masks_of night (path_at night start c.nodes k))) × (r ≡ reason.WrongKind)
IsNodeFault night start c k (Broken m d) r = ((node_at c.nodes k).kind ≢ Whole) × IsBroken c.version night (path_at night start c.nodes k) (duals_at c.nodes k) m d ×
    (r ≡ reason.DualBroken (chosen 0 d) (weight_with night (case_at (duals_at c.nodes k) m) d.shape d.option) (duals_over night (case_at (duals_at c.nodes k) m).duals d.shape))
IsNodeFault night start c k LowLeaf r = ((node_at c.nodes k).kind ≡ Leaf) × (bound : ℤ) × IsLow c.version night (path_at night start c.nodes k) (duals_at c.nodes k) c.bound bound
    × (r ≡ reason.LeafLow bound (pos c.bound))
IsNodeFault night start c k LowWhole r = ((node_at c.nodes k).kind ≡ Whole) × (total_cost night (path_at night start c.nodes k) < c.bound)
    × (r ≡ reason.WholeLow (pos (total_cost night (path_at night start c.nodes k))) (pos c.bound))
IsNodeFault night start c k (Missing d) r = ((node_at c.nodes k).kind ≡ Branch) × (choice : Choice) × (d ≡ choice_from night (path_at night start c.nodes k) choice) × (bound : ℤ)
    × IsMissing c.version night start c.nodes k c.bound d bound × (r ≡ reason.ChildMissing choice bound)

-- the order of what is looked at
abbrev pub node_rank : NodeFault → ℕ
node_rank NotThere = 1
node_rank Twice = 2
node_rank NotLean = 3
node_rank OtherKind = 4
node_rank (Broken m d) = 5
node_rank LowLeaf = 6
node_rank LowWhole = 6
node_rank (Missing d) = 7

-- by the first unit, then by the number of units, departing train and place, then by option
abbrev pub EarlierChoice : Night → PathChoice → PathChoice → Type 0
EarlierChoice night d e = (unit_from night d.shape < unit_from night e.shape) ⊎ ((unit_from night d.shape ≡ unit_from night e.shape)
    × (LaterBefore d.shape e.shape ⊎ ((d.shape ≡ e.shape) × OptionBefore d.option e.option)))

-- of broken duals by case and then by choice, of choices that aren't listed by choice
abbrev pub EarlierPlace : Night → NodeFault → NodeFault → Type 0
EarlierPlace night (Broken m d) (Broken n e) = (m < n) ⊎ ((m ≡ n) × EarlierChoice night d e)
EarlierPlace night (Missing d) (Missing e) = EarlierChoice night d e
EarlierPlace night _ _ = ⊥

abbrev pub NodeFaultBefore : Night → NodeFault → NodeFault → Type 0
NodeFaultBefore night f g = (node_rank f < node_rank g) ⊎ ((node_rank f ≡ node_rank g) × EarlierPlace night f g)

-- nothing is wrong with a node
abbrev pub IsNodeSound : Night → List Block → Certificate → ℕ → Type 0
IsNodeSound night start c k = (f : NodeFault) (r : Reason) → IsNodeFault night start c k f r → ⊥

-- the nodes before a number are sound
abbrev pub AreSound : Night → List Block → Certificate → ℕ → Type 0
AreSound night start c k = (j : ℕ) → j < k → IsNodeSound night start c j

-- what is told is wrong with a node, and nothing that is wrong with it comes before
pub record IsFirstNodeFault (night : Night) (start : List Block) (c : Certificate) (k : ℕ) (r : Reason) : Type 0 where
  pub fault : NodeFault
  pub is : IsNodeFault night start c k fault r
  pub first : (g : NodeFault) (s : Reason) → IsNodeFault night start c k g s → NodeFaultBefore night g fault → ⊥
