-- What holds while a tree is walked.
use Rattle.std.specs.Prelude.{◌≡◌, ◌≢◌, ◌⊎◌, ℕ, ◌+◌, ◌-◌, ◌<◌, ◌≤◌, ℤ, pos, ◌≤ℤ◌, List, [], ◌++◌, map, take, length, slice_index_or, Option, Some, None, IsSome, AllPairs}
use Rattle.shunt_lists.specs.defs.Members.{In}
use Rattle.shunt_base.specs.declared.duals.Case.{Case}
use Rattle.shunt_instance.specs.defs.Instance.{Night}
use Rattle.shunt_blocks.specs.declared.records.Block.{Block}
use Rattle.shunt_blocks.specs.defs.Lists.{RunsThrough, IsFeasible, placed, total_cost}
use Rattle.shunt_blocks.specs.defs.Pins.{Keeps}
use Rattle.shunt_choices.specs.defs.Paths.{masks_of, next_of}
use Rattle.shunt_choices.specs.defs.Choices.{Choice as PathChoice, longer_by}
use Rattle.shunt_proof.specs.declared.records.Version.{Version}
use Rattle.shunt_proof.specs.declared.records.NodeKind.TheVariants.{Branch, Whole}
use Rattle.shunt_proof.specs.declared.records.NodeDuals.TheVariants.{Same, New, Bare}
use Rattle.shunt_proof.specs.declared.records.Choice.{Choice}
use Rattle.shunt_proof.specs.declared.records.Node.{Node}
use Rattle.shunt_proof.specs.defs.Nodes.{node_at, FitsNode, AreNodes}
use Rattle.shunt_proof.specs.defs.Trees.{depth_at, nearest, choice_from, path_at, duals_at, best_before}
use Rattle.shunt_proof.specs.defs.Versions.{HoldIn, IsStepBoundIn}
use Rattle.shunt_proof.specs.defs.Proves.{ShowsIn, IsListed, IsPlaced}
use Rattle.shunt_proof.specs.defs.Accepted.{AreLeanIn}
use Rattle.shunt_search.specs.declared.child.Child.{Child}
use Rattle.shunt_search.specs.declared.known.KnownPlan.{KnownPlan}
use Rattle.shunt_search.specs.declared.walk_stack.Pending.{Pending}
use Rattle.shunt_search.specs.declared.notes.NodeNoted.{NodeNoted}
use Rattle.shunt_search.specs.declared.notes.NodeNoted.TheVariants as noted
use Rattle.shunt_search.specs.defs.Yards.{IsNextBlock, IsOpen, AreChildren, choice_of, more_by}

-- how many blocks of the path a child keeps: those before its own place
abbrev pub kept : Child → ℕ
kept t = t.block.id - 1

-- the path of a child, seen from the path of the last node
abbrev pub goal_of : List Block → Child → List Block
goal_of path t = more_by (take (kept t) path) t.block

-- the cases at a place of a stock
abbrev pub cases_in : List (List Case) → ℕ → List Case
cases_in stock place = slice_index_or stock place []

-- a child of a noted branch that gives a partial plan and is no node yet: its parent's cases are at this place of the stock, and its bound
-- by them isn't below the floor
pub record IsPending (version : Version) (night : Night) (start : List Block) (stock : List (List Case)) (floor : ℤ) (nodes : List Node) (path : List Block)
    (t : Pending) : Type 0 where
  pub there : t.parent < length nodes
  pub branch : (node_at nodes t.parent).kind ≡ Branch
  pub here : path_at night start nodes t.parent ≡ take (kept t.child) path
  pub long : kept t.child ≡ length start + depth_at nodes t.parent
  pub last : nearest nodes (depth_at nodes t.parent) (length nodes) ≡ t.parent
  pub next : IsNextBlock night (take (kept t.child) path) t.child.block
  pub through : RunsThrough night (placed (goal_of path t.child))
  pub place : t.cases < length stock
  pub cases : cases_in stock t.cases ≡ duals_at nodes t.parent
  pub bound : IsStepBoundIn version night (path_at night start nodes t.parent) (goal_of path t.child) (duals_at nodes t.parent) t.child.bound
  pub above : floor ≤ℤ t.child.bound
  pub new : (j : ℕ) → j < length nodes → path_at night start nodes j ≢ goal_of path t.child

-- the later one is walked to first: it keeps as much or more, and it is another child
abbrev pub IsApart : Pending → Pending → Type 0
IsApart t s = (kept t.child ≤ kept s.child) × (kept t.child ≡ kept s.child → choice_of t.child.block ≢ choice_of s.child.block)

-- a node lists the choice, or its child with that path is still to be walked to
abbrev pub IsKnown : Night → List Block → List Node → List Block → List Pending → ℕ → PathChoice → Type 0
IsKnown night start nodes path waiting k c = IsListed night start nodes k c ⊎ ((t : Pending) × In t waiting × (t.parent ≡ k)
    × (goal_of path t.child ≡ longer_by (path_at night start nodes k) c))

-- a branch or a whole path
abbrev pub IsWalked : List Node → ℕ → Type 0
IsWalked nodes k = ((node_at nodes k).kind ≡ Branch) ⊎ ((node_at nodes k).kind ≡ Whole)

-- the nodes show the low bound, which isn't above the best cost, but for the children that are still to be walked to, the next one at
-- the end; the last node has this path
pub record IsWalk (version : Version) (night : Night) (start : List Block) (stock : List (List Case)) (floor : ℤ) (nodes : List Node) (path : List Block) (waiting : List Pending)
    (best : ℕ) (low : ℤ) : Type 0 where
  pub formed : AreNodes night nodes
  pub some : 1 ≤ length nodes
  pub here : path ≡ path_at night start nodes (length nodes - 1)
  pub kinds : (k : ℕ) → k < length nodes → IsWalked nodes k
  pub placed : (k : ℕ) → 1 ≤ k → k < length nodes → IsPlaced night start nodes k
  pub lean : AreLeanIn version night start nodes
  pub pending : (t : Pending) → In t waiting → IsPending version night start stock floor nodes path t
  pub apart : AllPairs IsApart waiting
  pub shows : (k : ℕ) → k < length nodes → ShowsIn version night (path_at night start nodes k) (duals_at nodes k) (node_at nodes k).kind
      (IsKnown night start nodes path waiting k) low
  pub within : low ≤ℤ pos best
  pub cheap : best ≤ best_before night start nodes (length nodes)

-- all but these are at the end; they are closed or passed over, and the low bound falls to the least of their bounds at most
pub record Passes (old left : List Pending) (low now : ℤ) : Type 0 where
  pub passed : List Pending
  pub parts : old ≡ left ++ passed
  pub closed : (t : Pending) → In t passed → now ≤ℤ t.child.bound
  pub falls : now ≤ℤ low
  pub least : (now ≡ low) ⊎ ((t : Pending) × In t passed × (now ≡ t.child.bound))

-- no next block that is open at a path has a bound below this
abbrev pub OpensAbove : Version → Night → List Block → List Case → ℕ → ℤ → Type 0
OpensAbove version night path cases best least = (c : Child) → IsOpen version night path cases best c.block c.bound → least ≤ℤ c.bound

-- the lesser of two bounds
pub record IsLesser (a b lesser : ℤ) : Type 0 where
  pub first : lesser ≤ℤ a
  pub second : lesser ≤ℤ b
  pub either : (lesser ≡ a) ⊎ (lesser ≡ b)

-- the node of a child of the stack: so much deeper than the root as it keeps blocks behind the root's, and one, and with the child's choice
pub record IsNodeOf (night : Night) (start path : List Block) (t : Child) (n : Node) : Type 0 where
  pub depth : length start + n.depth ≡ kept t + 1
  pub choice : Choice
  pub states : n.choice ≡ Some choice
  pub is : choice_from night (take (kept t) path) choice ≡ choice_of t.block
  pub fits : FitsNode night n

-- what a node states of a block
abbrev pub stated : Block → Choice
stated b = record { n = b.n; dep = b.dep; q = b.q; park = b.park }

-- the node of a next block, that many pins before the first node's, as it is noted: a whole path, or a branch with its parent's cases or
-- with its own from a stock
abbrev pub node_below : ℕ → Block → List (List Case) → NodeNoted → Node
node_below pins b stock noted.Whole = record { depth = b.id - pins; choice = Some (stated b); kind = Whole; duals = Bare }
node_below pins b stock noted.Same = record { depth = b.id - pins; choice = Some (stated b); kind = Branch; duals = Same }
node_below pins b stock (noted.Own place) = record { depth = b.id - pins; choice = Some (stated b); kind = Branch; duals = New (cases_in stock place) }

-- cases of its own are in the stock
abbrev pub IsInStock : List (List Case) → NodeNoted → Type 0
IsInStock stock noted.Whole = Unit {0}
IsInStock stock noted.Same = Unit {0}
IsInStock stock (noted.Own place) = place < length stock

-- how many cases of its own it has
abbrev pub cases_of : List (List Case) → NodeNoted → ℕ
cases_of stock noted.Whole = 0
cases_of stock noted.Same = 0
cases_of stock (noted.Own place) = length (cases_in stock place)

-- the cases at a place of a stock hold at a path, and bound each next block that is open there by this or more
pub record IsLifted (version : Version) (night : Night) (stock : List (List Case)) (path : List Block) (best : ℕ) (least : ℤ) (place : ℕ) : Type 0 where
  pub there : place < length stock
  pub hold : HoldIn version night path (cases_in stock place)
  pub opens : OpensAbove version night path (cases_in stock place) best least

-- a path is noted as whole, or as a branch, with cases of its own where they lift it
abbrev pub IsNoted : Version → Night → List (List Case) → List Block → ℕ → ℤ → NodeNoted → Type 0
IsNoted version night stock path best least noted.Whole = next_of (masks_of night path) ≡ None
IsNoted version night stock path best least noted.Same = IsSome (next_of (masks_of night path))
IsNoted version night stock path best least (noted.Own place) = IsSome (next_of (masks_of night path)) × IsLifted version night stock path best least place

-- these children have come to those that wait, as those of the node with this number, whose cases are at this place of the stock
pub record Adds (children : List Child) (parent place : ℕ) (old new : List Pending) : Type 0 where
  pub added : List Pending
  pub is : new ≡ old ++ added
  pub each : map (λ p. p.child) added ≡ children
  pub parents : (p : Pending) → In p added → (p.parent ≡ parent) × (p.cases ≡ place)

-- the children of a path have come
pub record AddsChildren (version : Version) (night : Night) (stock : List (List Case)) (best : ℕ) (path : List Block) (parent place : ℕ) (old new : List Pending) : Type 0 where
  pub children : List Child
  pub are : AreChildren version night path (cases_in stock place) best children
  pub adds : Adds children parent place old new

-- the place in the stock of a node's cases, where its parent's are at this one
abbrev pub place_of : NodeNoted → ℕ → Option ℕ
place_of noted.Whole above = None
place_of noted.Same above = Some above
place_of (noted.Own place) above = Some place

-- where a node has cases, its children have come
abbrev pub Opens : Version → Night → List (List Case) → ℕ → List Block → ℕ → Option ℕ → List Pending → List Pending → Type 0
Opens version night stock best path parent None old new = new ≡ old
Opens version night stock best path parent (Some place) old new = AddsChildren version night stock best path parent place old new

-- the plan that is known stays, or a path has taken its place, with its places as ids: it costs no more than both
pub record KeepsCheaper (night : Night) (path : List Block) (old new : KnownPlan) : Type 0 where
  pub known : new.cost ≤ old.cost
  pub path_too : new.cost ≤ total_cost night path
  pub is : (new ≡ old) ⊎ ((new.blocks.items ≡ placed path) × (new.cost ≡ total_cost night path))

-- a plan is feasible, keeps the pins, and costs this
pub record IsBest (night : Night) (pins blocks : List Block) (best : ℕ) : Type 0 where
  pub feasible : IsFeasible night blocks
  pub keeps : Keeps blocks pins
  pub cost : best ≡ total_cost night blocks
