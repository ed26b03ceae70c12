-- What holds while a tree is searched.
use Rattle.std.specs.Prelude.{◌≡◌, ℕ, ◌+◌, ◌<◌, ◌≤◌, true, ℤ, pos, ◌≤ℤ◌, All, List, [], ◌∷◌, ◌++◌, take, length, Option, None, IfSome}
use Rattle.shunt_store.specs.defs.Files.{BothTold}
use Rattle.shunt_base.specs.declared.duals.Case.{Case}
use Rattle.shunt_instance.specs.defs.Instance.{Night, unit_total, position_total}
use Rattle.shunt_blocks.specs.declared.records.Block.{Block}
use Rattle.shunt_blocks.specs.defs.Lists.{RunsThrough, placed}
use Rattle.shunt_blocks.specs.defs.Pins.{AreUsable, opening_cost}
use Rattle.shunt_proof.specs.declared.records.NodeKind.TheVariants.{Branch, Whole}
use Rattle.shunt_proof.specs.declared.records.NodeDuals.TheVariants.{New, Bare}
use Rattle.shunt_proof.specs.declared.records.Node.{Node}
use Rattle.shunt_proof.specs.declared.records.Version.{Version}
use Rattle.shunt_proof.specs.declared.records.Version.TheVariants.{Prices}
use Rattle.shunt_proof.specs.defs.Nodes.{AreStatable, CanFollow}
use Rattle.shunt_proof.specs.defs.Certificates.{case_total}
use Rattle.shunt_proof.specs.defs.Trees.{IsStart}
use Rattle.shunt_search.specs.declared.yard.Yard.{Yard}
use Rattle.shunt_search.specs.declared.known.KnownPlan.{KnownPlan}
use Rattle.shunt_search.specs.declared.root_bounds.Root.{Root}
use Rattle.shunt_search.specs.declared.walk_stack.Pending.{Pending}
use Rattle.shunt_search.specs.declared.notes.NodeNoted.{NodeNoted}
use Rattle.shunt_search.specs.declared.search_state.Search.{Search}
use Rattle.shunt_search.specs.defs.Yards.{IsYard, IsNextBlock}
use Rattle.shunt_search.specs.defs.WalkStates.{kept, goal_of, cases_in, node_below, IsInStock, cases_of, place_of, IsNoted, Opens, IsLesser, Passes, IsWalk, KeepsCheaper, IsBest}
use Rattle.shunt_search.specs.defs.Steady.{IsSteady}
use Rattle.shunt_search.specs.defs.Roots.{AreRooted, IsFloor, IsBase, IsRoot}

-- a stock of cases that a file can state, the root's first
pub record IsStock (night : Night) (stock : List (List Case)) : Type 0 where
  pub some : 0 < length stock
  pub each : All (AreStatable night) stock

-- some nodes are a walk from the pins to the yard's path, with these children left: they are the nodes that are told, where any are told,
-- and that many, with that many cases of their own; what they show is at least the bound of the pins by the root's cases, and at least the
-- search's floor, which isn't below the assignment bound; and the low bound is the best cost where the walk is plain
pub record IsSearch (version : Version) (night : Night) (pins : List Block) (stock : List (List Case)) (told : Option (List Node)) (number owned : ℕ) (waiting : List Pending)
    (s : Search) : Type 0 where
  pub start : List Block
  pub nodes : List Node
  pub usable : AreUsable night pins
  pub even : position_total night ≡ unit_total night
  pub begins : IsStart night pins start
  pub stocked : IsStock night stock
  pub rooted : AreRooted version night start (cases_in stock 0)
  pub lowest : IsFloor version night start (cases_in stock 0) rooted.floor s.floor
  pub floor : ℤ
  pub base : IsBase version night pins start nodes s.floor floor
  pub walk : IsWalk version night start stock floor nodes s.yard.path.blocks waiting s.known.cost s.low
  pub steady : IsSteady version night start nodes s.yard.path.blocks waiting s.known.cost s.low
  pub high : floor ≤ℤ s.low
  pub tells : IfSome told (λ now. now ≡ nodes)
  pub many : number ≡ length nodes
  pub counted : s.count ≡ number
  pub cases : owned ≡ case_total nodes
  pub cases_counted : s.owned ≡ owned
  pub room : owned ≤ 8000
  pub yard : IsYard night s.yard
  pub long : s.yard.path.pins ≡ length start
  pub best : IsBest night pins s.known.blocks.items s.known.cost
  pub small : s.known.cost ≤ 1000000000000
  pub plain : s.plain ≡ true → s.low ≡ pos s.known.cost

-- a yard can go to a child, whose node can follow those that are told, as whatever it is noted
pub record IsReady (night : Night) (stock : List (List Case)) (told : Option (List Node)) (y : Yard) (t : Pending) : Type 0 where
  pub pins : y.path.pins ≤ kept t.child
  pub there : kept t.child ≤ length y.path.blocks
  pub next : IsNextBlock night (take (kept t.child) y.path.blocks) t.child.block
  pub through : RunsThrough night (placed (goal_of y.path.blocks t.child))
  pub inherits : t.cases < length stock
  pub place : (how : NodeNoted) → IsInStock stock how → IfSome told (λ nodes. CanFollow nodes (node_below y.path.pins t.child.block stock how))

-- a search has gone to a child, and has noted its path
pub record Arrives (version : Version) (night : Night) (stock : List (List Case)) (s z : Search) (t : Pending) (how : NodeNoted) (left : List Pending) : Type 0 where
  pub path : z.yard.path.blocks ≡ goal_of s.yard.path.blocks t.child
  pub pins : z.yard.path.pins ≡ s.yard.path.pins
  pub yard : IsYard night z.yard
  pub is_noted : IsNoted version night stock (goal_of s.yard.path.blocks t.child) s.known.cost t.child.bound how
  pub opens : Opens version night stock s.known.cost (goal_of s.yard.path.blocks t.child) s.count (place_of how t.cases) left z.waiting.items
  pub known : z.known ≡ s.known
  pub low : z.low ≡ s.low
  pub floor : z.floor ≡ s.floor
  pub plain : z.plain ≡ s.plain
  pub counted : z.count ≡ s.count + 1
  pub cases_counted : z.owned ≡ s.owned + cases_of stock how
  pub room : z.owned ≤ 8000

-- the yard's path has taken the place of the plan that is known, where it costs less
pub record Takes (night : Night) (s z : Search) : Type 0 where
  pub yard : z.yard ≡ s.yard
  pub waiting : z.waiting.items ≡ s.waiting.items
  pub cheaper : KeepsCheaper night s.yard.path.blocks s.known z.known
  pub low : IsLesser s.low (pos z.known.cost) z.low
  pub floor : z.floor ≡ s.floor
  pub plain : z.plain ≡ s.plain
  pub counted : z.count ≡ s.count
  pub cases_counted : z.owned ≡ s.owned

-- children were closed or passed over
pub record Falls (s z : Search) (old left : List Pending) : Type 0 where
  pub yard : z.yard ≡ s.yard
  pub known : z.known ≡ s.known
  pub passes : Passes old left s.low z.low
  pub low : s.plain ≡ true → z.low ≡ s.low
  pub floor : z.floor ≡ s.floor
  pub plain : z.plain ≡ s.plain
  pub counted : z.count ≡ s.count
  pub cases_counted : z.owned ≡ s.owned

-- a search that is to begin: the path is the pins in order, and the plan that is known costs at most the one that parks nothing else
pub record IsFresh (version : Version) (night : Night) (pins : List Block) (stock : List (List Case)) (s : Search) : Type 0 where
  pub usable : AreUsable night pins
  pub even : position_total night ≡ unit_total night
  pub begins : IsStart night pins s.yard.path.blocks
  pub stocked : IsStock night stock
  pub rooted : AreRooted version night s.yard.path.blocks (cases_in stock 0)
  pub lowest : IsFloor version night s.yard.path.blocks (cases_in stock 0) rooted.floor s.floor
  pub yard : IsYard night s.yard
  pub long : s.yard.path.pins ≡ length s.yard.path.blocks
  pub best : IsBest night pins s.known.blocks.items s.known.cost
  pub opening : s.known.cost ≤ opening_cost night pins
  pub small : s.known.cost ≤ 1000000000000
  pub low : s.low ≡ pos s.known.cost
  pub empty : s.waiting.items ≡ []

-- what a search can begin with again: cases by prices for the root of the pins, with a floor, and a plan that costs at most the one that
-- parks nothing else
pub record IsGround (night : Night) (pins : List Block) (r : Root) (k : KnownPlan) : Type 0 where
  pub usable : AreUsable night pins
  pub even : position_total night ≡ unit_total night
  pub root : (start : List Block) → IsStart night pins start → IsRoot Prices night start r
  pub best : IsBest night pins k.blocks.items k.cost
  pub opening : k.cost ≤ opening_cost night pins
  pub small : k.cost ≤ 1000000000000

-- its root was noted, with that many cases
pub record Begins (s z : Search) (cases : ℕ) : Type 0 where
  pub yard : z.yard ≡ s.yard
  pub known : z.known ≡ s.known
  pub low : z.low ≡ s.low
  pub floor : z.floor ≡ s.floor
  pub counted : z.count ≡ 1
  pub cases_counted : z.owned ≡ cases

-- it has gone back to the pins, and nothing is left
pub record StartsAgain (night : Night) (pins : List Block) (s z : Search) : Type 0 where
  pub begins : IsStart night pins z.yard.path.blocks
  pub many : z.yard.path.pins ≡ length pins
  pub yard : IsYard night z.yard
  pub known : z.known ≡ s.known
  pub low : z.low ≡ pos z.known.cost
  pub floor : z.floor ≡ s.floor
  pub empty : z.waiting.items ≡ []

-- the root's node: whole, or a branch with its cases
abbrev pub whole_root : Node
whole_root = record { depth = 0; choice = None; kind = Whole; duals = Bare }

abbrev pub branch_root : List Case → Node
branch_root cases = record { depth = 0; choice = None; kind = Branch; duals = New cases }

-- the root is the one node that is told, where any are told
abbrev pub TellsRoot : Node → Option (List Node) → Option (List Node) → Type 0
TellsRoot root told now = IfSome told (λ nodes. nodes ≡ []) × BothTold told now (λ old new. new ≡ old ++ root ∷ [])

-- both are told, or neither is
abbrev pub TellsOn : Option (List Node) → Option (List Node) → Type 0
TellsOn told now = BothTold told now (λ old new. Unit {0})
