-- The cases at the root of a tree, and bounds that are at least the assignment bound, and at least the root's.
use Rattle.std.specs.Prelude.{ℕ, ℤ, pos, ◌≤ℤ◌, List}
use Rattle.shunt_base.specs.declared.duals.Case.{Case}
use Rattle.shunt_instance.specs.defs.Instance.{Night}
use Rattle.shunt_blocks.specs.declared.records.Block.{Block}
use Rattle.shunt_blocks.specs.defs.Lists.{IsFeasible, total_cost}
use Rattle.shunt_blocks.specs.defs.Pins.{Keeps}
use Rattle.shunt_dual.specs.defs.Assignments.{IsAssignmentBound}
use Rattle.shunt_proof.specs.declared.records.Node.{Node}
use Rattle.shunt_proof.specs.declared.records.Version.{Version}
use Rattle.shunt_proof.specs.defs.Nodes.{AreStatable}
use Rattle.shunt_proof.specs.defs.Trees.{duals_at}
use Rattle.shunt_proof.specs.defs.Versions.{HoldIn, IsBoundIn, ReachesIn}
use Rattle.shunt_search.specs.declared.root_bounds.Root.{Root}

-- the bound of a path by cases of a version is at least this
abbrev pub IsAbove : Version → Night → List Block → List Case → ℕ → Type 0
IsAbove version night path cases floor = (bound : ℤ) → IsBoundIn version night path cases bound → pos floor ≤ℤ bound

-- cases that a file can state and that hold at a path, whose bound by them is at least the assignment bound
pub record AreRooted (version : Version) (night : Night) (path : List Block) (cases : List Case) : Type 0 where
  pub statable : AreStatable night cases
  pub hold : HoldIn version night path cases
  pub floor : ℕ
  pub assignment : IsAssignmentBound night floor
  pub above : IsAbove version night path cases floor

-- a floor of a walk whose root has these cases: it is at least the assignment bound, and they bound the path by it or more
pub record IsFloor (version : Version) (night : Night) (path : List Block) (cases : List Case) (assignment : ℕ) (floor : ℤ) : Type 0 where
  pub high : pos assignment ≤ℤ floor
  pub reach : ReachesIn version night path cases floor

-- a floor of what nodes show: it is at least another one, and at least each bound of the start by the first node's cases; and no plan that
-- keeps the pins costs less
pub record IsBase (version : Version) (night : Night) (pins start : List Block) (nodes : List Node) (other floor : ℤ) : Type 0 where
  pub least : other ≤ℤ floor
  pub root : (bound : ℤ) → IsBoundIn version night start (duals_at nodes 0) bound → bound ≤ℤ floor
  pub plans : (plan : List Block) → IsFeasible night plan → Keeps plan pins → floor ≤ℤ pos (total_cost night plan)

-- cases for a root, with a floor
pub record IsRoot (version : Version) (night : Night) (path : List Block) (r : Root) : Type 0 where
  pub rooted : AreRooted version night path r.cases
  pub low : IsFloor version night path r.cases rooted.floor r.floor
