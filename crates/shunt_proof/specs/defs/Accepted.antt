-- Lean trees, and certificates that are accepted with a plan.
use Rattle.std.specs.Prelude.{◌≡◌, ℕ, ◌≤◌, ◌<◌, ℤ, pos, ◌<ℤ◌, length, List}
use Rattle.shunt_instance.specs.defs.Instance.{Night}
use Rattle.shunt_blocks.specs.declared.records.Block.{Block}
use Rattle.shunt_blocks.specs.defs.Lists.{IsFeasible, total_cost}
use Rattle.shunt_blocks.specs.defs.Pins.{Keeps}
use Rattle.shunt_proof.specs.declared.records.Node.{Node}
use Rattle.shunt_proof.specs.declared.records.Version.{Version}
use Rattle.shunt_proof.specs.declared.records.Version.TheVariants.{Prices}
use Rattle.shunt_proof.specs.declared.records.Certificate.{Certificate}
use Rattle.shunt_proof.specs.defs.Trees.{IsStart, parent, path_at, duals_at, best_before}
use Rattle.shunt_proof.specs.defs.Versions.{IsStepBoundIn}
use Rattle.shunt_proof.specs.defs.Proves.{ProvesIn}

-- the bound of a node's path by its parent's duals is below the best cost before it
pub record IsLeanIn (version : Version) (night : Night) (start : List Block) (nodes : List Node) (k : ℕ) : Type 0 where
  pub bound : ℤ
  pub is : IsStepBoundIn version night (path_at night start nodes (parent nodes k)) (path_at night start nodes k) (duals_at nodes (parent nodes k)) bound
  pub below : bound <ℤ pos (best_before night start nodes k)

-- it is so of each node but the root
abbrev pub AreLeanIn : Version → Night → List Block → List Node → Type 0
AreLeanIn version night start nodes = (k : ℕ) → 1 ≤ k → k < length nodes → IsLeanIn version night start nodes k

-- a plan is feasible, keeps the pins and states its cost, which the certificate has too; the root, whose path is the pins, proves the
-- certificate's bound; and the tree is lean
pub record IsAcceptedIn (version : Version) (night : Night) (pins plan : List Block) (stated : ℕ) (c : Certificate) : Type 0 where
  pub feasible : IsFeasible night plan
  pub keeps : Keeps plan pins
  pub states : stated ≡ total_cost night plan
  pub cost : c.cost ≡ total_cost night plan
  pub start : List Block
  pub begins : IsStart night pins start
  pub root : ProvesIn version night start c.nodes (pos c.bound) 0
  pub lean : AreLeanIn version night start c.nodes

-- a certificate is accepted in its own version
abbrev pub IsAccepted : Night → List Block → List Block → ℕ → Certificate → Type 0
IsAccepted night pins plan stated c = IsAcceptedIn c.version night pins plan stated c

-- ---- the same in version 1

abbrev pub IsLeanAt : Night → List Block → List Node → ℕ → Type 0
IsLeanAt night start nodes k = IsLeanIn Prices night start nodes k

abbrev pub AreLean : Night → List Block → List Node → Type 0
AreLean night start nodes = AreLeanIn Prices night start nodes
