-- What a plan and a certificate say that `plan`, `pinned` and `improve` leave, in words that speak neither of duals nor of trees.
use Rattle.std.specs.Prelude.{◌≡◌, ℕ, ◌<◌, ◌≤◌, List, length, map}
use Rattle.shunt_instance.specs.defs.Instance.{Night}
use Rattle.shunt_blocks.specs.declared.records.Block.{Block}
use Rattle.shunt_blocks.specs.defs.Lists.{IsFeasible, total_cost}
use Rattle.shunt_blocks.specs.defs.Pins.{Keeps, without_id}
use Rattle.shunt_choices.specs.defs.Paths.{IsPartialPlan}
use Rattle.shunt_plan.specs.declared.records.Plan.{Plan}
use Rattle.shunt_plan.specs.defs.Plans.{IsPlanInRange}
use Rattle.shunt_proof.specs.declared.records.Node.{Node}
use Rattle.shunt_proof.specs.declared.records.Certificate.{Certificate}
use Rattle.shunt_proof.specs.defs.Accepted.{IsAccepted}
use Rattle.shunt_proof.specs.defs.Certificates.{IsCertificate}
use Rattle.shunt_proof.specs.defs.Trees.{IsStart, path_at}
use Rattle.shunt_search.specs.defs.Conditions.{IsAboveRoot, AreSteady}

-- the plan is feasible, keeps the pins and states its cost, and every feasible plan of the night that keeps them costs at least the bound
pub record IsBounded (night : Night) (pins : List Block) (plan : Plan) (bound : ℕ) : Type 0 where
  pub feasible : IsFeasible night plan.blocks
  pub keeps : Keeps plan.blocks pins
  pub states : plan.cost ≡ total_cost night plan.blocks
  pub least : (other : List Block) → IsFeasible night other → Keeps other pins → bound ≤ total_cost night other

-- no feasible plan that keeps the pins costs less
abbrev pub IsCheapest : Night → List Block → Plan → Type 0
IsCheapest night pins plan = IsBounded night pins plan plan.cost

-- files can state the plan and the certificate, so their texts state no others; and the certificate is accepted with the plan: its root
-- proves its bound, and its tree is lean. The bound isn't below the root's, and no node gives a bound away
pub record AreStated (night : Night) (pins : List Block) (plan : Plan) (c : Certificate) : Type 0 where
  pub in_range : IsPlanInRange night plan
  pub statable : IsCertificate night c
  pub accepted : IsAccepted night pins plan.blocks plan.cost c
  pub above_root : IsAboveRoot night pins c
  pub steady : AreSteady night pins c

-- that many nodes, whose paths are partial plans over the pins that differ by more than their ids
pub record AreDifferent (night : Night) (pins : List Block) (nodes : List Node) (many : ℕ) : Type 0 where
  pub many_nodes : length nodes ≡ many
  pub start : List Block
  pub begins : IsStart night pins start
  pub partial : (k : ℕ) → k < length nodes → IsPartialPlan night pins (path_at night start nodes k)
  pub differ : (j k : ℕ) → j < length nodes → k < length nodes → map without_id (path_at night start nodes j) ≡ map without_id (path_at night start nodes k) → j ≡ k
