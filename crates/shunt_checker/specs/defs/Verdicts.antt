-- What the checker answers of a plan and a certificate.
use Rattle.std.specs.Prelude.{◌≡◌, ◌≢◌, ◌⊎◌, ℕ, ◌<◌, pos, length, List}
use Rattle.shunt_instance.specs.defs.Instance.{Night}
use Rattle.shunt_blocks.specs.declared.records.Block.{Block}
use Rattle.shunt_blocks.specs.defs.Lists.{total_cost}
use Rattle.shunt_plan.specs.declared.records.Plan.{Plan}
use Rattle.shunt_proof.specs.declared.records.Certificate.{Certificate}
use Rattle.shunt_proof.specs.defs.CertificateRows.{row_of}
use Rattle.shunt_proof.specs.defs.Trees.{IsStart}
use Rattle.shunt_checker.specs.declared.verdict.PlanFault.{PlanFault}
use Rattle.shunt_checker.specs.declared.verdict.Reason.{Reason}
use Rattle.shunt_checker.specs.declared.verdict.Reason.TheVariants as reason
use Rattle.shunt_checker.specs.declared.verdict.Verdict.{Verdict}
use Rattle.shunt_checker.specs.declared.verdict.Verdict.TheVariants as verdict
use Rattle.shunt_checker.specs.defs.PlanFaults.{IsPlanSound, IsFirstPlanFault}
use Rattle.shunt_checker.specs.defs.NodeFaults.{IsNodeSound, IsFirstNodeFault}

-- nothing is wrong with the plan and with the nodes before a number
pub record IsSoundBefore (night : Night) (start : List Block) (plan : Plan) (c : Certificate) (k : ℕ) : Type 0 where
  pub of_plan : IsPlanSound night plan
  pub of_nodes : (j : ℕ) → j < k → IsNodeSound night start c j

-- nothing is wrong with the plan and all nodes, and the certificate has the plan's cost
pub record IsSoundVerdict (night : Night) (start : List Block) (plan : Plan) (c : Certificate) : Type 0 where
  pub before : IsSoundBefore night start plan c (length c.nodes)
  pub cost : c.cost ≡ total_cost night plan.blocks

-- the first reason is one of the plan's
pub record IsOfPlan (night : Night) (plan : Plan) (row : ℕ) (r : Reason) : Type 0 where
  pub fault : PlanFault
  pub first : IsFirstPlanFault night plan fault
  pub at : row ≡ 0
  pub told : r ≡ reason.PlanFinding fault

-- it is one of a node's
pub record IsOfNode (night : Night) (start : List Block) (plan : Plan) (c : Certificate) (row : ℕ) (r : Reason) : Type 0 where
  pub node : ℕ
  pub there : node < length c.nodes
  pub before : IsSoundBefore night start plan c node
  pub first : IsFirstNodeFault night start c node r
  pub at : row ≡ row_of c.nodes node

-- it is that of the last record
pub record IsOfEnd (night : Night) (start : List Block) (plan : Plan) (c : Certificate) (row : ℕ) (r : Reason) : Type 0 where
  pub before : IsSoundBefore night start plan c (length c.nodes)
  pub other : c.cost ≢ total_cost night plan.blocks
  pub at : row ≡ row_of c.nodes (length c.nodes)
  pub told : r ≡ reason.CostStated (pos c.cost) (pos (total_cost night plan.blocks))

-- the first reason and its row: the plan is looked at first, then each node in its turn, then the last record
abbrev pub IsFirstReason : Night → List Block → Plan → Certificate → ℕ → Reason → Type 0
IsFirstReason night start plan c row r = IsOfPlan night plan row r ⊎ (IsOfNode night start plan c row r ⊎ IsOfEnd night start plan c row r)

-- accepted with the certificate's bound where nothing is wrong, else rejected with the first reason
abbrev pub Answers : Night → List Block → Plan → Certificate → Verdict → Type 0
Answers night start plan c (verdict.Accepted bound) = (bound ≡ c.bound) × IsSoundVerdict night start plan c
Answers night start plan c (verdict.Rejected row r) = IsFirstReason night start plan c row r

-- the verdict on a certificate whose root's path is the pins
pub record IsVerdict (night : Night) (pins : List Block) (plan : Plan) (c : Certificate) (v : Verdict) : Type 0 where
  pub start : List Block
  pub begins : IsStart night pins start
  pub answers : Answers night start plan c v

-- the certificate is accepted
abbrev pub Accepts : Verdict → Type 0
Accepts (verdict.Accepted bound) = Unit {0}
Accepts (verdict.Rejected row r) = ⊥
