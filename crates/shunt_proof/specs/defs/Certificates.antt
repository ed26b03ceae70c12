-- Which certificates a file can state.
use Rattle.std.specs.Prelude.{ℕ, ◌≤◌, List, length, sum_by}
use Rattle.shunt_instance.specs.defs.Instance.{Night}
use Rattle.shunt_proof.specs.declared.records.NodeDuals.{NodeDuals}
use Rattle.shunt_proof.specs.declared.records.NodeDuals.TheVariants as duals
use Rattle.shunt_proof.specs.declared.records.Node.{Node}
use Rattle.shunt_proof.specs.declared.records.Certificate.{Certificate}
use Rattle.shunt_proof.specs.defs.Nodes.{AreNodes}
use Rattle.shunt_proof.specs.defs.Numbers.{CanBeRead}

-- how many cases of its own a node has
abbrev pub own_cases : NodeDuals → ℕ
own_cases (duals.New cases) = length cases
own_cases _ = 0

-- how many cases nodes have
abbrev pub case_total : List Node → ℕ
case_total nodes = sum_by (λ x. own_cases x.duals) nodes

-- from 1 to 5,000 nodes that a file can state, with at most 8,000 cases, a cost and a bound of at most 10^12, and a version that is read
pub record IsCertificate (night : Night) (c : Certificate) : Type 0 where
  pub some : 1 ≤ length c.nodes
  pub few : length c.nodes ≤ 5000
  pub cases : case_total c.nodes ≤ 8000
  pub nodes : AreNodes night c.nodes
  pub cost : c.cost ≤ 1000000000000
  pub bound : c.bound ≤ 1000000000000
  pub version : CanBeRead c.version
