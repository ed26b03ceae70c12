-- What a node's children say.
use Rattle.std.specs.Prelude.{◌≡◌, ℕ, List, Some}
use Rattle.shunt_choices.specs.defs.Choices.{Choice as PathChoice}
use Rattle.shunt_proof.specs.declared.records.Choice.{Choice}
use Rattle.shunt_proof.specs.declared.records.Node.{Node}
use Rattle.shunt_proof.specs.defs.Nodes.{node_at}
use Rattle.shunt_proof.specs.defs.Trees.{depth_at, IsChildOf}

-- the node with a number has a depth and states a choice
pub record StatesAt (nodes : List Node) (deep : ℕ) (choice : Choice) (j : ℕ) : Type 0 where
  pub depth : depth_at nodes j ≡ deep
  pub same : (node_at nodes j).choice ≡ Some choice

-- what a node says of a choice
abbrev pub said : PathChoice → Choice
said d = record { n = d.shape.n; dep = d.shape.dep; q = d.shape.q; park = d.option }

-- a child of a node states this choice
pub record HasChild (nodes : List Node) (k : ℕ) (choice : Choice) : Type 0 where
  pub child : ℕ
  pub below : IsChildOf nodes k child
  pub same : (node_at nodes child).choice ≡ Some choice
