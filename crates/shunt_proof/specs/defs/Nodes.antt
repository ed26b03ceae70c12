-- Nodes that a file can state, and lists of them.
use Rattle.std.specs.Prelude.{◌≡◌, ◌≢◌, ℕ, ◌+◌, ◌-◌, ◌<◌, ◌≤◌, All, length, slice_index_or, slice_get, List, Option, Some, None}
use Rattle.shunt_instance.specs.defs.Instance.{Night}
use Rattle.shunt_blocks.specs.defs.Shapes.{IsOnTrack}
use Rattle.shunt_prices.specs.defs.Limits.{AreApart, AreCases}
use Rattle.shunt_base.specs.declared.duals.Case.{Case}
use Rattle.shunt_proof.specs.declared.records.Choice.{Choice}
use Rattle.shunt_proof.specs.declared.records.NodeKind.{NodeKind}
use Rattle.shunt_proof.specs.declared.records.NodeKind.TheVariants.{Branch, Leaf, Whole}
use Rattle.shunt_proof.specs.declared.records.NodeDuals.{NodeDuals}
use Rattle.shunt_proof.specs.declared.records.NodeDuals.TheVariants.{Same, New, Bare}
use Rattle.shunt_proof.specs.declared.records.Node.{Node}

-- the node with a number, from 0
abbrev pub node_at : List Node → ℕ → Node
node_at nodes k = slice_index_or nodes k (record { depth = 0; choice = None; kind = Leaf; duals = Bare })

-- from 1 to 8 units, from a place of 1 to 8 on, whose departing train and track are the night's
pub record FitsChoice (night : Night) (c : Choice) : Type 0 where
  pub some : 1 ≤ c.n
  pub few : c.n ≤ 8
  pub dep : c.dep.0 < length night.depart
  pub from : 1 ≤ c.q
  pub to : c.q ≤ 8
  pub track : IsOnTrack night.station c.park

-- the root alone, at depth 0, has no choice
abbrev pub FitsDepth : Night → ℕ → Option Choice → Type 0
FitsDepth night depth None = depth ≡ 0
FitsDepth night depth (Some c) = (1 ≤ depth) × FitsChoice night c

-- cases within the limits, no two prices of one of which agree in kind, track and train
pub record AreStatable (night : Night) (cases : List Case) : Type 0 where
  pub within : AreCases night cases
  pub apart : All (λ c. AreApart c.duals.prices) cases

-- none for a whole path alone; else its own, or its parent's where it has one
abbrev pub FitDuals : Night → ℕ → NodeKind → NodeDuals → Type 0
FitDuals night depth kind Bare = kind ≡ Whole
FitDuals night depth kind Same = (kind ≢ Whole) × (1 ≤ depth)
FitDuals night depth kind (New cases) = (kind ≢ Whole) × AreStatable night cases

-- a node whose values a file can state
pub record FitsNode (night : Night) (n : Node) : Type 0 where
  pub depth : n.depth ≤ 160
  pub choice : FitsDepth night n.depth n.choice
  pub duals : FitDuals night n.depth n.kind n.duals

-- the second node can stand right after the first: no more than one deeper, and that only below a branch
pub record Follows (before n : Node) : Type 0 where
  pub some : 1 ≤ n.depth
  pub most : n.depth ≤ before.depth + 1
  pub branch : n.depth ≡ before.depth + 1 → before.kind ≡ Branch

-- a node can stand here: the root as the first, any other one right after a node that it can follow
abbrev pub StandsAfter : Option Node → Node → Type 0
StandsAfter None n = n.depth ≡ 0
StandsAfter (Some before) n = Follows before n

-- nodes that a file can state, in an order in which it can
pub record AreNodes (night : Night) (nodes : List Node) : Type 0 where
  pub each : All (FitsNode night) nodes
  pub root : 0 < length nodes → StandsAfter None (node_at nodes 0)
  pub follow : (k : ℕ) → k + 1 < length nodes → StandsAfter (Some (node_at nodes k)) (node_at nodes (k + 1))

-- a node can stand right after all of these
abbrev pub CanFollow : List Node → Node → Type 0
CanFollow nodes n = StandsAfter (slice_get nodes (length nodes - 1)) n
