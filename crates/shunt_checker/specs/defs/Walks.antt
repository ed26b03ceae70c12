-- What is known of a certificate's nodes before a number, on the way down to it.
use Rattle.std.specs.Prelude.{◌≡◌, ◌≢◌, ℕ, zero, suc, ◌+◌, ◌-◌, ◌<◌, ◌≤◌, All, take, length, slice_index_or, List, Option, Some, None}
use Rattle.shunt_instance.specs.defs.Instance.{Night}
use Rattle.shunt_blocks.specs.declared.records.Block.{Block}
use Rattle.shunt_blocks.specs.defs.Blocks.{IsBlockButId}
use Rattle.shunt_blocks.specs.defs.Lists.{RunsThrough, placed}
use Rattle.shunt_choices.specs.defs.Paths.{Trail, IsTrailOf}
use Rattle.shunt_proof.specs.declared.records.NodeKind.TheVariants.{Whole}
use Rattle.shunt_proof.specs.declared.records.NodeDuals.{NodeDuals}
use Rattle.shunt_proof.specs.declared.records.NodeDuals.TheVariants.{New}
use Rattle.shunt_proof.specs.declared.records.Node.{Node}
use Rattle.shunt_proof.specs.declared.records.Certificate.{Certificate}
use Rattle.shunt_proof.specs.defs.Nodes.{node_at}
use Rattle.shunt_proof.specs.defs.Trees.{depth_at, nearest, path_at, duals_at, best_before}
use Rattle.shunt_checker.specs.declared.verdict.Reason.{Reason}
use Rattle.shunt_checker.specs.declared.walk.Frame.{Frame}
use Rattle.shunt_checker.specs.declared.walk.Fault.{Fault}
use Rattle.shunt_checker.specs.defs.NodeFaults.{IsNodeSound, IsFirstNodeFault, AreSound}

-- a node's duals are the own ones of another
pub record IsOwner (nodes : List Node) (j owner : ℕ) : Type 0 where
  pub there : owner < length nodes
  pub own : (node_at nodes owner).duals ≡ New (duals_at nodes j)

-- they are a node's own
abbrev pub AreOwn : NodeDuals → Type 0
AreOwn (New cases) = Unit {0}
AreOwn _ = ⊥

-- whose own duals hold at a node that isn't whole
abbrev pub Owns : List Node → ℕ → ℕ → Type 0
Owns nodes j owner = (node_at nodes j).kind ≢ Whole → IsOwner nodes j owner

-- a node, and whose own duals hold there
pub record IsFrame (nodes : List Node) (j : ℕ) (f : Frame) : Type 0 where
  pub node : f.node ≡ j
  pub owner : Owns nodes j f.owner

-- for each depth the last node before a number
abbrev pub AreFrames : List Node → ℕ → List Frame → Type 0
AreFrames nodes k frames = (d : ℕ) → d ≤ 160 → IsFrame nodes (nearest nodes d k) (slice_index_or frames d (record { node = 0; owner = 0 }))

-- the path of the node before a number; the root's before the first
abbrev pub path_before : Night → List Block → List Node → ℕ → List Block
path_before night start nodes zero = start
path_before night start nodes (suc k) = path_at night start nodes k

-- the front of a path that a parent of a node behind it has
abbrev pub front_of : List Node → ℕ → Trail → List Block
front_of nodes k t = take (t.pins + (depth_at nodes k - 1)) t.blocks

-- what is known before a number
pub record IsWalk (night : Night) (start : List Block) (c : Certificate) (k : ℕ) (t : Trail) (table : List Frame) (least : ℕ) : Type 0 where
  pub of : IsTrailOf night t
  pub path : t.blocks ≡ path_before night start c.nodes k
  pub through : RunsThrough night (placed t.blocks)
  pub each : All (IsBlockButId night) t.blocks
  pub pins : t.pins ≡ length start
  pub long : length table ≡ 161
  pub frames : AreFrames c.nodes k table
  pub best : least ≡ best_before night start c.nodes k
  pub small : least ≤ 4000000000
  pub sound : AreSound night start c k

-- a path of blocks is that of a node, and its run goes through
pub record IsAtNode (night : Night) (start : List Block) (c : Certificate) (k : ℕ) (t : Trail) : Type 0 where
  pub of : IsTrailOf night t
  pub path : t.blocks ≡ path_at night start c.nodes k
  pub through : RunsThrough night (placed t.blocks)
  pub each : All (IsBlockButId night) t.blocks
  pub pins : t.pins ≡ length start

-- the reason that is told first of a node, or nothing is wrong with it and a path is the node's
abbrev pub Settles : Night → List Block → Certificate → ℕ → Trail → Option Reason → Type 0
Settles night start c k t None = IsNodeSound night start c k × IsAtNode night start c k t
Settles night start c k t (Some r) = IsFirstNodeFault night start c k r

-- the first node with which something is wrong, and what of it is told
pub record IsFirstFault (night : Night) (start : List Block) (c : Certificate) (f : Fault) : Type 0 where
  pub there : f.node < length c.nodes
  pub before : AreSound night start c f.node
  pub first : IsFirstNodeFault night start c f.node f.reason

-- that, or nothing is wrong
abbrev pub FindsFault : Night → List Block → Certificate → Option Fault → Type 0
FindsFault night start c None = AreSound night start c (length c.nodes)
FindsFault night start c (Some f) = IsFirstFault night start c f
