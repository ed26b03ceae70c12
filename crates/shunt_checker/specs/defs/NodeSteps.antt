-- What is found of a node, rank by rank.
use Rattle.std.specs.Prelude.{◌≡◌, ℕ, ◌≤◌, List, Option, Some, None}
use Rattle.shunt_instance.specs.defs.Instance.{Night}
use Rattle.shunt_blocks.specs.declared.records.Block.{Block}
use Rattle.shunt_proof.specs.declared.records.Certificate.{Certificate}
use Rattle.shunt_proof.specs.defs.Trees.{parent, path_at, best_before}
use Rattle.shunt_checker.specs.declared.verdict.Reason.{Reason}
use Rattle.shunt_checker.specs.defs.NodeFaults.{NodeFault, IsNodeFault, IsNodeSound, IsFirstNodeFault, node_rank}

-- what is wrong with a node has this rank or a later one
abbrev pub NodeFrom : Night → List Block → Certificate → ℕ → ℕ → Type 0
NodeFrom night start c k rank = (f : NodeFault) (r : Reason) → IsNodeFault night start c k f r → rank ≤ node_rank f

-- the reason that is told first, or that what is wrong has this rank or a later one
abbrev pub Passes : Night → List Block → Certificate → ℕ → ℕ → Option Reason → Type 0
Passes night start c k rank None = NodeFrom night start c k rank
Passes night start c k rank (Some r) = IsFirstNodeFault night start c k r

-- what is found of a node at its path, where the roots of both agree, from one rank to another
abbrev pub Judges : Night → Certificate → ℕ → List Block → ℕ → ℕ → Option Reason → Type 0
Judges night c k path from to r = (start : List Block) → path ≡ path_at night start c.nodes k → NodeFrom night start c k from → Passes night start c k to r

-- the same of a node that isn't the root, at its parent's path
abbrev pub JudgesBelow : Night → Certificate → ℕ → List Block → ℕ → ℕ → Option Reason → Type 0
JudgesBelow night c k path from to r = (start : List Block) → path ≡ path_at night start c.nodes (parent c.nodes k) → NodeFrom night start c k from → Passes night start c k to r

-- the reason that is told first of a node's choice and bound, where this is the best cost before it, or that there is none
abbrev pub JudgesChild : Night → Certificate → ℕ → List Block → ℕ → Option Reason → Type 0
JudgesChild night c k path best r = (start : List Block) → path ≡ path_at night start c.nodes (parent c.nodes k) → best ≡ best_before night start c.nodes k
    → Passes night start c k 4 r

-- where the first is the path of a node's parent, the second is the node's
abbrev pub LeadsDown : Night → Certificate → ℕ → List Block → List Block → Type 0
LeadsDown night c k old new = (start : List Block) → old ≡ path_at night start c.nodes (parent c.nodes k) → new ≡ path_at night start c.nodes k

-- the reason that is told first, or that nothing is wrong
abbrev pub FindsReason : Night → List Block → Certificate → ℕ → Option Reason → Type 0
FindsReason night start c k None = IsNodeSound night start c k
FindsReason night start c k (Some r) = IsFirstNodeFault night start c k r
