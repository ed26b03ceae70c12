-- Certificates that are accepted: their bound, and the number of their nodes.
use Rattle.std.specs.Prelude.{All, IsPermutation, ◌≤ℤ◌}
use Rattle.std.proofs.Common.{◌≡◌, ℕ, ◌<◌, ◌≤◌, List, [], ◌∷◌, length, ℤ, pos, sym, subst, arith}
use Rattle.std.proofs.lemmas.Int.{ints}
use Rattle.shunt_instance.specs.defs.Instance.{Night, IsInstance}
use Rattle.shunt_blocks.specs.declared.records.Block.{Block}
use Rattle.shunt_blocks.specs.defs.Shapes.{IsWithinTrains}
use Rattle.shunt_blocks.specs.defs.Lists.{ShareNothing, IsFeasible, total_cost}
use Rattle.shunt_blocks.specs.defs.Pins.{AreUsable, Keeps}
use Rattle.shunt_choices.specs.defs.Paths.{IsPartialPlan, AreInOrder}
use Rattle.shunt_choices.specs.defs.Choices.{partial_plans}
use Rattle.shunt_choices.proofs.SortedBlocks.{share_nothing}
use Rattle.shunt_proof.specs.declared.records.Node.{Node}
use Rattle.shunt_proof.specs.declared.records.Version.{Version}
use Rattle.shunt_proof.specs.declared.records.Version.TheVariants.{Prices, Stacks}
use Rattle.shunt_proof.specs.declared.records.Certificate.{Certificate}
use Rattle.shunt_proof.specs.defs.Nodes.{AreNodes}
use Rattle.shunt_proof.specs.defs.Trees.{IsStart}
use Rattle.shunt_proof.specs.defs.Proves.{ShowsByDualsIn, IsPlaced, ProvesIn}
use Rattle.shunt_proof.specs.defs.Accepted.{IsAcceptedIn}
use Rattle.shunt_proof.proofs.Depths.{root_path}
use Rattle.shunt_proof.proofs.Locally.{opened, root_right}
use Rattle.shunt_proof.proofs.Proved.{BoundLaws, proved}
use Rattle.shunt_proof.proofs.Few.{CountLaws, at_most}
use Rattle.shunt_proof.proofs.Starts.{still_keeps}

-- no nodes prove nothing
no_cases : (version : Version) (night : Night) (path : List Block) (L : ℤ) → ShowsByDualsIn version night path [] L → ⊥
no_cases Prices night path L s = omega (arith, s.bound.1.opens.there)
no_cases Stacks night path L s = omega (arith, s.bound.1.least.opens.there)

nothing_proved : (version : Version) (night : Night) (start : List Block) (L : ℤ) → ProvesIn version night start [] L 0 → ⊥
nothing_proved version night start L p = no_cases version night start L (opened version night start [] L 0 p).shows

pub some_nodes : (version : Version) (night : Night) (start : List Block) (nodes : List Node) (L : ℤ) → ProvesIn version night start nodes L 0 → 1 ≤ length nodes
some_nodes version night start [] L p = absurd (nothing_proved version night start L p)
some_nodes version night start (n ∷ nodes) L p = omega arith

pub accepted_bound : (laws : BoundLaws) (version : Version) (night : Night) → IsInstance night → (pins own : List Block) (stated : ℕ) (c : Certificate) → AreNodes night c.nodes
    → ShareNothing night pins → IsAcceptedIn version night pins own stated c
    → (plan : List Block) → IsFeasible night plan → Keeps plan pins → c.bound ≤ total_cost night plan
accepted_bound laws version night i pins own stated c h apart a plan f keeps =
    let some = some_nodes version night a.start c.nodes (pos c.bound) a.root in
    let at = root_path night c.nodes h a.start some in
    let low : pos c.bound ≤ℤ pos (total_cost night plan) = proved laws night i a.start c.nodes h plan f version (pos c.bound) 0 some a.root
    (subst (ShareNothing night) (sym at) (share_nothing night pins a.start a.begins.same apart))
    (subst (Keeps plan) (sym at) (still_keeps plan pins a.start a.begins.same keeps)) in
    omega (arith, ints, low)

-- what more the laws of the crates below say
pub record PinLaws : Type 0 where
  pub alone : (night : Night) (pins start : List Block) → IsInstance night → AreUsable night pins → IsPermutation pins start → AreInOrder night start
      → IsPartialPlan night pins start
  pub any_order : (night : Night) (blocks others : List Block) → IsInstance night → All (IsWithinTrains night) blocks → ShareNothing night blocks → IsPermutation blocks others
      → partial_plans night blocks ≡ partial_plans night others

pub few_nodes : (laws : CountLaws) (pinned : PinLaws) (night : Night) (i : IsInstance night) (pins start : List Block) (nodes : List Node) → AreNodes night nodes
    → AreUsable night pins → IsStart night pins start
    → ((k : ℕ) → 1 ≤ k → k < length nodes → IsPlaced night start nodes k) → length nodes ≤ partial_plans night pins
few_nodes laws pinned night i pins start nodes h usable s all =
    let order = pinned.any_order night pins start i (λ k d lt. (usable.in_range.each k d lt).within) usable.apart s.same in
    omega (arith, order, at_most laws night i start nodes h all pins (pinned.alone night pins start i usable s.same s.rises))

pub few_accepted : (laws : CountLaws) (pinned : PinLaws) (version : Version) (night : Night) (i : IsInstance night) (pins own : List Block) (stated : ℕ) (c : Certificate)
    → AreNodes night c.nodes → AreUsable night pins
    → IsAcceptedIn version night pins own stated c → length c.nodes ≤ partial_plans night pins
few_accepted laws pinned version night i pins own stated c h usable a =
    few_nodes laws pinned night i pins a.start c.nodes h usable a.begins (λ k some lt. (root_right version night a.start c.nodes h (pos c.bound) a.root k lt).placed some)
