-- The numbers of a search that has ended.
use Rattle.std.specs.Prelude.{◌≤ℤ◌, Option, IfSome}
use Rattle.std.proofs.Common.{◌≡◌, ◌⊎◌, ℕ, ◌≤◌, ℤ, List, sym, subst, ap, ◌∙◌, arith}
use Rattle.shunt_lists.specs.defs.Members.{In}
use Rattle.shunt_instance.specs.defs.Instance.{Night}
use Rattle.shunt_blocks.specs.declared.records.Block.{Block}
use Rattle.shunt_blocks.specs.defs.Lists.{total_cost}
use Rattle.shunt_plan.specs.declared.records.Plan.{Plan}
use Rattle.shunt_proof.specs.declared.records.Node.{Node}
use Rattle.shunt_proof.specs.declared.records.Version.{Version}
use Rattle.shunt_search.specs.declared.walk_stack.Pending.{Pending}
use Rattle.shunt_search.specs.defs.Endings.{IsLeft, IsShownIn}

pub low_enough : (night : Night) (blocks slice items : List Block) (cost : ℕ) → slice ≡ items → total_cost night blocks ≤ total_cost night slice → cost ≡ total_cost night items
    → total_cost night blocks ≤ cost
low_enough night blocks slice items cost e le is = let same = ap (λ (l : List Block). total_cost night l) e in omega (arith, le, is, same)

pub left_of : (waiting items : List Pending) (start low : ℤ) → waiting ≡ items → low ≤ℤ start → ((t : Pending) → In t waiting → low ≤ℤ t.child.bound)
    → (low ≡ start) ⊎ ((t : Pending) × In t waiting × (low ≡ t.child.bound)) → IsLeft items start low
left_of waiting items start low e within left least =
    let is : IsLeft waiting start low = record { within = within; left = left; least = least } in
    subst (λ (l : List Pending). IsLeft l start low) e is

-- the same nodes are told at the end
pub shown_at_end : (version : Version) (night : Night) (pins : List Block) (most : ℕ) (plan : Plan) (b count number : ℕ) (told now : Option (List Node)) → count ≡ number
    → now ≡ told → IsShownIn version night pins most plan b number told → IsShownIn version night pins most plan b count now
shown_at_end version night pins most plan b count number told now is same h = record {
  nodes = h.nodes;
  tells = subst (λ (o : Option (List Node)). IfSome o (λ l. l ≡ h.nodes)) (sym same) h.tells;
  many = is ∙ h.many;
  stated = h.stated;
  meet = h.meet;
}
