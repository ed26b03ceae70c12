-- Without standing trains and permits, the findings are those of version 1.
use Rattle.std.specs.Prelude.{◌↔◌, IsTrue, IsSome, None}
use Rattle.std.proofs.Common.{◌≡◌, ℕ, List}
use Rattle.shunt_lists.specs.defs.Members.{In}
use Rattle.shunt_instance.specs.defs.Instance.{Night}
use Rattle.shunt_blocks.specs.declared.records.Block.{Block}
use Rattle.shunt_blocks.specs.defs.Shapes.{IsWithinTrains}
use Rattle.shunt_blocks.specs.defs.Ways.{way_in, way_out}
use Rattle.shunt_blocks.specs.defs.Blocks.{type_fault}
use Rattle.shunt_blocks.specs.defs.Lists.{AreInRange}
use Rattle.shunt_blocks.specs.defs.v1.{IsPlain, HasTwoTypes, LacksRouteIn, LacksRouteOut}
use Rattle.shunt_audit.specs.declared.types.Finding.{Finding}
use Rattle.shunt_audit.specs.declared.types.Finding.TheVariants.{UnitBare, UnitTwice, PlaceBare, PlaceTwice, WrongType, TooSoon, NoRouteIn, NoRouteOut, Crossing, TooLong, StatedCost}
use Rattle.shunt_audit.specs.defs.Findings.{HasBlock, IsFinding}
use Rattle.shunt_audit.specs.defs.v1.{IsFinding as IsFirstFinding}
use Rattle.shunt_audit.proofs.BlockStays.{in_range}

-- what the law of the upgrade of blocks says of their faults
pub record UpgradeLaws : Type 0 where
  pub types : (night : Night) (b : Block) → IsPlain night → IsWithinTrains night b → IsTrue (type_fault night b) ↔ HasTwoTypes night b
  pub route_in : (night : Night) (b : Block) → IsPlain night → IsWithinTrains night b → (IsSome b.park × (way_in night b ≡ None)) ↔ LacksRouteIn night b
  pub route_out : (night : Night) (b : Block) → (IsSome b.park × (way_out night b ≡ None)) ↔ LacksRouteOut night b

-- what holds of a block is what holds by the other words
said_so : (blocks : List Block) (id : ℕ) (P Q : Block → Type 0) → ((b : Block) → In b blocks → P b → Q b) → HasBlock blocks id P → HasBlock blocks id Q
said_so blocks id P Q h x = record { item = x.item; there = x.there; named = x.named; holds = h x.item x.there x.holds }

pub same_finding : (laws : UpgradeLaws) (night : Night) (blocks : List Block) (f : Finding) → IsPlain night → AreInRange night blocks
    → IsFirstFinding night blocks f ↔ IsFinding night blocks f
same_finding laws night blocks (UnitBare u) plain h = (λ x. x, λ x. x)
same_finding laws night blocks (UnitTwice u) plain h = (λ x. x, λ x. x)
same_finding laws night blocks (PlaceBare v) plain h = (λ x. x, λ x. x)
same_finding laws night blocks (PlaceTwice v) plain h = (λ x. x, λ x. x)
same_finding laws night blocks (WrongType id) plain h = (
  said_so blocks id (HasTwoTypes night) (λ b. IsTrue (type_fault night b)) (λ b i. (laws.types night b plain (in_range night blocks b h i).within).1),
  said_so blocks id (λ b. IsTrue (type_fault night b)) (HasTwoTypes night) (λ b i. (laws.types night b plain (in_range night blocks b h i).within).0),
)
same_finding laws night blocks (TooSoon id) plain h = (λ x. x, λ x. x)
same_finding laws night blocks (NoRouteIn id) plain h = (
  said_so blocks id (LacksRouteIn night) (λ b. IsSome b.park × (way_in night b ≡ None)) (λ b i. (laws.route_in night b plain (in_range night blocks b h i).within).1),
  said_so blocks id (λ b. IsSome b.park × (way_in night b ≡ None)) (LacksRouteIn night) (λ b i. (laws.route_in night b plain (in_range night blocks b h i).within).0),
)
same_finding laws night blocks (NoRouteOut id) plain h = (
  said_so blocks id (LacksRouteOut night) (λ b. IsSome b.park × (way_out night b ≡ None)) (λ b i. (laws.route_out night b).1),
  said_so blocks id (λ b. IsSome b.park × (way_out night b ≡ None)) (LacksRouteOut night) (λ b i. (laws.route_out night b).0),
)
same_finding laws night blocks (Crossing i j) plain h = (λ x. x, λ x. x)
same_finding laws night blocks (TooLong id load) plain h = (λ x. x, λ x. x)
same_finding laws night blocks (StatedCost stated real) plain h = (λ x. x, λ x. x)
