-- What is counted of the stacks at a path in a case.
use Rattle.std.specs.Prelude.{◌≡◌, ℤ, map, All, List, Some}
use Rattle.shunt_lists.specs.defs.Members.{In}
use Rattle.shunt_base.specs.declared.duals.Case.{Case}
use Rattle.shunt_instance.specs.defs.Instance.{Night}
use Rattle.shunt_blocks.specs.declared.records.Block.{Block}
use Rattle.shunt_blocks.specs.defs.Blocks.{IsBlockButId}
use Rattle.shunt_prices.specs.defs.Sums.{sum_z, IsWithin}
use Rattle.shunt_prices.specs.defs.Prices.{track_length}
use Rattle.shunt_stacks.specs.defs.Stacks.{Stack, stacks, blocks_of}
use Rattle.shunt_stacks.specs.defs.Fillings.{IsStackGain}
use Rattle.shunt_stacks.specs.defs.Numbers.{fixed_spans, entry_number, leave_number}
use Rattle.shunt_recount.specs.declared.counts.StackCount.{StackCount}
use Rattle.shunt_recount.specs.declared.counts.Recount.{Recount}
use Rattle.shunt_recount.specs.declared.offers.Offer.{Offer}
use Rattle.shunt_recount.specs.declared.tables.Table.{Table}
use Rattle.shunt_recount.specs.defs.Visits.{IsBest}
use Rattle.shunt_recount.specs.defs.Moments.{fixed_of, free_of}
use Rattle.shunt_recount.specs.defs.Places.{IsTableOf}
use Rattle.shunt_recount.specs.defs.Offers.{stack_at, offer_spans, AreOffersOf}

-- the table of a stack's visits at a path, by its offers there, with the greatest gain
pub record IsStackTable (night : Night) (path : List Block) (stack : Stack) (offers : List Offer) (t : Table) (most : ℤ) : Type 0 where
  pub table : IsTableOf (fixed_spans night (entry_number night) (leave_number night) (blocks_of stack path)) (offer_spans night offers) 5760000 t
  pub whole : IsBest (fixed_of t.moments) (free_of t.moments) 0 5760000 (track_length night stack.track.0) (Some most)

-- a stack with its offers at a path in a case, and what it gains there
pub record IsCountOf (night : Night) (path : List Block) (c : Case) (k : StackCount) : Type 0 where
  pub offers : AreOffersOf night path c (stack_at k.end) k.offers.items
  pub gain : IsStackGain night path c (stack_at k.end) k.gain
  pub small : IsWithin 319999999999680 k.gain
  pub table : IsStackTable night path (stack_at k.end) k.offers.items k.table k.gain

-- the stacks of what is counted
abbrev pub stacks_in : List StackCount → List Stack
stacks_in counts = map (λ k. stack_at k.end) counts

-- that of each stack of the station, in their order
pub record AreCountsOf (night : Night) (path : List Block) (c : Case) (counts : List StackCount) : Type 0 where
  pub stacks : stacks_in counts ≡ stacks night.station
  pub each : (k : StackCount) → In k counts → IsCountOf night path c k

-- that at a path of blocks, and what the stacks gain together
pub record IsRecountOf (night : Night) (path : List Block) (c : Case) (r : Recount) : Type 0 where
  pub blocks : All (IsBlockButId night) path
  pub counts : AreCountsOf night path c r.counts.items
  pub total : r.total ≡ sum_z (λ (k : StackCount). k.gain) r.counts.items
  pub small : IsWithin 38399999999961600 r.total
