use Rattle.std.proofs.Common.{◌≡◌, ◌+◌, map, drop, length}
use Rattle.shunt_sheet.specs.defs.Tracks.{blocks_of}
use Rattle.shunt_sheet.specs.defs.FollowedOrders.{follow_from}
use Rattle.shunt_sheet.proofs.follower.follow_on.Given as goal
use Rattle.shunt_tracks.specs.defs.Blocks.{Fit}

abbrev pub invariant-loop-order : goal.invariant-loop-order
invariant-loop-order l = record {
  number : l.number ≡ l.order-index + 1;
  sizes : length l.tracks.items ≡ length l.lengths;
  fit : Fit (λ v. blocks_of v.items) l.lengths l.tracks.items;
  follows : follow_from l.lengths l.number (drop l.order-index l.orders) (map (λ v. blocks_of v.items) l.tracks.items)
      ≡ follow_from l.lengths 1 l.orders (map (λ v. blocks_of v.items) l.fn.tracks.items);
}
