use Rattle.shunt_tracks.specs.contracts.dues.DueOrd.TheImpl.{ghosts}
use Rattle.shunt_base.specs.defs.Keys.{key_cmp}
use Rattle.shunt_tracks.proofs.SortedDues.{sorted_moves}
use Rattle.shunt_tracks.proofs.dues.sorted_dues.Goals as goal
use Rattle.shunt_lists.proofs.Orders.{first_less}

pub returns : goal.returns
returns c = sorted_moves ghosts.cmp c.args.stays.now c.in_ok-all.all.items c.sort_unstable.new.self.items c.requires
    (λ d e lt. first_less (key_cmp d.key e.key) _ lt) c.in_ok-all.ensures c.sort_unstable.ensures.permutation c.sort_unstable.ensures.sorted
