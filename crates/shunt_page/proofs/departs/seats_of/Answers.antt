use Rattle.std.proofs.Common.{◌+◌}
use Rattle.shunt_page.specs.defs.Departs.{seat_of}
use Rattle.shunt_picture.proofs.Ranges.{pushed_next}
use Rattle.shunt_page.proofs.departs.seats_of.Goals as goal

pub loop-k-preserved : goal.loop-k-preserved
loop-k-preserved c = pushed_next (λ k. seat_of c.args.instance.now c.args.blocks.now (c.args.first + k)) c.loop-k.k c.loop-k.seats.items c.push.new.self.items c.in_ok-seat.seat
    c.in_ok-seat.ensures c.loop-k.invariant c.in_ok-push.ensures.items
