use Rattle.shunt_picture.proofs.LanesMade.{first_noted, least_noted}
use Rattle.shunt_picture.proofs.lanes.first_row.Goals as goal

pub loop-seat-preserved : goal.loop-seat-preserved
loop-seat-preserved c =
    let old = c.loop-seat.invariant in
    record {
      exact = first_noted c.args.seats.now c.loop-seat.seat-index _ c.loop-seat.first c.upper-first.result c.loop-seat-test.true old.exact c.upper-first.ensures;
      least = least_noted c.args.seats.now c.loop-seat.seat-index _ c.loop-seat.first c.upper-first.result c.loop-seat-test.true old.least c.upper-first.ensures;
    }
