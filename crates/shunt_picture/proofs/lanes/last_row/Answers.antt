use Rattle.shunt_picture.proofs.LanesMade.{last_noted, greatest_noted, last_small}
use Rattle.shunt_picture.proofs.lanes.last_row.Goals as goal

pub loop-seat-preserved : goal.loop-seat-preserved
loop-seat-preserved c =
    let old = c.loop-seat.invariant in
    record {
      exact = last_noted c.args.seats.now c.loop-seat.seat-index _ c.loop-seat.last c.lower-last.result c.loop-seat-test.true old.exact c.lower-last.ensures;
      greatest = greatest_noted c.args.seats.now c.loop-seat.seat-index _ c.loop-seat.last c.lower-last.result c.loop-seat-test.true old.greatest c.lower-last.ensures;
      small = last_small c.args.seats.now c.loop-seat.seat-index _ c.loop-seat.last c.lower-last.result c.loop-seat-test.true c.requires old.small c.lower-last.ensures;
    }
