use Rattle.shunt_picture.proofs.Seated.{seats_more}
use Rattle.shunt_picture.proofs.rows.seats_of.Goals as goal

pub loop-standing-preserved : goal.loop-standing-preserved
loop-standing-preserved c =
    let old = c.loop-standing.invariant in
    let new = c.seat_of-seat.ensures in
    let m = seats_more c.args.standings.now c.args.from c.args.is_ordered c.loop-standing.standing-index _ c.loop-standing.seats.items c.deref.result.now c.push.new.self.items
    c.seat_of-seat.result c.loop-standing-test.true
    old.count old.same old.apart old.room old.order old.late old.among c.deref.ensures.value new.of new.until new.enter new.room new.free new.order new.among
    c.in_ok-push.ensures.items in
    record { count = m.count; same = m.same; apart = m.apart; room = m.room; order = m.order; late = m.late; among = m.among }
