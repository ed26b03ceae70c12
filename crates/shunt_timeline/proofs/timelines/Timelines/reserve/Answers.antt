use Rattle.std.proofs.Common.{◌≡◌, vec_capacity, length, arith}
use Rattle.shunt_timeline.proofs.Whole.{roomier, still_room}
use Rattle.shunt_timeline.proofs.timelines.Timelines.reserve.Goals as goal

pub invariant_of-self-in_err-reserve_events : goal.invariant_of-self-in_err-reserve_events
invariant_of-self-in_err-reserve_events c = roomier c.self.inside.stays.items c.reserve.new.self.items c.self.inside.tracks.items c.reserve_events.new.tracks.items
    c.self.inside.spare c.self.inside.spare (vec_capacity c.self.inside.stays) (vec_capacity c.reserve.new.self) c.self.inside.pairs c.self.inside.over c.self.invariant
    c.reserve.ensures.items c.reserve_events.ensures.same
    (let f = c.self.invariant.fits in let g = c.reserve.ensures.capacity in omega arith) c.self.invariant.small
    (still_room c.self.inside.stays.items c.self.inside.tracks.items c.reserve_events.new.tracks.items c.self.inside.spare
    (vec_capacity c.self.inside.stays) c.self.inside.pairs c.self.inside.over c.self.invariant c.reserve_events.ensures.same)

pub invariant_of-self-2 : goal.invariant_of-self-2
invariant_of-self-2 c =
    let count : c.len-count.result ≡ length c.self.inside.stays.items = omega (arith, c.self.inside.stays.ok.0, c.len-count.ensures) in
    roomier c.self.inside.stays.items c.reserve.new.self.items c.self.inside.tracks.items c.reserve_events.new.tracks.items c.self.inside.spare c.args.slots
    (vec_capacity c.self.inside.stays) (vec_capacity c.reserve.new.self) c.self.inside.pairs c.self.inside.over c.self.invariant c.reserve.ensures.items
    c.reserve_events.ensures.same
    (let g = c.in_ok-reserve.ensures.ok in let f = c.reserve.ensures.len in omega (arith, c.self.inside.stays.ok.0))
    (let f = c.if-slots-count.false in let g = c.self.invariant.sound.few in omega arith)
    (λ t d lt. let r = c.in_ok-reserve_events.ensures.ok t d lt in omega arith)
