use Rattle.std.proofs.Common.{◌≤◌, ◌-◌, ◌==◌, List, All, map, length, ap, sym, subst, ◌∙◌, arith}
use Rattle.shunt_base.specs.declared.keys.Stay.{Stay}
use Rattle.shunt_audit.specs.declared.types.Finding.{Finding}
use Rattle.shunt_picture.specs.declared.track_stays.Standing.{Standing}
use Rattle.shunt_picture.specs.declared.rows.StaySeat.{StaySeat}
use Rattle.shunt_picture.specs.defs.Rows.{IsRowAmong}
use Rattle.shunt_picture.specs.defs.Levels.{levels_of}
use Rattle.shunt_picture.specs.defs.Lanes.{bar_of, first_of, last_of}
use Rattle.shunt_picture.proofs.Within.{seats_within}
use Rattle.shunt_picture.proofs.LanesMade.{lane_is}
use Rattle.shunt_picture.proofs.lanes.lane_of.Goals as goal

pub bars_of-requires : goal.bars_of-requires
bars_of-requires c =
    seats_within c.args.instance.now c.in_ok-standings.standings.items c.deref.result.now c.in_ok-seats.seats.items c.deref-3.result.now c.in_ok-standings.ensures.within
    c.deref.ensures.value c.in_ok-seats.ensures.same c.deref-3.ensures.value

pub last_row-requires : goal.last_row-requires
last_row-requires c = subst (λ (l : List StaySeat). All (λ s. IsRowAmong (length l) s.row) l) (sym c.deref-6.ensures.value) c.in_ok-seats.ensures.among

pub returns-clause-low : goal.returns-clause-low
returns-clause-low c =
    let small = c.last_row.ensures.small in
    let few = c.in_ok-seats.ensures.few in
    let same = ap length c.deref-6.ensures.value in
    omega (arith, small, few, same)

pub returns-clause-lane : goal.returns-clause-lane
returns-clause-lane c =
    let night = c.args.instance.now in
    let findings = c.args.findings.now in
    let seats = c.in_ok-seats.seats.items in
    lane_is night findings c.args.blocks.now c.args.from c.args.to c.first_row.result c.last_row.result c.args.top c.is_empty.result c.args.track c.in_ok-head.head
    c.in_ok-standings.standings.items seats c.in_ok-stays.stays.items c.from_vec.result c.from_vec-2.result
    c.in_ok-head.ensures
    c.in_ok-standings.ensures.same
    c.in_ok-standings.ensures.order
    (c.in_ok-seats.ensures.same ∙ c.deref.ensures.value)
    c.in_ok-seats.ensures.apart
    c.is_empty.ensures
    c.in_ok-seats.ensures.room
    (λ none. c.in_ok-seats.ensures.order (c.is_empty.ensures ∙ ap (λ (f : List Finding). length f == 0) none))
    (subst (λ (l : List StaySeat). All (λ s. c.first_row.result ≤ s.row) l) c.deref-5.ensures.value c.first_row.ensures.least)
    (subst (λ (l : List StaySeat). All (λ s. s.row ≤ c.last_row.result) l) c.deref-6.ensures.value c.last_row.ensures.greatest)
    c.in_ok-seats.ensures.among
    (c.first_row.ensures.exact ∙ ap (λ (l : List StaySeat). first_of (map (λ s. s.row) l)) c.deref-5.ensures.value)
    (c.last_row.ensures.exact ∙ ap (λ (l : List StaySeat). last_of (map (λ s. s.row) l)) c.deref-6.ensures.value)
    (c.in_ok-stays.ensures ∙ ap (λ (l : List Standing). map (λ s. s.stay) l) c.deref-2.ensures.value)
    (c.from_vec.ensures ∙ c.in_ok-bars.ensures ∙ ap (map (bar_of night findings)) c.deref-3.ensures.value)
    (c.from_vec-2.ensures ∙ c.in_ok-levels.ensures ∙ ap (λ (l : List Stay). levels_of l c.args.from (c.args.to - c.args.from)) c.deref-4.ensures.value)
