use Rattle.std.proofs.Common.{◌<◌, ◌≤◌, List, length, sym, subst, arith}
use Rattle.shunt_lists.specs.defs.Members.{In}
use Rattle.shunt_lists.proofs.Members.{in_place}
use Rattle.shunt_recount.specs.declared.moments.Stop.{Stop}
use Rattle.shunt_recount.specs.declared.places.Place.{Place}
use Rattle.shunt_recount.specs.defs.Moments.{event_at, IsMoment, fixed_of, free_of, events_of}
use Rattle.shunt_recount.specs.defs.Places.{IsPast, IsPlaceAt, Surround}
use Rattle.shunt_stacks.proofs.MaybeGains.{each_some}
use Rattle.shunt_recount.proofs.Beside.{NestLaws, past_there, past_later, past_leads}
use Rattle.shunt_recount.proofs.Ranked.{own_rank, none_between, stop_there, fixed_stop, span_is, gone_later, inside_later}
use Rattle.shunt_recount.proofs.places.next_place.Goals as goal

pub returns-clause-later : goal.returns-clause-later
returns-clause-later c =
    let m = c.args.moments.now in
    let k = c.args.place.passed in
    let count = c.requires.moments.count in
    let within = c.requires.last.within in
    let before = c.requires.before in
    let lt : k < length (events_of m) = omega (arith, before, within) in
    let there : k < length m.list.items = omega (arith, lt, count) in
    let mo = c.index-moment.result.now in
    let moment = subst (IsMoment (fixed_of m) (free_of m) (events_of m) (event_at (events_of m) k)) (sym c.index-moment.ensures) (c.requires.moments.each k mo there) in
    let s = c.in_ok-stop.stop.now in
    let item = c.in_ok-stop.ensures.item in
    let i : In s mo.stops.items = subst (λ (l : List Stop). In s l) c.deref.ensures.value
    (subst (λ (x : Stop). In x c.deref.result.now) (sym item.1) (in_place c.deref.result.now 0 s item.3.0)) in
    let at = stop_there m k mo moment s i in
    each_some (IsPast c.args.at c.args.place s) (λ (q : Place). k < q.passed) c.past_stop.result c.past_stop.ensures
    (λ q past. past_later m c.args.at c.args.place q s (span_is m c.requires.moments k lt s at) at.ranks past k (gone_later m c.requires.moments k lt s at)
    (inside_later m c.requires.moments k lt s at))

pub returns-clause-there : goal.returns-clause-there
returns-clause-there c =
    let m = c.args.moments.now in
    let k = c.args.place.passed in
    let count = c.requires.moments.count in
    let within = c.requires.last.within in
    let before = c.requires.before in
    let lt : k < length (events_of m) = omega (arith, before, within) in
    let there : k < length m.list.items = omega (arith, lt, count) in
    let mo = c.index-moment.result.now in
    let moment = subst (IsMoment (fixed_of m) (free_of m) (events_of m) (event_at (events_of m) k)) (sym c.index-moment.ensures) (c.requires.moments.each k mo there) in
    let s = c.in_ok-stop.stop.now in
    let item = c.in_ok-stop.ensures.item in
    let i : In s mo.stops.items = subst (λ (l : List Stop). In s l) c.deref.ensures.value
    (subst (λ (x : Stop). In x c.deref.result.now) (sym item.1) (in_place c.deref.result.now 0 s item.3.0)) in
    let at = stop_there m k mo moment s i in
    each_some (IsPast c.args.at c.args.place s) (IsPlaceAt m c.args.at) c.past_stop.result c.past_stop.ensures
    (λ q past. past_there m c.args.at c.args.place q s (span_is m c.requires.moments k lt s at) at.ranks past c.requires.place)

pub returns-clause-leads : goal.returns-clause-leads
returns-clause-leads c =
    let m = c.args.moments.now in
    let k = c.args.place.passed in
    let p = c.requires.place in
    let count = c.requires.moments.count in
    let within = c.requires.last.within in
    let before = c.requires.before in
    let lt : k < length (events_of m) = omega (arith, before, within) in
    let there : k < length m.list.items = omega (arith, lt, count) in
    let mo = c.index-moment.result.now in
    let moment = subst (IsMoment (fixed_of m) (free_of m) (events_of m) (event_at (events_of m) k)) (sym c.index-moment.ensures) (c.requires.moments.each k mo there) in
    let s = c.in_ok-stop.stop.now in
    let item = c.in_ok-stop.ensures.item in
    let i : In s mo.stops.items = subst (λ (l : List Stop). In s l) c.deref.ensures.value
    (subst (λ (x : Stop). In x c.deref.result.now) (sym item.1) (in_place c.deref.result.now 0 s item.3.0)) in
    let at = stop_there m k mo moment s i in
    let laws : NestLaws = record { at_fixed = c.nests.ensures.at_fixed; at_none = c.nests.ensures.at_none; agree = c.nests.ensures.agree } in
    let e = event_at (events_of m) k in
    let le : c.args.place.x ≤ e = p.passed.behind k (omega arith) lt in
    let early : e < c.args.at = c.requires.last.before k before in
    let close : e < m.end = c.requires.moments.events.within k lt in
    let none = none_between (fixed_of m) (free_of m) m.end (events_of m) c.requires.moments.events c.args.place.x e k p.passed
    (own_rank (fixed_of m) (free_of m) m.end (events_of m) c.requires.moments.events k lt) (omega (arith, close)) in
    λ room known. each_some (IsPast c.args.at c.args.place s) (Surround m room c.args.at) c.past_stop.result c.past_stop.ensures
    (λ q past. past_leads laws m c.requires.moments room c.args.at c.args.place p e le early none s (fixed_stop m k mo moment c.if-not-moment.false s i) at.comes q past known)
