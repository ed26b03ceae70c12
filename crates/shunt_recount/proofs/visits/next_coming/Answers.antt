use Rattle.std.proofs.Common.{◌≤◌, arith}
use Rattle.shunt_recount.proofs.Ordered.{where_it_stands, least_is}
use Rattle.shunt_recount.proofs.visits.next_coming.Goals as goal

pub returns-in_default-clause-none : goal.returns-in_default-clause-none
returns-in_default-clause-none c = λ s i le.
    let h = where_it_stands c.args.visits.now c.come_before.result c.args.start s c.come_before.ensures.before i le in
    let there = c.in_default.ensures.lookup in
    absurd (omega (arith, h.1, h.2, there.3))

pub returns-clause-none : goal.returns-clause-none
returns-clause-none c = λ s i le.
    let h = where_it_stands c.args.visits.now c.come_before.result c.args.start s c.come_before.ensures.before i le in
    let look = c.in-Some.ensures.lookup in
    let first : c.in-Some.visit.now.comes ≤ s.from = least_is c.args.visits.now c.come_before.result h.0 c.in-Some.visit.now s c.requires.order h.1 h.2 look.1 h.3 in
    let min = c.min.ensures in
    omega (arith, first, min)
