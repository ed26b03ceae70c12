use Rattle.shunt_dual.specs.defs.Tables.{cost_at, top}
use Rattle.std.proofs.Common.{set, arith, get_or-set_same}
use Rattle.shunt_dual.proofs.Shifts.{inserted}
use Rattle.shunt_dual.proofs.Seats.{seated, seated_duals, opened, begun, no_root}
use Rattle.shunt_dual.proofs.table.insert.Goals as goal

pub returns-clause-duals : goal.returns-clause-duals
returns-clause-duals c =
    inserted c.args.n c.args.k top c.grow-end.result (cost_at c.args.table.now c.args.n) c.args.alpha.now c.args.debt.now (set c.args.place.now c.args.k c.args.n)
    (set c.args.owner.now c.args.n c.args.k)
    _ _ _ _ _ _ _ c.requires.row c.requires.table.low
    (seated c.args.n c.args.k c.args.place.now c.args.owner.now c.requires.place_len c.requires.owner_len c.requires.row c.requires.paired)
    (seated_duals c.args.n c.args.k top _ _ _ c.args.place.now c.args.owner.now c.requires.place_len c.requires.row c.requires.duals)
    c.grow-end.ensures.grown c.grow-end.ensures.end c.raise.ensures.raised c.raise.ensures.rest c.requires.debt_len c.lower.ensures
    c.walk.ensures.paired c.walk.ensures.kept c.walk.ensures.moved

pub grow-end-requires-clause-paired : goal.grow-end-requires-clause-paired
grow-end-requires-clause-paired c = seated c.args.n c.args.k c.args.place.now c.args.owner.now c.requires.place_len c.requires.owner_len c.requires.row c.requires.paired

pub grow-end-requires-clause-duals : goal.grow-end-requires-clause-duals
grow-end-requires-clause-duals c = seated_duals c.args.n c.args.k top _ _ _ c.args.place.now c.args.owner.now c.requires.place_len c.requires.row c.requires.duals

pub grow-end-requires-clause-grown : goal.grow-end-requires-clause-grown
grow-end-requires-clause-grown c =
    begun c.args.n c.args.k top (cost_at c.args.table.now c.args.n) c.args.alpha.now c.args.debt.now (set c.args.place.now c.args.k c.args.n)
    (set c.args.owner.now c.args.n c.args.k) _ _ _ c.cost_row.result.now
    c.requires.row (get_or-set_same c.args.place.now c.args.k c.args.n 0 (omega arith)) (λ q lt. c.requires.table.low c.args.k q c.requires.row lt)
    (seated c.args.n c.args.k c.args.place.now c.args.owner.now c.requires.place_len c.requires.owner_len c.requires.row c.requires.paired)
    (seated_duals c.args.n c.args.k top _ _ _ c.args.place.now c.args.owner.now c.requires.place_len c.requires.row c.requires.duals)
    (c.requires.duals.zero c.args.k (omega arith) c.requires.row)
    c.requires.debt_len (λ q lt. c.start.ensures.distance q (omega arith)) c.cost_row.ensures.value c.start.ensures.root c.start.ensures.way c.start.ensures.when
    c.start.ensures.joined c.start.ensures.count

pub walk-requires-clause-paired : goal.walk-requires-clause-paired
walk-requires-clause-paired c = opened (omega arith) c.grow-end.ensures.end.free
    (seated c.args.n c.args.k c.args.place.now c.args.owner.now c.requires.place_len c.requires.owner_len c.requires.row c.requires.paired)

pub returns-clause-root : goal.returns-clause-root
returns-clause-root c = no_root c.args.n c.args.k c.args.owner.now _ c.requires.owner_len c.requires.row c.walk.ensures.kept
