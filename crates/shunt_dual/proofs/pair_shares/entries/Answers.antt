use Rattle.std.proofs.Common.{◌≡◌, ◌*◌, arith}
use Rattle.shunt_instance.specs.defs.Instance.{unit_total, position_total}
use Rattle.shunt_dual.proofs.Entries.{are_shares}
use Rattle.shunt_dual.proofs.pair_shares.entries.Goals as goal

pub returns-clause-each : goal.returns-clause-each
returns-clause-each c =
    let same : c.units.result * c.positions-positions.result ≡ unit_total c.args.instance.now * position_total c.args.instance.now = cc
    (c.units.ensures.exact, c.positions-positions.ensures.exact) in
    are_shares c.args.instance.now _ _ c.loop-cell.cell c.positions-positions.ensures.exact
    (omega (arith, same, c.loop-cell-test.false, c.loop-cell.auto.cell-end)) c.loop-cell.invariant.size c.loop-cell.invariant.each
