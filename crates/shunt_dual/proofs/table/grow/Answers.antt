use Rattle.std.proofs.Common.{arith}
use Rattle.shunt_dual.specs.defs.Tables.{cost_at, top}
use Rattle.shunt_dual.proofs.Turns.{outside, slack, turn}
use Rattle.shunt_dual.proofs.table.grow.Goals as goal

pub choose-c-requires-clause-some : goal.choose-c-requires-clause-some
choose-c-requires-clause-some c =
    let o = outside c.requires.owner_len c.requires.free c.requires.root c.turns.invariant in (o.0, omega (arith, o.1), o.2)

pub relax-requires-clause-slack : goal.relax-requires-clause-slack
relax-requires-clause-slack c = λ q k. slack c.cost_row.result.now c.requires.rows
    (omega (arith, c.choose-c.ensures.within)) c.if-r-n.false c.requires.paired c.requires.duals c.cost_row.ensures.value q (omega arith)

pub turns-preserved : goal.turns-preserved
turns-preserved c = turn c.args.n c.args.rows top c.turns.joined c.choose-c.result
    (cost_at c.args.table.now c.args.n) c.args.alpha.now c.args.debt.now c.args.place.now c.args.owner.now _ _ _ _ _ c.cost_row.result.now
    c.requires.rows (omega arith) c.requires.debt_len c.choose-c.ensures.within c.choose-c.ensures.outside c.choose-c.ensures.least c.if-r-n.false c.requires.paired
    c.requires.duals c.turns.invariant
    c.cost_row.ensures.value c.relax.ensures.each c.relax.ensures.rest
