use Rattle.shunt_judging.proofs.Turned.{line_is}
use Rattle.shunt_judging.proofs.turns.line_of.Goals as goal

pub returns : goal.returns
returns c = line_is c.turn_text.result c.args.number c.args.ended c.total.result c.tally-tally.result _ _ c.tally-tally.ensures.exact c.total.ensures c.turn_text.ensures
