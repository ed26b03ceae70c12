use Rattle.shunt_gains.proofs.Known.{kept}
use Rattle.shunt_gains.proofs.rows.remember.Goals as goal

pub returns : goal.returns
returns c = λ fixed free known is. kept fixed free c.args.rows.now c.insert.new.self c.args.key c.args.row c.in_ok-insert.ensures.updates is known
