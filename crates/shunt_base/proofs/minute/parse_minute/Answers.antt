use Rattle.shunt_base.proofs.Minutes.{minute_is}
use Rattle.shunt_base.proofs.minute.parse_minute.Goals as goal

pub returns-clause-value : goal.returns-clause-value
returns-clause-value c = minute_is c.args.bytes.now c.minute_in.result c.minute_in.ensures.some c.minute_in.ensures.only
