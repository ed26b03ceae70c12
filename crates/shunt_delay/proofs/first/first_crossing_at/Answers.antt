use Rattle.shunt_delay.proofs.Found.{own_crossers}
use Rattle.shunt_delay.proofs.first.first_crossing_at.Goals as goal

pub returns : goal.returns
returns c = own_crossers c.args.train.0 c.args.stays.now c.args.own.now c.args.earlier.now c.first_crossing_of-2.result c.requires.own c.requires.apart c.requires.there
    c.if-earlier-train.false c.first_crossing_of-2.ensures
