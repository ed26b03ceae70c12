use Rattle.shunt_delay.proofs.Lately.{soon_own, soon_other}
use Rattle.shunt_delay.proofs.late.becomes_too_soon.Goals as goal

pub returns-then-block-train : goal.returns-then-block-train
returns-then-block-train c = soon_own c.places.ensures.unit c.args.train.0 c.args.minutes c.args.instance.now c.args.block.now c.is_too_soon_by.result c.requires.within.runs
    c.if-block-train.true c.is_too_soon_by.ensures

pub returns : goal.returns
returns c = soon_other c.places.ensures.unit c.args.train.0 c.args.minutes c.args.instance.now c.args.block.now c.requires.within.runs c.if-block-train.false c.requires.in_time
