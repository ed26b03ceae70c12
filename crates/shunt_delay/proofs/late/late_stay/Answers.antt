use Rattle.std.proofs.Common.{refl, ap}
use Rattle.std.specs.Prelude.{Some, None}
use Rattle.shunt_base.specs.declared.keys.Stay.{Stay}
use Rattle.shunt_delay.proofs.Lately.{late_none, late_some}
use Rattle.shunt_delay.proofs.late.late_stay.Goals as goal

pub returns-then-is_too_soon_by : goal.returns-then-is_too_soon_by
returns-then-is_too_soon_by c = late_none c.places.ensures.unit c.args.train.0 c.args.minutes c.late_by-own.result c.args.instance.now c.args.block.now c.is_too_soon_by.result
    c.requires.within.runs c.late_by-own.ensures c.is_too_soon_by.ensures c.if-is_too_soon_by.true

pub returns-in-Some : goal.returns-in-Some
returns-in-Some c = late_some c.places.ensures.unit c.args.train.0 c.args.minutes c.late_by-own.result c.args.instance.now c.args.block.now c.is_too_soon_by.result
    (Some c.in-Some.stay) (Some c.later.result) c.requires.within.runs c.late_by-own.ensures c.is_too_soon_by.ensures c.if-is_too_soon_by.false c.in-Some.ensures.exact
    (ap (λ (s : Stay). Some s) c.later.ensures)

pub returns-in-None : goal.returns-in-None
returns-in-None c = late_some c.places.ensures.unit c.args.train.0 c.args.minutes c.late_by-own.result c.args.instance.now c.args.block.now c.is_too_soon_by.result None None
    c.requires.within.runs c.late_by-own.ensures c.is_too_soon_by.ensures c.if-is_too_soon_by.false c.in-None.ensures.exact refl
