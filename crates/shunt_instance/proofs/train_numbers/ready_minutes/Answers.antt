use Rattle.std.proofs.Common.{◌<◌, length, subst, sym}
use Rattle.std.specs.Prelude.{All}
use Rattle.shunt_instance.proofs.Facts.{units_in}
use Rattle.shunt_instance.proofs.train_numbers.ready_minutes.Goals as goal

pub ready_minute-requires-clause-train : goal.ready_minute-requires-clause-train
ready_minute-requires-clause-train c = (subst (All (λ u. (u.train.0 < length c.args.arrive.now) × (u.kind.0 < length c.args.station.now.types))) (sym c.requires.units)
    (units_in c.args.station.now c.args.arrive.now c.requires.trains) c.loop-unit.unit-index _ c.loop-unit-test.true).0

pub ready_minute-requires-clause-kind : goal.ready_minute-requires-clause-kind
ready_minute-requires-clause-kind c = (subst (All (λ u. (u.train.0 < length c.args.arrive.now) × (u.kind.0 < length c.args.station.now.types))) (sym c.requires.units)
    (units_in c.args.station.now c.args.arrive.now c.requires.trains) c.loop-unit.unit-index _ c.loop-unit-test.true).1
