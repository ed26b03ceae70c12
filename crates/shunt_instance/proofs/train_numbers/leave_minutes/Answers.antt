use Rattle.std.proofs.Common.{◌<◌, length, subst, sym}
use Rattle.std.specs.Prelude.{All}
use Rattle.shunt_instance.proofs.Facts.{positions_in}
use Rattle.shunt_instance.proofs.train_numbers.leave_minutes.Goals as goal

pub leave_minute-requires : goal.leave_minute-requires
leave_minute-requires c = subst (All (λ v. v.train.0 < length c.args.depart.now)) (sym c.requires.positions)
    (positions_in c.args.depart.now) c.loop-position.position-index _ c.loop-position-test.true
