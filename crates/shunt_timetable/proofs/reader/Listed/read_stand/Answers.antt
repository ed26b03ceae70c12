use Rattle.std.proofs.Common.{refl, sym}
use Rattle.shunt_rows.proofs.Joins.{gives_err}
use Rattle.shunt_timetable.proofs.Parts.{stand_ok, stand_fails}
use Rattle.shunt_timetable.proofs.reader.Listed.read_stand.Goals as goal

pub returns-in_err-train : goal.returns-in_err-train
returns-in_err-train c =
    let fails = stand_fails c.args.n c.args.station.now c.args.self.now _ c.args.row.now c.in_err-train.field-0.0 _ (sym c.self.view_is) refl c.in_err-train.ensures.stated in
    gives_err _ _ c.in_err-train.field-0.0 _ c.from_residual.ensures.1 fails

pub returns : goal.returns
returns c = stand_ok c.args.n c.args.station.now c.args.self.now _ c.args.row.now c.in_ok-train.train _ c.push.new.self
    (sym c.self.view_is) refl c.in_ok-push.ensures.added c.in_ok-train.ensures.stated
