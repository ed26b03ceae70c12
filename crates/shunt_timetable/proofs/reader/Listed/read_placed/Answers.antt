use Rattle.std.proofs.Common.{sym}
use Rattle.shunt_rows.specs.declared.fault.ReadError.TheVariants as errors
use Rattle.shunt_rows.proofs.Joins.{gives_err}
use Rattle.shunt_timetable.proofs.Parts.{units_fail, end_fails, placed_ok}
use Rattle.shunt_timetable.proofs.reader.Listed.read_placed.Goals as goal

pub returns-in_err-units : goal.returns-in_err-units
returns-in_err-units c =
    gives_err _ _ (errors.Fault c.in_err-units.field-0.0) _ c.from_residual-in_err-units.ensures.1
    (units_fail c.args.n c.args.station.now c.args.self.now _ c.args.row.now c.in_ok-k.k c.train-train.result.now _ (sym c.self.view_is) c.in_ok-five_or_seven.ensures.held
    c.in_ok-k.ensures.answer c.train-train.ensures.exact c.in_err-units.ensures)

pub returns-in_err-came_by : goal.returns-in_err-came_by
returns-in_err-came_by c =
    gives_err _ _ (errors.Fault c.in_err-came_by.field-0.0) _ c.from_residual-in_err-came_by.ensures.1
    (end_fails c.args.n c.args.station.now c.args.self.now _ c.args.row.now c.in_ok-k.k c.train-train.result.now c.in_ok-units.units _ (sym c.self.view_is)
    c.in_ok-five_or_seven.ensures.held c.in_ok-k.ensures.answer c.train-train.ensures.exact c.in_ok-units.ensures c.in_err-came_by.ensures)

pub returns : goal.returns
returns c =
    placed_ok c.args.n c.args.station.now c.args.self.now _ c.args.row.now c.in_ok-k.k c.train-train.result.now c.in_ok-units.units c.in_ok-came_by.came_by c.place.new.self
    (sym c.self.view_is)
    c.in_ok-five_or_seven.ensures.held c.in_ok-k.ensures.answer c.train-train.ensures.exact c.in_ok-units.ensures c.in_ok-came_by.ensures c.in_ok-place.ensures.added
