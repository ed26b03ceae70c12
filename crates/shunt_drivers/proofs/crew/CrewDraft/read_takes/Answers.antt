use Rattle.std.proofs.Common.{sym, length}
use Rattle.shunt_rows.specs.declared.fault.ReadError.TheVariants as errors
use Rattle.shunt_rows.proofs.Joins.{gives_err}
use Rattle.shunt_rows.proofs.Spelled.{in_range}
use Rattle.shunt_drivers.proofs.Parts.{fields_fail, way_fails, takes_fail, takes_ok}
use Rattle.shunt_drivers.proofs.crew.CrewDraft.read_takes.Goals as goal

pub returns-in_err-fields_in : goal.returns-in_err-fields_in
returns-in_err-fields_in c = gives_err _ _ (errors.Fault c.in_err-fields_in.field-0.0) _ c.from_residual.ensures.1
    (fields_fail c.args.n c.args.station.now c.args.self.now c.args.row.now _ c.in_err-fields_in.ensures.answer)

pub returns-in_err-way : goal.returns-in_err-way
returns-in_err-way c =
    let five = in_range 5 5 (length c.args.row.now) c.in_ok-fields_in.ensures.within.0 c.in_ok-fields_in.ensures.within.1 in
    gives_err _ _ (errors.Fault c.in_err-way.field-0.0) _ c.from_residual-in_err-way.ensures.1
    (way_fails c.args.n c.args.station.now c.args.self.now c.args.row.now _ five c.in_err-way.ensures)

pub returns-in_err-takes : goal.returns-in_err-takes
returns-in_err-takes c =
    let five = in_range 5 5 (length c.args.row.now) c.in_ok-fields_in.ensures.within.0 c.in_ok-fields_in.ensures.within.1 in
    gives_err _ _ (errors.Fault c.in_err-takes.field-0.0) _ c.from_residual-in_err-takes.ensures.1
    (takes_fail c.args.n c.args.station.now c.args.self.now _ c.args.row.now c.in_ok-way.way _ _
    (sym c.self.view_is) five c.in_ok-way.ensures c.deref.ensures.value c.in_err-takes.ensures)

pub returns : goal.returns
returns c =
    let five = in_range 5 5 (length c.args.row.now) c.in_ok-fields_in.ensures.within.0 c.in_ok-fields_in.ensures.within.1 in
    takes_ok c.args.n c.args.station.now c.args.self.now _ c.args.row.now c.in_ok-way.way _ c.push.new.self.items c.in_ok-takes.takes
    (sym c.self.view_is) five c.in_ok-way.ensures c.deref.ensures.value c.in_ok-takes.ensures c.in_ok-push.ensures.items
