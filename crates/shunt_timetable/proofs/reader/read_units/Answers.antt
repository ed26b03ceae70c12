use Rattle.std.proofs.Common.{◌≡◌, suc, ◌+◌, ◌-◌, refl, length, length-append, [], ◌∷◌, sym, ap, ◌∙◌, arith}
use Rattle.shunt_rows.specs.declared.fault.ReadError.TheVariants as errors
use Rattle.shunt_rows.proofs.Joins.{gives_err}
use Rattle.shunt_instance.specs.declared.records.Train.{Train}
use Rattle.shunt_timetable.proofs.Parts.{one_more, unit_fails, same_name}
use Rattle.shunt_timetable.proofs.reader.read_units.Goals as goal

-- src/reader.rt:171:20
pub returns-in_err-kind-clause-stated : goal.returns-in_err-kind-clause-stated
returns-in_err-kind-clause-stated c =
    let more = length c.args.row.now + 1 - (c.loop-k.k + 1) in
    let left : length c.args.row.now + 1 - c.loop-k.k ≡ suc more = omega (arith, c.loop-k-test.true, c.len-last.ensures.value) in
    let bare : Train = record { name = c.name.inside.bytes.items; minute = c.args.minute; origin = c.args.origin; units = c.loop-k.units.items; placed = [] } in
    let e = c.in_err-kind.field-0.0 in
    let here = unit_fails c.args.n c.args.station.now c.args.before bare c.args.row.now c.loop-k.k _ more e _ _ left refl
    (ap (λ x. c.args.before + x) (c.len.ensures ∙ c.loop-k.units.ok.0)) c.in_err-kind.ensures.answer in
    gives_err _ _ (errors.Fault e) _ c.from_residual.ensures.1
    (same_name c.args.n c.args.station.now c.args.before c.args.minute c.args.origin c.args.row.now c.args.first _ _ _ _ c.name.view_is (sym c.loop-k.invariant.stated ∙ here))

-- src/reader.rt:170:5
pub loop-k-preserved : goal.loop-k-preserved
loop-k-preserved c =
    let more = length c.args.row.now + 1 - (c.loop-k.k + 1) in
    let left : length c.args.row.now + 1 - c.loop-k.k ≡ suc more = omega (arith, c.loop-k-test.true, c.len-last.ensures.value) in
    let bare : Train = record { name = c.name.inside.bytes.items; minute = c.args.minute; origin = c.args.origin; units = c.loop-k.units.items; placed = [] } in
    let few = c.loop-k.invariant.few in
    record {
      stated = sym (one_more c.args.n c.args.station.now c.args.before bare c.args.row.now c.loop-k.k _ more c.in_ok-kind.kind _ _ _ left c.in_ok-push.ensures.items refl
          (ap (λ x. c.args.before + x) (c.len.ensures ∙ c.loop-k.units.ok.0)) c.in_ok-kind.ensures.answer) ∙ c.loop-k.invariant.stated;
      few = omega (arith, few, ap length c.in_ok-push.ensures.items, length-append c.loop-k.units.items (c.in_ok-kind.kind ∷ []));
      room = omega (
        arith,
        c.in_ok-kind.ensures.room,
        c.len.ensures,
        c.loop-k.units.ok.0,
        ap length c.in_ok-push.ensures.items,
        length-append c.loop-k.units.items (c.in_ok-kind.kind ∷ []),
      );
    }
