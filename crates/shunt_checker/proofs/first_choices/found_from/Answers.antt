use Rattle.std.specs.Prelude.{IfOk}
use Rattle.std.proofs.Common.{subst}
use Rattle.std.proofs.lemmas.Result.{IfOk-weaker}
use Rattle.shunt_instance.specs.declared.records.Unit.{Unit as TrainUnit}
use Rattle.shunt_instance.specs.defs.Instance.{IsUnitAt}
use Rattle.shunt_blocks.specs.defs.Shapes.{unit_from}
use Rattle.shunt_choices.specs.defs.Choices.{IsFreeShape}
use Rattle.shunt_checker.specs.defs.Firsts.{Finds}
use Rattle.shunt_checker.specs.defs.Searches.{IsOneOfShape, IsOneFrom, shape_from}
use Rattle.shunt_checker.specs.defs.NodeFaults.{EarlierChoice}
use Rattle.shunt_checker.proofs.Searches.{one_in}
use Rattle.shunt_checker.proofs.first_choices.found_from.Goals as goal

pub returns : goal.returns
returns g c =
    let night = c.args.instance.now in
    let covered = c.args.covered.now in
    let holds = g.S.Sought.holds c.args.sought.now night in
    let is = c.unit-unit.ensures.exact in
    IfOk-weaker c.first_option.result
    (Finds (IsOneOfShape holds (shape_from night c.args.u c.args.n c.args.dep c.args.q)) (EarlierChoice night))
    (Finds (IsOneFrom night covered holds c.args.u c.args.n c.args.dep c.args.q) (EarlierChoice night))
    (λ r f. one_in night (λ s k within lt. c.places.ensures.unit night s k within lt) covered holds c.args.u c.args.n c.args.dep c.args.q
    (subst (λ (x : TrainUnit). IsUnitAt night c.args.u x) is c.unit-unit.ensures.facts)
    (subst (λ (x : TrainUnit). IsFreeShape night covered (unit_from night (record { arr = x.train; p = x.place; n = c.args.n; dep = record { 0 = c.args.dep }; q = c.args.q }))
    (record { arr = x.train; p = x.place; n = c.args.n; dep = record { 0 = c.args.dep }; q = c.args.q })) is
    (c.is_free.ensures.0 c.if-not-is_free.false)) r f)
    (subst (λ (x : TrainUnit). IfOk c.first_option.result (Finds (IsOneOfShape holds
    (record { arr = x.train; p = x.place; n = c.args.n; dep = record { 0 = c.args.dep }; q = c.args.q })) (EarlierChoice night))) is c.first_option.ensures)
