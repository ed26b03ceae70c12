use Rattle.std.proofs.Common.{◌<◌, ◌-◌, ◌∙◌, sym, ap, arith, length, get_or, List, [], ℕ}
use Rattle.std.specs.Prelude.{slice_get}
use Rattle.csv.specs.Records.{fields_of}
use Rattle.shunt_rows.proofs.Places.{field_is, field_at_is, in_reach}
use Rattle.shunt_rows.proofs.row.Row.field.Goals as goal

pub unreachable-requires : goal.unreachable-requires
unreachable-requires c =
    let lt : c.args.k - 1 < length (fields_of c.self.inside.record) = omega (arith, ap length c.self.view_is) in
    in_reach (fields_of c.self.inside.record) (c.args.k - 1) lt (sym (field_is (fields_of c.self.inside.record) (c.args.k - 1)) ∙ sym c.in-None.ensures.value)

pub returns-clause-some : goal.returns-clause-some
returns-clause-some c =
    ap (λ l. slice_get l (c.args.k - 1)) (sym c.self.view_is) ∙ sym (field_is (fields_of c.self.inside.record) (c.args.k - 1)) ∙ sym c.in-Some.ensures.value

pub returns-clause-value : goal.returns-clause-value
returns-clause-value c =
    field_at_is (fields_of c.self.inside.record) (c.args.k - 1) c.in-Some.field.now c.in-Some.ensures.value ∙ ap (λ (l : List (List ℕ)). get_or l (c.args.k - 1) []) c.self.view_is
