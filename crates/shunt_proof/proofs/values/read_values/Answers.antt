use Rattle.std.proofs.Common.{sym, ap, ◌∙◌, ◌++◌, ◌∷◌, [], w64, rules, SFits}
use Rattle.std.proofs.lemmas.Int.{to_z-of_z}
use Rattle.shunt_rows.specs.declared.fault.ReadError.TheVariants as errors
use Rattle.shunt_rows.proofs.Joins.{gives_err}
use Rattle.shunt_proof.proofs.Parts.{one_value, no_value, all_values}
use Rattle.shunt_proof.proofs.values.read_values.Goals as goal

pub returns-in_err-value : goal.returns-in_err-value
returns-in_err-value c = let e = c.in_err-value.field-0.0 in gives_err _ _ (errors.Fault e) _ c.from_residual.ensures.1
    (no_value c.args.n c.args.row.now c.fields.k c.args.count c.fields.values.items e _ c.fields-test.true c.fields.invariant (sym c.in_err-value.ensures))

pub fields-preserved : goal.fields-preserved
fields-preserved c =
    let fits : SFits w64 c.in_ok-value.value = search rules in
    one_value c.args.n c.args.row.now c.fields.k c.args.count c.fields.values.items c.push.new.self.items c.in_ok-value.value _ c.fields-test.true c.fields.invariant
    (sym c.in_ok-value.ensures)
    (c.in_ok-push.ensures.items ∙ ap (λ z. c.fields.values.items ++ z ∷ []) (to_z-of_z w64 c.in_ok-value.value fits))

pub returns : goal.returns
returns c = all_values c.args.n c.args.row.now c.fields.k c.args.count c.fields.values.items _ c.fields-test.false c.fields.invariant
