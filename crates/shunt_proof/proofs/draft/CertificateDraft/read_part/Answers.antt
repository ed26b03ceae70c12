use Rattle.std.proofs.Common.{ap, ◌∙◌, List}
use Rattle.shunt_base.specs.declared.duals.Price.{Price}
use Rattle.shunt_rows.specs.declared.fault.ReadError.TheVariants as errors
use Rattle.shunt_rows.proofs.Joins.{gives_err}
use Rattle.shunt_proof.specs.defs.CertificateFormat.{CertificateDraft, with_price, part_of, part_in}
use Rattle.shunt_proof.proofs.Parts.{seen_ok, seen_err}
use Rattle.shunt_proof.proofs.draft.CertificateDraft.read_part.Goals as goal

pub returns-in_err-price : goal.returns-in_err-price
unfolding part_of
returns-in_err-price c = let e = c.in_err-price.field-0.0 in gives_err _ _ (errors.Fault e) _ c.from_residual.ensures.1
    (seen_err c.args.n _ c.args.self.now.now.duals.prices (λ (l : List Price). part_in c.args.instance.now l c.args.row.now) (with_price c.args.self.now) e
    (c.deref.ensures.value ∙ ap (λ (d : CertificateDraft). d.now.duals.prices) c.self.view_is) c.in_err-price.ensures)

pub returns : goal.returns
unfolding part_of
returns c = seen_ok c.args.n _ c.args.self.now.now.duals.prices (λ (l : List Price). part_in c.args.instance.now l c.args.row.now)
    (with_price c.args.self.now) c.in_ok-price.price _ (c.deref.ensures.value ∙ ap (λ (d : CertificateDraft). d.now.duals.prices) c.self.view_is) c.in_ok-price.ensures
    c.in_ok-add_price.ensures
