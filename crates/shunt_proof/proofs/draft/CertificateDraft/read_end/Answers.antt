use Rattle.shunt_rows.specs.declared.fault.ReadError.TheVariants as errors
use Rattle.shunt_rows.proofs.Joins.{gives_err}
use Rattle.shunt_proof.specs.defs.CertificateFormat.{CertificateDraft, with_end, end_of, end_in}
use Rattle.shunt_proof.proofs.Parts.{seen_ok, seen_err}
use Rattle.shunt_proof.proofs.draft.CertificateDraft.read_end.Goals as goal

pub returns-in_err-stated : goal.returns-in_err-stated
unfolding end_of
returns-in_err-stated c = let e = c.in_err-stated.field-0.0 in gives_err _ _ (errors.Fault e) _ c.from_residual.ensures.1
    (seen_err c.args.n _ c.args.self.now (λ (d : CertificateDraft). end_in d.begun c.args.row.now) (with_end c.args.self.now) e c.self.view_is c.in_err-stated.ensures)

pub returns : goal.returns
unfolding end_of
returns c = seen_ok c.args.n _ c.args.self.now (λ (d : CertificateDraft). end_in d.begun c.args.row.now)
    (with_end c.args.self.now) c.in_ok-stated.stated _ c.self.view_is c.in_ok-stated.ensures c.in_ok-end.ensures
