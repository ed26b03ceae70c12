use Rattle.shunt_rows.specs.declared.fault.ReadError.TheVariants as errors
use Rattle.shunt_rows.proofs.Joins.{gives_err}
use Rattle.shunt_proof.specs.defs.CertificateFormat.{CertificateDraft, with_case, first_case_of, first_limits_in}
use Rattle.shunt_proof.proofs.Parts.{seen_ok, seen_err}
use Rattle.shunt_proof.proofs.draft.CertificateDraft.read_first_case.Goals as goal

pub returns-in_err-limits : goal.returns-in_err-limits
unfolding first_case_of
returns-in_err-limits c = let e = c.in_err-limits.field-0.0 in gives_err _ _ (errors.Fault e) _ c.from_residual.ensures.1
    (seen_err c.args.n _ c.args.self.now (λ (d : CertificateDraft). first_limits_in d.cases c.args.row.now)
    (with_case c.args.self.now) e c.self.view_is c.in_err-limits.ensures.answer)

pub returns : goal.returns
unfolding first_case_of
returns c = seen_ok c.args.n _ c.args.self.now (λ (d : CertificateDraft). first_limits_in d.cases c.args.row.now)
    (with_case c.args.self.now) c.in_ok-limits.limits _ c.self.view_is c.in_ok-limits.ensures.answer c.begin_case.ensures
