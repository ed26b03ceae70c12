use Rattle.std.proofs.Common.{sym}
use Rattle.shunt_rows.proofs.Joins.{gives_err}
use Rattle.shunt_proof.specs.defs.CertificateFormat.{CertificateDraft, with_lone, lone_alpha_of, lone_alpha_in}
use Rattle.shunt_proof.proofs.Parts.{seen_ok, seen_fails}
use Rattle.shunt_proof.proofs.draft.CertificateDraft.read_lone_alpha.Goals as goal

pub returns-in_err-values : goal.returns-in_err-values
unfolding lone_alpha_of
returns-in_err-values c = gives_err _ _ c.in_err-values.field-0.0 _ c.from_residual.ensures.1
    (seen_fails c.args.n _ c.args.self.now (λ (d : CertificateDraft). lone_alpha_in c.args.instance.now d.cases c.args.row.now)
    (with_lone c.args.self.now) _ c.self.view_is c.in_err-values.ensures.answer)

pub returns : goal.returns
unfolding lone_alpha_of
returns c = seen_ok c.args.n _ c.args.self.now (λ (d : CertificateDraft). lone_alpha_in c.args.instance.now d.cases c.args.row.now)
    (with_lone c.args.self.now) c.in_ok-values.values.items _ c.self.view_is (sym c.in_ok-values.ensures.answer) c.begin_lone.ensures
