use Rattle.shunt_rows.proofs.Joins.{gives_err}
use Rattle.shunt_proof.specs.defs.CertificateFormat.{with_alpha, alpha_of, alpha_in}
use Rattle.shunt_proof.proofs.Parts.{then_ok, then_fails}
use Rattle.shunt_proof.proofs.draft.CertificateDraft.read_alpha.Goals as goal

pub returns-in_err-values : goal.returns-in_err-values
unfolding alpha_of
returns-in_err-values c = gives_err _ _ c.in_err-values.field-0.0 _ c.from_residual.ensures.1
    (then_fails c.args.n (alpha_in c.args.instance.now c.args.row.now) (with_alpha c.args.self.now) _ c.in_err-values.ensures)

pub returns : goal.returns
unfolding alpha_of
returns c = then_ok c.args.n (alpha_in c.args.instance.now c.args.row.now) (with_alpha c.args.self.now) c.in_ok-values.values.items _ c.in_ok-values.ensures c.set_alpha.ensures
