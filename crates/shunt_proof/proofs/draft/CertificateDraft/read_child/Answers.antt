use Rattle.shunt_rows.specs.declared.fault.ReadError.TheVariants as errors
use Rattle.shunt_rows.proofs.Joins.{gives_err}
use Rattle.shunt_proof.specs.defs.CertificateFormat.{CertificateDraft, with_node, child_of, child_in}
use Rattle.shunt_proof.proofs.Parts.{seen_ok, seen_err}
use Rattle.shunt_proof.proofs.draft.CertificateDraft.read_child.Goals as goal

pub returns-in_err-head : goal.returns-in_err-head
unfolding child_of
returns-in_err-head c = let e = c.in_err-head.field-0.0 in gives_err _ _ (errors.Fault e) _ c.from_residual.ensures.1
    (seen_err c.args.n _ c.args.self.now (λ (d : CertificateDraft). child_in c.args.instance.now d.begun d.head c.args.row.now)
    (with_node c.args.self.now) e c.self.view_is c.in_err-head.ensures.answer)

pub returns : goal.returns
unfolding child_of
returns c = seen_ok c.args.n _ c.args.self.now (λ (d : CertificateDraft). child_in c.args.instance.now d.begun d.head c.args.row.now)
    (with_node c.args.self.now) c.in_ok-head.head _ c.self.view_is c.in_ok-head.ensures.answer c.in_ok-add_node.ensures
