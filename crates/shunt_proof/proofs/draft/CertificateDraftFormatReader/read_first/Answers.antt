use Rattle.std.proofs.Common.{rules, sym}
use Rattle.shunt_rows.specs.declared.fault.ReadError.TheVariants as errors
use Rattle.shunt_rows.proofs.Joins.{gives_err}
use Rattle.shunt_proof.specs.defs.CertificateFormat.{empty, version_in, first_of}
use Rattle.shunt_proof.proofs.Parts.{then_ok, then_err}
use Rattle.shunt_proof.proofs.draft.CertificateDraftFormatReader.read_first.Goals as goal

pub returns-in_err-version : goal.returns-in_err-version
unfolding first_of
returns-in_err-version c = let e = c.in_err-version.field-0.0 in gives_err _ _ (errors.Fault e) _ c.from_residual.ensures.1
    (then_err 1 (version_in c.args.row.now) empty e (sym c.in_err-version.ensures))

pub returns : goal.returns
unfolding first_of
returns c = then_ok 1 (version_in c.args.row.now) empty c.in_ok-version.version _ (sym c.in_ok-version.ensures) (search rules)
