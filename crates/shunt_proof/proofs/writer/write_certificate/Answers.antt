use Rattle.std.proofs.Common.{◌≡◌, ap}
use Rattle.shunt_rows.proofs.Texts.{if_ok}
use Rattle.shunt_rows.specs.defs.Records.{text_of_rows}
use Rattle.shunt_proof.specs.defs.CertificateRows.{rows_of}
use Rattle.shunt_proof.proofs.RoundTrip.{back_from}
use Rattle.shunt_proof.proofs.Lengths.{short_from}
use Rattle.shunt_proof.proofs.writer.write_certificate.Goals as goal

whole : (c : goal.After-finish) → c.in_ok-written.field-0.text ≡ text_of_rows (rows_of c.args.instance.now c.args.certificate.now)
whole c = ap (λ w. w.text) c.in_ok-written.ensures

pub returns-clause-again : goal.returns-clause-again
returns-clause-again c = if_ok c.finish.result _ _ c.finish.ensures.again (λ v p. back_from c.args.instance.now c.args.certificate.now c.station.ensures.formed c.requires _ v.items
    (whole c) p)

pub returns-clause-short : goal.returns-clause-short
returns-clause-short c = if_ok c.finish.result _ _ c.finish.ensures.text (λ v p. short_from c.args.instance.now c.args.certificate.now c.station.ensures.formed c.requires _ v.items
    (whole c) p)
