use Rattle.std.proofs.Common.{◌≡◌, ◌+◌, ◌-◌}
use Rattle.shunt_rows.specs.defs.Checks.{answer}
use Rattle.shunt_proof.specs.defs.CertificateFormat.{values_in}
use Rattle.shunt_proof.proofs.Parts.{behind}
use Rattle.shunt_proof.proofs.values.read_values.Given as goal

abbrev pub invariant-fields : goal.invariant-fields
invariant-fields l = answer l.n (values_in l.row 2 l.count) ≡ behind l.values.items (answer l.n (values_in l.row (l.k + 2) (l.count - l.k)))
