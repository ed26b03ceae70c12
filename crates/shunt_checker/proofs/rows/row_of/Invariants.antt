use Rattle.std.proofs.Common.{◌≡◌, ◌≤◌, ◌+◌, ◌*◌}
use Rattle.shunt_proof.specs.defs.CertificateRows.{row_of}
use Rattle.shunt_checker.proofs.rows.row_of.Given as goal

abbrev pub invariant-loop-j : goal.invariant-loop-j
invariant-loop-j l = record {
  row : l.row ≡ row_of l.nodes l.j;
  small : l.row ≤ 2 + 135 * l.j;
}
