use Rattle.std.proofs.Common.{◌≡◌, ◌+◌, drop}
use Rattle.shunt_rows.specs.defs.Formats.{reading, reading_from}
use Rattle.shunt_rows.proofs.reader.read.Given as goal

abbrev pub invariant-loop-i : goal.invariant-loop-i
invariant-loop-i g l = reading_from (g.R.FormatReader.format l.context) l.reader (l.i + 1) (drop l.i l.rows) ≡ reading (g.R.FormatReader.format l.context) l.rows
