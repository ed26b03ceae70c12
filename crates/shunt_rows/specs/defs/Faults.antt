-- Kinds of faults, and the order of faults.
use Rattle.std.specs.Prelude.{ℕ}
use Rattle.shunt_rows.specs.declared.fault.RowKind.{RowKind}
use Rattle.shunt_rows.specs.declared.fault.RowKind.TheVariants as kinds

-- the number of a kind
abbrev pub kind_number : RowKind → ℕ
kind_number kinds.Kind = 1
kind_number kinds.Fields = 2
kind_number kinds.Name = 3
kind_number kinds.Number = 4
kind_number kinds.Time = 5
kind_number kinds.Unknown = 6
kind_number kinds.Repeat = 7
kind_number kinds.Limit = 8
kind_number kinds.Missing = 9
kind_number kinds.ClosedSide = 10
kind_number kinds.Tail = 11
