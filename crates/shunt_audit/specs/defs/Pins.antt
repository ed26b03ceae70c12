-- The findings of pins, which needn't have each unit and each position.
use Rattle.std.specs.Prelude.{◌==◌, ◌||◌, not, Bool, List, filter}
use Rattle.shunt_instance.specs.defs.Instance.{Night}
use Rattle.shunt_blocks.specs.declared.records.Block.{Block}
use Rattle.shunt_audit.specs.declared.types.Finding.{Finding}
use Rattle.shunt_audit.specs.defs.Findings.{kind_of}
use Rattle.shunt_audit.specs.defs.Listed.{findings_in}

-- whether it is a unit or a position that no block has
abbrev pub is_bare : Finding → Bool
is_bare f = kind_of f == 1 || kind_of f == 3

-- the findings of all other kinds
abbrev pub pin_findings : Night → List Block → List Finding
pin_findings night pins = filter (λ f. not (is_bare f)) (findings_in night pins)
