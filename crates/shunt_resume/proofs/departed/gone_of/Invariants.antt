use Rattle.std.proofs.Common.{◌≡◌, ◌++◌, filter, drop}
use Rattle.shunt_resume.specs.defs.Resumed.{has_gone_by}
use Rattle.shunt_resume.proofs.departed.gone_of.Given as goal

abbrev pub invariant-goings : goal.invariant-goings
invariant-goings l = l.gone.items ++ filter (has_gone_by l.instance l.minute) (drop l.block-index l.blocks) ≡ filter (has_gone_by l.instance l.minute) l.blocks
