use Rattle.std.proofs.Common.{rules}
use Rattle.shunt_choices.proofs.Masks.{nothing_covered}
use Rattle.shunt_choices.proofs.covered.Covered.nothing.Goals as goal

-- src/covered.rt:60:5
pub returns : goal.returns
returns c = search (rules, nothing_covered)
