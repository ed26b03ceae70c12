use Rattle.std.proofs.Common.{[], refl}
use Rattle.shunt_rows.proofs.Sections.{section}
use Rattle.shunt_rows.proofs.laws.lists_are_read.Goals as goal

pub returns : goal.returns
returns g c = λ f row state all n each. section f row state all each n [] all refl
