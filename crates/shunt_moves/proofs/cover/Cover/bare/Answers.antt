use Rattle.std.proofs.Common.{arith}
use Rattle.std.specs.Prelude.{◌==◌}
use Rattle.shunt_moves.specs.defs.Kept.{at}
use Rattle.shunt_moves.proofs.Points.{count_most}
use Rattle.shunt_moves.proofs.cover.Cover.bare.Goals as goal

pub returns-clause-few : goal.returns-clause-few
returns-clause-few c = omega (arith, c.self.invariant.bare_are, c.self.invariant.few, count_most c.self.inside.total (λ u. at c.self.inside.times u == 0))
