use Rattle.std.proofs.Common.{arith}
use Rattle.std.specs.Prelude.{nat_le}
use Rattle.shunt_moves.specs.defs.Kept.{at}
use Rattle.shunt_moves.proofs.Points.{count_most}
use Rattle.shunt_moves.proofs.cover.Cover.twice.Goals as goal

pub returns-clause-few : goal.returns-clause-few
returns-clause-few c = omega (arith, c.self.invariant.twice_are, c.self.invariant.few, count_most c.self.inside.total (λ u. nat_le 2 (at c.self.inside.times u)))
