use Rattle.std.proofs.Common.{sym, replicate}
use Rattle.shunt_moves.proofs.Points.{none_counted, none_twice, zeros}
use Rattle.shunt_moves.proofs.cover.Cover.new.Goals as goal

pub invariant_of-result : goal.invariant_of-result
invariant_of-result c = record {
  few = c.requires;
  bare_are = sym (none_counted c.args.total (replicate 160 0) (zeros 160));
  twice_are = sym
      (none_twice c.args.total (replicate 160 0) (zeros 160));
}

pub returns-clause-none : goal.returns-clause-none
returns-clause-none c = zeros 160
