use Rattle.std.proofs.Common.{◌≡◌, ◌++◌, drop}
use Rattle.shunt_make.specs.defs.Made.{ways_from}
use Rattle.shunt_make.proofs.stations.push_ways.Given as goal

abbrev pub invariant-loop-k : goal.invariant-loop-k
invariant-loop-k l = l.ways.items ++ ways_from l.platform l.k (drop l.k l.tracks) ≡ l.initial.ways.items ++ ways_from l.platform 0 l.tracks
