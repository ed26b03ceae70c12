use Rattle.std.specs.Prelude.{filter, not}
use Rattle.std.proofs.Common.{◌≡◌, take}
use Rattle.shunt_stacks.specs.defs.Numbers.{shares}
use Rattle.shunt_fillings.proofs.candidates.apart_of.Given as goal

abbrev pub invariant-candidates : goal.invariant-candidates
invariant-candidates l = l.apart.items ≡ filter (λ k. not (shares l.instance l.block k.block)) (take l.candidate-index l.candidates)
