use Rattle.std.proofs.Common.{◌≡◌, ◌+◌, true}
use Rattle.shunt_lists.specs.defs.Below.{all_below}
use Rattle.shunt_choices.specs.defs.Free.{is_free_pair}
use Rattle.shunt_choices.proofs.free.run_at.Given as goal

abbrev pub invariant-loop-k : goal.invariant-loop-k
invariant-loop-k l = all_below l.k (λ k. is_free_pair l.instance l.covered (l.u + k) (l.v + k)) ≡ true
