use Rattle.std.proofs.Common.{◌≡◌, ◌+◌, map}
use Rattle.std.specs.List.{range_with_len}
use Rattle.shunt_page.specs.defs.Departs.{seat_of}
use Rattle.shunt_page.proofs.departs.seats_of.Given as goal

abbrev pub invariant-loop-k : goal.invariant-loop-k
invariant-loop-k l = l.seats.items ≡ map (λ k. seat_of l.instance l.blocks (l.first + k)) (range_with_len 0 l.k)
