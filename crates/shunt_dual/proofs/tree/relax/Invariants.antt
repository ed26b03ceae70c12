use Rattle.std.proofs.Common.{◌≡◌, ◌<◌, ◌≤◌, ℕ}
use Rattle.shunt_dual.specs.defs.Tables.{at}
use Rattle.shunt_dual.specs.defs.Tree.{IsTriedRow}
use Rattle.shunt_dual.proofs.tree.relax.Given as goal

abbrev pub invariant-loop-c : goal.invariant-loop-c
invariant-loop-c l = record {
  tried : (q : ℕ) → q < l.c → IsTriedRow l.r l.own l.base (at l.row q) (at l.debt q) (at l.fn.distance q) (at l.fn.way q) (at l.distance q) (at l.way q);
  rest : (q : ℕ) → l.c ≤ q → at l.distance q ≡ at l.fn.distance q;
  rest_way : (q : ℕ) → l.c ≤ q → at l.way q ≡ at l.fn.way q;
}
