use Rattle.std.proofs.Common.{◌≡◌, ◌+◌, ◌++◌, drop}
use Rattle.shunt_judging.specs.defs.Replayed.{after_turns, lines_from}
use Rattle.shunt_judging.proofs.turns.do_turns.Given as goal

abbrev pub invariant-turns : goal.invariant-turns
invariant-turns l = record {
  number : l.number ≡ l.turn-index;
  bench : after_turns l.bench (drop l.turn-index l.turns) ≡ after_turns l.initial.bench l.turns;
  text : l.text.items ++ lines_from (l.number + 1) l.bench (drop l.turn-index l.turns) ≡ lines_from 1 l.initial.bench l.turns;
}
