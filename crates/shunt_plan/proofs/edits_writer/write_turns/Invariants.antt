use Rattle.std.proofs.Common.{◌≡◌, ◌++◌, map, drop, []}
use Rattle.shunt_rows.specs.defs.Records.{text_of_rows}
use Rattle.shunt_plan.specs.defs.WrittenEdits.{turn_row}
use Rattle.shunt_plan.proofs.edits_writer.write_turns.Given as goal

abbrev pub invariant-turns : goal.invariant-turns
invariant-turns l = record {
  row : l.writer.row ≡ [];
  text : l.writer.text ++ text_of_rows (map (turn_row l.instance) (drop l.turn-index l.turns)) ≡ l.fn.writer.text ++ text_of_rows (map (turn_row l.instance) l.turns);
}
