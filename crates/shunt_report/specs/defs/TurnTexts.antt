-- The printed line of a turn of edits.
use Rattle.std.specs.Prelude.{ℕ, List, ◌++◌, codes, decimal}
use Rattle.shunt_report.specs.declared.turns.TurnOutcome.{TurnOutcome}
use Rattle.shunt_report.specs.declared.turns.TurnOutcome.TheVariants as outcome

-- the word for how a turn ended
abbrev pub outcome_word : TurnOutcome → List ℕ
outcome_word outcome.Ok = codes "ok"
outcome_word outcome.NoBlock = codes "no-block"
outcome_word outcome.BadCount = codes "bad-count"
outcome_word outcome.NotAdjacent = codes "not-adjacent"
outcome_word outcome.BadRange = codes "bad-range"
outcome_word outcome.Full = codes "full"
outcome_word outcome.IdsSpent = codes "ids-spent"
outcome_word outcome.Nothing = codes "nothing"

-- `NUMBER OUTCOME findings F cost C`
unfoldable pub turn_line : ℕ → TurnOutcome → ℕ → ℕ → List ℕ
turn_line number ended total cost = decimal number ++ codes " " ++ outcome_word ended ++ codes " findings " ++ decimal total ++ codes " cost " ++ decimal cost ++ codes "\n"
