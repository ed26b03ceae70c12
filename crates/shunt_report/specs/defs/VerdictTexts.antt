-- The printed text of a verdict on a certificate.
use Rattle.std.specs.Prelude.{ℕ, ℤ, ◌<◌, ◌==◌, List, [], ◌++◌, length, codes, decimal, Option, Some, None, if◌then◌else◌}
use Rattle.std.specs.Fmt.{signed_decimal}
use Rattle.shunt_rows.specs.defs.Written.{side_text}
use Rattle.shunt_instance.specs.defs.Instance.{Night, unit_total, position_total}
use Rattle.shunt_blocks.specs.declared.records.Block.{Block}
use Rattle.shunt_blocks.specs.declared.records.Park.{Park}
use Rattle.shunt_blocks.specs.defs.Shapes.{IsOnTrack}
use Rattle.shunt_plan.specs.defs.PlanRows.{arr_name, dep_name, track_name}
use Rattle.shunt_proof.specs.declared.records.Choice.{Choice}
use Rattle.shunt_proof.specs.declared.records.Certificate.{Certificate}
use Rattle.shunt_checker.specs.declared.verdict.PlanFault.{PlanFault}
use Rattle.shunt_checker.specs.declared.verdict.PlanFault.TheVariants as fault
use Rattle.shunt_checker.specs.declared.verdict.Reason.{Reason}
use Rattle.shunt_checker.specs.declared.verdict.Reason.TheVariants as reason
use Rattle.shunt_checker.specs.declared.verdict.Verdict.{Verdict}
use Rattle.shunt_checker.specs.declared.verdict.Verdict.TheVariants as verdict
use Rattle.shunt_report.specs.defs.FindingTexts.{unit_place, position_place, two_numbers}

-- ---- what is told is of the night

-- the departing train and the track of a choice are the night's
pub record IsChoiceOfNight (night : Night) (c : Choice) : Type 0 where
  pub dep : c.dep.0 < length night.depart
  pub track : IsOnTrack night.station c.park

-- both trains and the track of a block are the night's
pub record IsBlockOfNight (night : Night) (b : Block) : Type 0 where
  pub arr : b.arr.0 < length night.arrive
  pub dep : b.dep.0 < length night.depart
  pub track : IsOnTrack night.station b.park

-- the unit or the position that is told is the night's
abbrev pub IsPlanFaultOfNight : Night → PlanFault → Type 0
IsPlanFaultOfNight night (fault.BadBlock id) = Unit {0}
IsPlanFaultOfNight night (fault.Unit u) = u < unit_total night
IsPlanFaultOfNight night (fault.Place v) = v < position_total night
IsPlanFaultOfNight night (fault.Blocked id) = Unit {0}
IsPlanFaultOfNight night (fault.Over id load) = Unit {0}
IsPlanFaultOfNight night (fault.Cost stated real) = Unit {0}

-- so is what a reason tells
abbrev pub IsReasonOfNight : Night → Reason → Type 0
IsReasonOfNight night (reason.PlanFinding f) = IsPlanFaultOfNight night f
IsReasonOfNight night (reason.DualBroken block cost sum) = IsBlockOfNight night block
IsReasonOfNight night (reason.LeafLow bound stated) = Unit {0}
IsReasonOfNight night (reason.WholeLow cost stated) = Unit {0}
IsReasonOfNight night (reason.ChildMissing choice bound) = IsChoiceOfNight night choice
IsReasonOfNight night (reason.ChildNotThere choice) = IsChoiceOfNight night choice
IsReasonOfNight night (reason.ChildTwice choice) = IsChoiceOfNight night choice
IsReasonOfNight night (reason.CostStated stated cost) = Unit {0}
IsReasonOfNight night reason.WrongKind = Unit {0}
IsReasonOfNight night (reason.ChildNotLean bound best) = Unit {0}

-- so is what a verdict tells
abbrev pub IsVerdictOfNight : Night → Verdict → Type 0
IsVerdictOfNight night (verdict.Accepted bound) = Unit {0}
IsVerdictOfNight night (verdict.Rejected row r) = IsReasonOfNight night r

-- ---- its words

-- `unparked`, or `park TRACK IN OUT`
abbrev pub option_words : Night → Option Park → List ℕ
option_words night None = codes "unparked"
option_words night (Some k) = codes "park " ++ track_name night.station k.track ++ codes " " ++ side_text k.side_in ++ codes " " ++ side_text k.side_out

-- `N DEP Q` and the option
abbrev pub choice_words : Night → Choice → List ℕ
choice_words night c = decimal c.n ++ codes " " ++ dep_name night c.dep ++ codes " " ++ decimal c.q ++ codes " " ++ option_words night c.park

-- a block without its arriving train
abbrev pub choice_in : Block → Choice
choice_in b = record { n = b.n; dep = b.dep; q = b.q; park = b.park }

-- `ARR P`, and then as a choice
abbrev pub block_words : Night → Block → List ℕ
block_words night b = arr_name night b.arr ++ codes " " ++ decimal b.p ++ codes " " ++ choice_words night (choice_in b)

-- a word and a number
abbrev pub word_number : List ℕ → ℤ → List ℕ
word_number word number = codes " " ++ word ++ codes " " ++ signed_decimal number

-- what is wrong with a plan
abbrev pub plan_fault_words : Night → PlanFault → List ℕ
plan_fault_words night (fault.BadBlock id) = codes " block " ++ decimal id
plan_fault_words night (fault.Unit u) = codes " unit " ++ unit_place night u
plan_fault_words night (fault.Place v) = codes " place " ++ position_place night v
plan_fault_words night (fault.Blocked id) = codes " blocked " ++ decimal id
plan_fault_words night (fault.Over id load) = codes " over " ++ two_numbers id load
plan_fault_words night (fault.Cost stated real) = codes " cost " ++ two_numbers stated real

-- the number of a reason
abbrev pub reason_number : Reason → ℕ
reason_number (reason.PlanFinding f) = 1
reason_number (reason.DualBroken block cost sum) = 2
reason_number (reason.LeafLow bound stated) = 3
reason_number (reason.WholeLow cost stated) = 4
reason_number (reason.ChildMissing choice bound) = 5
reason_number (reason.ChildNotThere choice) = 6
reason_number (reason.ChildTwice choice) = 7
reason_number (reason.CostStated stated cost) = 8
reason_number reason.WrongKind = 9
reason_number (reason.ChildNotLean bound best) = 10

-- the words behind it, with a space before each
abbrev pub reason_words : Night → Reason → List ℕ
reason_words night (reason.PlanFinding f) = plan_fault_words night f
reason_words night (reason.DualBroken block cost sum) = codes " block " ++ block_words night block ++ word_number (codes "cost") cost ++ word_number (codes "duals") sum
reason_words night (reason.LeafLow bound stated) = word_number (codes "bound") bound ++ word_number (codes "stated") stated
reason_words night (reason.WholeLow cost stated) = word_number (codes "cost") cost ++ word_number (codes "stated") stated
reason_words night (reason.ChildMissing choice bound) = codes " child " ++ choice_words night choice ++ word_number (codes "bound") bound
reason_words night (reason.ChildNotThere choice) = codes " child " ++ choice_words night choice
reason_words night (reason.ChildTwice choice) = codes " child " ++ choice_words night choice
reason_words night (reason.CostStated stated cost) = word_number (codes "stated") stated ++ word_number (codes "cost") cost
reason_words night reason.WrongKind = []
reason_words night (reason.ChildNotLean bound best) = word_number (codes "bound") bound ++ word_number (codes "best") best

-- whether the bound reaches the cost
abbrev pub end_word : ℕ → ℕ → List ℕ
end_word cost bound = if bound == cost then codes "optimal" else codes "unfinished"

-- `accepted cost C bound B nodes N` and `optimal` or `unfinished`, or `rejected record R reason K` and the words behind it
unfoldable pub verdict_of : Night → Certificate → Verdict → List ℕ
verdict_of night c (verdict.Accepted bound) = codes "accepted cost " ++ decimal c.cost ++ codes " bound " ++ decimal bound ++ codes " nodes " ++ decimal (length c.nodes)
    ++ codes " " ++ end_word c.cost bound ++ codes "\n"
verdict_of night c (verdict.Rejected row r) = codes "rejected record " ++ decimal row ++ codes " reason " ++ decimal (reason_number r) ++ reason_words night r ++ codes "\n"
