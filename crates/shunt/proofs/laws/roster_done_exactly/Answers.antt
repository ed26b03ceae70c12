use Rattle.shunt.proofs.Rostered.{DriverLaws, done_there, done_only, findings_there, findings_only, no_matching, no_unfinished}
use Rattle.shunt.proofs.laws.roster_done_exactly.Goals as goal

pub returns-clause-done : goal.returns-clause-done
returns-clause-done c = let laws : DriverLaws = record {
  crew = c.stated_values_are_formed.ensures.crew;
  roster = c.stated_values_are_formed.ensures.roster;
  words =
      c.roster_fault_in_words.ensures;
} in done_there laws

pub returns-clause-done_only : goal.returns-clause-done_only
returns-clause-done_only c = let laws : DriverLaws = record {
  crew = c.stated_values_are_formed.ensures.crew;
  roster = c.stated_values_are_formed.ensures.roster;
  words =
      c.roster_fault_in_words.ensures;
} in done_only laws

pub returns-clause-findings : goal.returns-clause-findings
returns-clause-findings c = let laws : DriverLaws = record {
  crew = c.stated_values_are_formed.ensures.crew;
  roster = c.stated_values_are_formed.ensures.roster;
  words =
      c.roster_fault_in_words.ensures;
} in findings_there laws

pub returns-clause-findings_only : goal.returns-clause-findings_only
returns-clause-findings_only c = let laws : DriverLaws = record {
  crew = c.stated_values_are_formed.ensures.crew;
  roster = c.stated_values_are_formed.ensures.roster;
  words =
      c.roster_fault_in_words.ensures;
} in findings_only laws

pub returns-clause-no_matching : goal.returns-clause-no_matching
returns-clause-no_matching c = no_matching

pub returns-clause-no_unfinished : goal.returns-clause-no_unfinished
returns-clause-no_unfinished c = no_unfinished
