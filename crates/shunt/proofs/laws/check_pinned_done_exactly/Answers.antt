use Rattle.shunt.specs.defs.Calls.{CheckPinned}
use Rattle.shunt_judging.specs.defs.Pinned.{IsPinProved}
use Rattle.shunt.proofs.Either.{done_there, done_only, findings_there, findings_only, no_matching, no_unfinished}
use Rattle.shunt.proofs.PinChecks.{parts}
use Rattle.shunt.proofs.laws.check_pinned_done_exactly.Goals as goal

pub returns-clause-done : goal.returns-clause-done
returns-clause-done c = λ s t i p k. done_there (CheckPinned s t i p k) IsPinProved (parts c.pins.ensures.usable c.reasons.ensures.verdict s t i p k)

pub returns-clause-done_only : goal.returns-clause-done_only
returns-clause-done_only c = λ s t i p k. done_only (CheckPinned s t i p k) IsPinProved (parts c.pins.ensures.usable c.reasons.ensures.verdict s t i p k)

pub returns-clause-findings : goal.returns-clause-findings
returns-clause-findings c = λ s t i p k. findings_there (CheckPinned s t i p k) IsPinProved (parts c.pins.ensures.usable c.reasons.ensures.verdict s t i p k)

pub returns-clause-findings_only : goal.returns-clause-findings_only
returns-clause-findings_only c = λ s t i p k. findings_only (CheckPinned s t i p k) IsPinProved (parts c.pins.ensures.usable c.reasons.ensures.verdict s t i p k)

pub returns-clause-no_matching : goal.returns-clause-no_matching
returns-clause-no_matching c = λ s t i p k. no_matching (CheckPinned s t i p k) IsPinProved (parts c.pins.ensures.usable c.reasons.ensures.verdict s t i p k)

pub returns-clause-no_unfinished : goal.returns-clause-no_unfinished
returns-clause-no_unfinished c = λ s t i p k. no_unfinished (CheckPinned s t i p k) IsPinProved (parts c.pins.ensures.usable c.reasons.ensures.verdict s t i p k)
