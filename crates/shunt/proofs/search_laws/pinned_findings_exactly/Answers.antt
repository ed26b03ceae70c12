use Rattle.shunt.specs.defs.Calls.{MakePinned}
use Rattle.shunt.proofs.Searched.{findings_there, findings_only}
use Rattle.shunt.proofs.Planned.{pinned_search, pinned_answers}
use Rattle.shunt.proofs.search_laws.pinned_findings_exactly.Goals as goal

pub returns-clause-there : goal.returns-clause-there
returns-clause-there c = λ s t i m p k. findings_there (MakePinned s t i m p k) (pinned_search s t i m p k) (pinned_answers c.pins.ensures.usable s t i m p k)

pub returns-clause-only : goal.returns-clause-only
returns-clause-only c = λ s t i m p k. findings_only (MakePinned s t i m p k) (pinned_search s t i m p k) (pinned_answers c.pins.ensures.usable s t i m p k)
