use Rattle.shunt.specs.defs.Calls.{MakePinned}
use Rattle.shunt.proofs.Searched.{done_there, ends_well}
use Rattle.shunt.proofs.Planned.{pinned_search, pinned_answers}
use Rattle.shunt.proofs.search_laws.pinned_completes.Goals as goal

pub returns-clause-done : goal.returns-clause-done
returns-clause-done c = λ s t i m p k. done_there (MakePinned s t i m p k) (pinned_search s t i m p k) (pinned_answers c.pins.ensures.usable s t i m p k)

pub returns-clause-ends : goal.returns-clause-ends
returns-clause-ends c = λ s t i m p k. ends_well (MakePinned s t i m p k) (pinned_search s t i m p k) (pinned_answers c.pins.ensures.usable s t i m p k)
