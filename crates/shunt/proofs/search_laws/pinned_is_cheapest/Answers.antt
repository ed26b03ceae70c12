use Rattle.shunt.specs.defs.Calls.{MakePinned}
use Rattle.shunt.proofs.Searched.{done_cheapest}
use Rattle.shunt.proofs.Planned.{pinned_search, pinned_answers}
use Rattle.shunt.proofs.search_laws.pinned_is_cheapest.Goals as goal

pub returns : goal.returns
returns c = λ s t i m p k. done_cheapest (MakePinned s t i m p k) (pinned_search s t i m p k) (pinned_answers c.pins.ensures.usable s t i m p k) c.proved_bounds.ensures.accepted
