use Rattle.std.proofs.Common.{sym}
use Rattle.shunt_search.proofs.Stays.{came}
use Rattle.shunt_search.proofs.polisher.settle.Goals as goal

pub returns-in-Some-clause-stays : goal.returns-in-Some-clause-stays
returns-in-Some-clause-stays c = came _ c.in-Some.stay c.args.timelines.now.stays c.insert.new.self.stays (sym c.in-Some.ensures.exact) c.insert.ensures.stays
