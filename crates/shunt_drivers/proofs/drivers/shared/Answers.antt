use Rattle.shunt_drivers.proofs.MovesShared.{all_shared, all_written}
use Rattle.shunt_drivers.proofs.drivers.shared.Goals as goal

pub returns-clause-fewest : goal.returns-clause-fewest
returns-clause-fewest c = all_shared c.args.instance.now c.args.crew.now c.args.moves.now c.in_ok-shares.shares.shares.items _ c.in_ok-duties.duties.items
    c.in_ok-shares.shares.drivers _ c.in_ok-shares.shares.busy _
    c.in_ok-shares.ensures.least c.deref.ensures.value c.in_ok-shares.ensures.many c.in_ok-duties.ensures.exact c.requires.differ c.count_of.ensures c.minute_of.ensures

pub returns-clause-roster : goal.returns-clause-roster
returns-clause-roster c = all_written c.args.instance.now c.args.crew.now c.args.moves.now c.in_ok-shares.shares.shares.items _ c.in_ok-duties.duties.items
    c.in_ok-shares.shares.drivers c.in_ok-shares.shares.busy
    c.in_ok-shares.ensures.least c.deref.ensures.value c.in_ok-shares.ensures.many c.in_ok-duties.ensures.exact c.requires.differ c.requires.few c.in_ok-duties.ensures.small
