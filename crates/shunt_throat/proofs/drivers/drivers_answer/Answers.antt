use Rattle.shunt_throat.proofs.SharedDuties.{shared_as}
use Rattle.shunt_throat.proofs.drivers.drivers_answer.Goals as goal

pub returns : goal.returns
returns c =
    shared_as c.args.roster.now (record { night = c.args.instance.now; plan = c.args.plan.now; crew = c.args.crew.now }) _ _ _ _ _ _ c.in_ok-sharing.ensures.fewest
    c.in_ok-sharing.ensures.roster c.in_ok-written.ensures.text c.in_ok-one_file.ensures
    c.in_ok-sharing_text.ensures
