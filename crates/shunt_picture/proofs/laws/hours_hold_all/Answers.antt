use Rattle.shunt_picture.proofs.Hours.{arrive_held, depart_held}
use Rattle.shunt_picture.proofs.laws.hours_hold_all.Goals as goal

pub returns-clause-arrive : goal.returns-clause-arrive
returns-clause-arrive c = arrive_held

pub returns-clause-depart : goal.returns-clause-depart
returns-clause-depart c = depart_held
