use Rattle.shunt_make.proofs.Paired.{made_moving}
use Rattle.shunt_make.proofs.Sized.{made_tracks, made_permits, made_arrive, made_depart}
use Rattle.shunt_make.proofs.laws.made_sizes.Goals as goal

pub returns-clause-tracks : goal.returns-clause-tracks
returns-clause-tracks c = made_tracks

pub returns-clause-permits : goal.returns-clause-permits
returns-clause-permits c = made_permits

pub returns-clause-arriving : goal.returns-clause-arriving
returns-clause-arriving c = made_arrive

pub returns-clause-departing : goal.returns-clause-departing
returns-clause-departing c = made_depart

pub returns-clause-moving : goal.returns-clause-moving
returns-clause-moving c = made_moving
