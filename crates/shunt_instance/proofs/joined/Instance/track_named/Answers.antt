use Rattle.std.proofs.Common.{refl, ap}
use Rattle.shunt_instance.proofs.Looked.{track_has, track_there, as_track}
use Rattle.shunt_instance.proofs.joined.Instance.track_named.Goals as goal

pub returns-in-Some-clause-some : goal.returns-in-Some-clause-some
returns-in-Some-clause-some c = track_has _ _ _ _ refl c.in-Some.ensures.exact

pub returns-in-Some-clause-only : goal.returns-in-Some-clause-only
returns-in-Some-clause-only c = λ k there. ap as_track (track_there _ _ _ _ k refl c.in-Some.ensures.exact c.track_place.ensures.distinct there)

pub returns-in-None-clause-only : goal.returns-in-None-clause-only
returns-in-None-clause-only c = λ k there. ap as_track (track_there _ _ _ _ k refl c.in-None.ensures.exact c.track_place.ensures.distinct there)
