use Rattle.shunt_stays.proofs.OtherIds.{finds_from, found_through, found_back, tracks_found, zip_through}
use Rattle.shunt_stays.proofs.laws.renaming.Goals as goal

pub returns-clause-part : goal.returns-clause-part
returns-clause-part c = λ lengths stays part a on b d h go. let f = finds_from part stays h in found_through lengths stays part a on b (tracks_found lengths stays part on f) d f go

pub returns-clause-all : goal.returns-clause-all
returns-clause-all c = λ lengths stays others a on b d z. zip_through lengths stays others a on b (tracks_found lengths stays others on (found_back stays others z)) d z
