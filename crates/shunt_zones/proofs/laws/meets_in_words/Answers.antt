use Rattle.shunt_zones.proofs.InWords.{all_meets}
use Rattle.shunt_zones.proofs.laws.meets_in_words.Goals as goal

pub returns : goal.returns
returns c = all_meets
