use Rattle.shunt_drivers.proofs.RosterWords.{words}
use Rattle.shunt_drivers.proofs.laws.roster_fault_in_words.Goals as goal

pub returns : goal.returns
returns c = words
