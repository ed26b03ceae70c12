use Rattle.shunt_sheet.proofs.Stops.{in_words}
use Rattle.shunt_sheet.proofs.laws.following_in_words.Goals as goal

pub returns : goal.returns
returns c = in_words
