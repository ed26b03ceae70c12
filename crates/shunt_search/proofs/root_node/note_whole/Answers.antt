use Rattle.std.proofs.Common.{refl}
use Rattle.shunt_search.proofs.Opened.{root_follows}
use Rattle.shunt_search.proofs.root_node.note_whole.Goals as goal

pub note-requires-clause-place : goal.note-requires-clause-place
note-requires-clause-place g c = root_follows _ _ refl c.requires.told
