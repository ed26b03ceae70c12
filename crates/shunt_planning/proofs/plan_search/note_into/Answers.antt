use Rattle.std.proofs.Common.{sym}
use Rattle.shunt_planning.proofs.plan_search.note_into.Goals as goal

pub returns-clause-same_reference : goal.returns-clause-same_reference
returns-clause-same_reference g c = sym c.note_found.ensures.keeps.0

pub returns-clause-keeps : goal.returns-clause-keeps
returns-clause-keeps g c = c.note_found.ensures.keeps.1.0

pub returns-clause-files : goal.returns-clause-files
returns-clause-files g c = c.note_found.ensures.keeps.1.1.0

pub returns-clause-heard : goal.returns-clause-heard
returns-clause-heard g c = c.note_found.ensures.keeps.1.1.1.0

pub returns-clause-stored : goal.returns-clause-stored
returns-clause-stored g c = c.note_found.ensures.keeps.1.1.1.1
