use Rattle.std.proofs.Common.{take_all}
use Rattle.shunt_store.proofs.TableLaws.{absent, placed, held_there}
use Rattle.shunt_store.proofs.table.place_of.Goals as goal

pub returns-then-place-files-clause-some : goal.returns-then-place-files-clause-some
returns-then-place-files-clause-some c =
    placed c.args.files.now c.first_of-place.result c.args.name.now c.if-place-files.true c.first_of-place.ensures.before c.first_of-place.ensures.here

pub returns-then-place-files-clause-found : goal.returns-then-place-files-clause-found
returns-then-place-files-clause-found c =
    held_there c.args.files.now c.first_of-place.result c.args.name.now
    (placed c.args.files.now c.first_of-place.result c.args.name.now c.if-place-files.true c.first_of-place.ensures.before c.first_of-place.ensures.here)

pub returns-else-place-files-clause-none : goal.returns-else-place-files-clause-none
returns-else-place-files-clause-none c = absent c.args.files.now c.args.name.now (rw
    (take_all c.first_of-place.result c.args.files.now c.if-place-files.false) at c.first_of-place.ensures.before)

pub returns-else-place-files-clause-lacks : goal.returns-else-place-files-clause-lacks
returns-else-place-files-clause-lacks c = rw (take_all c.first_of-place.result c.args.files.now c.if-place-files.false) at c.first_of-place.ensures.before
