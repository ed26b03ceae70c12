use Rattle.std.proofs.Common.{sym, subst}
use Rattle.shunt_choices.specs.defs.Free.{AreMasksOf}
use Rattle.shunt_choices.proofs.Trails.{length_units, length_places}
use Rattle.shunt_recount.proofs.recounts.all_counts.Goals as goal

pub all_candidates-requires-clause-covered : goal.all_candidates-requires-clause-covered
all_candidates-requires-clause-covered c =
    let night = c.args.instance.now in
    let blocks = c.args.path.now.blocks in
    let of : AreMasksOf night c.args.path.now.covered = subst (AreMasksOf night) (sym c.requires.path.covered)
    (record { units = length_units night blocks; places = length_places night blocks }) in
    let same = c.covered.ensures in
    subst (AreMasksOf night) (sym same) of
