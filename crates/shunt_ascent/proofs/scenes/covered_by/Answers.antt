use Rattle.std.proofs.Common.{sym, subst, ◌∙◌}
use Rattle.shunt_choices.specs.defs.Free.{AreMasksOf}
use Rattle.shunt_choices.proofs.Trails.{length_units, length_places}
use Rattle.shunt_ascent.proofs.scenes.covered_by.Goals as goal

pub returns : goal.returns
returns c = λ night of. subst (AreMasksOf night) (sym (c.covered.ensures ∙ of.covered))
    (record { units = length_units night c.args.path.now.blocks; places = length_places night c.args.path.now.blocks })
