use Rattle.shunt_choices.proofs.Offered.{options_are, options_rise}
use Rattle.shunt_choices.proofs.laws.shape_options.Goals as goal

pub returns : goal.returns
returns c = record {
  members = λ night s o. options_are night s o;
  rise = λ night s. options_rise night s;
}
