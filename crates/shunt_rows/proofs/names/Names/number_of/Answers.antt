use Rattle.std.proofs.Common.{◌∙◌, ap, List, ℕ}
use Rattle.std.specs.Prelude.{bytes_eq, position}
use Rattle.shunt_rows.proofs.Numbers.{place_is}
use Rattle.shunt_rows.proofs.names.Names.number_of.Goals as goal

pub returns-clause-value : goal.returns-clause-value
returns-clause-value c = c.get_index_of.ensures.index ∙ place_is c.args.name.now c.self.inside.names.keys
    ∙ ap (λ (l : List (List ℕ)). position (λ n. bytes_eq n c.args.name.now) l) c.self.view_is
