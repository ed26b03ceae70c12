use Rattle.std.proofs.Common.{ap, ◌∙◌, List, ℕ}
use Rattle.std.specs.Prelude.{bytes_eq}
use Rattle.std.specs.List.{list_any}
use Rattle.shunt_rows.proofs.Numbers.{any_is}
use Rattle.shunt_rows.proofs.names.Names.has.Goals as goal

pub returns : goal.returns
returns c = c.contains.ensures ∙ any_is c.args.name.now c.self.inside.names.keys ∙ ap (λ (l : List (List ℕ)). list_any (λ n. bytes_eq n c.args.name.now) l) c.self.view_is
