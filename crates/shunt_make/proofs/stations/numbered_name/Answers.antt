use Rattle.std.proofs.Common.{◌≡◌, ◌∷◌, rules, sym, subst, arith}
use Rattle.std.specs.Fmt.{decimal}
use Rattle.std.proofs.lemmas.Grind.{common_steps}
use Rattle.shunt_base.specs.defs.Spelling.{IsName}
use Rattle.shunt_make.proofs.Spelled.{named}
use Rattle.shunt_make.proofs.stations.numbered_name.Goals as goal

pub new-requires : goal.new-requires
new-requires c =
    let is : c.deref.result.now ≡ c.args.letter ∷ decimal c.args.number = first_of (search rules, grind (arith, common_steps)) in
    subst IsName (sym is) (named c.args.letter c.args.number c.requires (omega arith))
