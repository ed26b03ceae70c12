use lib.IntN.{nat_abs}
use Rattle.std.proofs.Common.{w64, ℤ, pos, sym, subst, ap, ◌∙◌}
use Rattle.std.proofs.lemmas.Int.{to_z-of_z}
use Rattle.shunt_search.specs.defs.Endings.{IsLeft}
use Rattle.shunt_search.proofs.conclusion.bound_left.Goals as goal

pub returns : goal.returns
returns c =
    let search = c.args.search.now in
    let low = c.left_bound-low.result in
    let natural = c.requires low c.left_bound-low.ensures in
    let seen = to_z-of_z w64 low (record { sfits = c.left_bound-low.type_inv }) in
    subst (λ (z : ℤ). IsLeft search.waiting.items search.low z) (natural.1 ∙ sym (ap (λ (z : ℤ). pos (nat_abs z)) (seen ∙ natural.1))) c.left_bound-low.ensures
